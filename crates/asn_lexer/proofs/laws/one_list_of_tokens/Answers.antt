use Rattle.asn_lexer.proofs.Reading.{same_tokens}
use Rattle.asn_lexer.proofs.laws.one_list_of_tokens.Goals as goal

pub returns : goal.returns
returns c = same_tokens
