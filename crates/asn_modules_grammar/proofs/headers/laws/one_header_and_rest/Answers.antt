use Rattle.asn_modules_grammar.proofs.headers.HeadersRead.{same_header}
use Rattle.asn_modules_grammar.proofs.headers.laws.one_header_and_rest.Goals as goal

pub returns : goal.returns
returns c = λ tokens rest other_rest header other p q. same_header p q
