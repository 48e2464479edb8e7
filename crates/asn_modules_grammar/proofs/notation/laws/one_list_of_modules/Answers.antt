use Rattle.asn_modules_grammar.proofs.notation.OneText.{same_text}
use Rattle.asn_modules_grammar.proofs.notation.laws.one_list_of_modules.Goals as goal

pub returns : goal.returns
returns c = λ limit tokens modules others p q. same_text p q
