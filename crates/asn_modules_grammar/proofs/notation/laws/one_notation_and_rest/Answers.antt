use Rattle.asn_modules_grammar.proofs.notation.OneText.{same_notation}
use Rattle.asn_modules_grammar.proofs.notation.laws.one_notation_and_rest.Goals as goal

pub returns : goal.returns
returns c = λ limit level tokens rest other_rest notation other p q. same_notation p q
