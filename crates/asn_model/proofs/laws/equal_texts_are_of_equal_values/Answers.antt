use Rattle.asn_model.proofs.SameText.{same_text}
use Rattle.asn_model.proofs.laws.equal_texts_are_of_equal_values.Goals as goal

pub returns : goal.returns
returns c = λ n s v w text a fit_v fit_w can_v can_w same. same_text n s v w text a fit_v fit_w can_v can_w same
