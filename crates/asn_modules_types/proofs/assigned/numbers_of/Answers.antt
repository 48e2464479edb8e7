use Rattle.std.proofs.Common.{ap, map, ◌∙◌}
use Rattle.std.proofs.lemmas.Result.{IfOk-weaker}
use Rattle.asn_modules_types.specs.named_numbers.Views.{type_view}
use Rattle.asn_modules_types.proofs.Numbering.{numbers_known}
use Rattle.asn_modules_types.proofs.assigned.numbers_of.Goals as goal

pub returns : goal.returns
returns c = IfOk-weaker c.named_numbers.result _ _ (λ found are. numbers_known found _ _ are (ap (map type_view) c.as_slice.ensures.value ∙ c.in_ok-stated.ensures)) c.named_numbers.ensures
