use Rattle.std.proofs.Common.{ap, map, subst, ◌∙◌}
use Rattle.asn_modules_rules.specs.included.TooLarge.{first_too_large_in}
use Rattle.asn_modules_rules.specs.included.Types.{type_view}
use Rattle.asn_modules_names.specs.Faults.{Checks}
use Rattle.asn_modules_rules.proofs.included.check.check_included.Goals as goal

pub returns : goal.returns
returns c = λ ss is.
    subst (λ l. Checks (first_too_large_in ss l) c.check_types.result) (ap (map type_view) c.as_slice.ensures.value ∙ c.in_ok-types.ensures ss is) (c.check_types.ensures ss is)
