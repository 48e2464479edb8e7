use Rattle.std.proofs.Common.{ap, subst, ◌∙◌, map}
use Rattle.asn_modules_rules.specs.values.Leads.{next_at}
use Rattle.asn_modules_rules.specs.values.ValueLinks.{link_view}
use Rattle.asn_modules_rules.proofs.values.Ending.{told_by_ends}
use Rattle.asn_modules_rules.proofs.values.check.check_values.Goals as goal

pub returns : goal.returns
returns c = λ ss is.
    told_by_ends c.as_slice-all.result.now c.as_slice-table.result.now _ c.check_ends.result (ap (map link_view) c.as_slice-all.ensures.value ∙ c.in_ok-links.ensures ss is)
    (λ n. ap (λ l. next_at l n) c.as_slice-table.ensures.value ∙ c.in_ok-ends.ensures n) c.check_ends.ensures
