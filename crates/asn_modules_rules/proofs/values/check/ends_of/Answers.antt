use Rattle.std.proofs.Common.{ap, length, ◌∙◌}
use Rattle.asn_modules_rules.specs.values.Leads.{leads}
use Rattle.asn_modules_rules.proofs.values.check.ends_of.Goals as goal

pub returns : goal.returns
returns c = λ n. c.in_ok-ends.ensures n ∙ ap (λ l. leads l (length c.args.links.now) n) (c.as_slice-table.ensures.value ∙ c.in_ok-nexts.ensures)
