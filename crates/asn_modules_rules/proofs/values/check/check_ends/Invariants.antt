use Rattle.std.proofs.Common.{◌≡◌, is_some}
use Rattle.asn_modules_rules.specs.values.Leads.{next_at}
use Rattle.asn_modules_rules.proofs.values.Ending.{told_from}
use Rattle.asn_modules_rules.proofs.values.check.check_ends.Given as goal

abbrev pub invariant-loop-number : goal.invariant-loop-number
invariant-loop-number l = told_from (λ n. is_some (next_at l.ends n)) l.links 0 ≡ told_from (λ n. is_some (next_at l.ends n)) l.links l.number
