use Rattle.std.proofs.Common.{◌≡◌, map, take}
use Rattle.std.specs.Option.{option_and_then}
use Rattle.asn_modules_rules.specs.values.Leads.{next_at}
use Rattle.asn_modules_rules.proofs.values.leads.composed.Given as goal

abbrev pub invariant-loop-next : goal.invariant-loop-next
invariant-loop-next l = l.both.items ≡ map (option_and_then (next_at l.second)) (take l.next-index l.first)
