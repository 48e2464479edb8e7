use Rattle.std.proofs.Common.{◌≡◌, take}
use Rattle.asn_modules_rules.proofs.values.leads.copy_of.Given as goal

abbrev pub invariant-loop-next : goal.invariant-loop-next
invariant-loop-next l = l.copy.items ≡ take l.next-index l.nexts
