use Rattle.std.proofs.Common.{◌≡◌, drop}
use Rattle.asn_core.specs.Constraints.{first_size_constraint}
use Rattle.asn_core.proofs.constraint.Constraints.size.Given as goal

abbrev pub invariant-loop-constraint : goal.invariant-loop-constraint
invariant-loop-constraint l = first_size_constraint l.self.items.now ≡ first_size_constraint (drop l.constraint-index l.self.items.now)
