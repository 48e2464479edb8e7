use Rattle.std.proofs.Common.{◌≡◌}
use Rattle.asn_example_values.specs.Examples.{zeros}
use Rattle.asn_example_values.proofs.leaves.zeros.Given as goal

abbrev pub invariant-loop-place : goal.invariant-loop-place
invariant-loop-place l = l.bits ≡ zeros l.place
