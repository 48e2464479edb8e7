use Rattle.std.proofs.Common.{◌≡◌, drop}
use Rattle.std.specs.Cmp.Lexicographic.{slice_cmp}
use Rattle.std.specs.Ordering.{bool_cmp}
use Rattle.asn_dynamic_values.proofs.order.compare_bits.Given as goal

-- What is left to look at decides.
abbrev pub invariant-loop-place : goal.invariant-loop-place
invariant-loop-place l = slice_cmp bool_cmp l.left l.right ≡ slice_cmp bool_cmp (drop l.place l.left) (drop l.place l.right)
