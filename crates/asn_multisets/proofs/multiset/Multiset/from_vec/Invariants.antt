use Rattle.std.proofs.Common.{◌≡◌, length}
use Rattle.asn_multisets.specs.Multisets.{IsSameMultiset}
use Rattle.asn_multisets.proofs.multiset.Multiset.from_vec.Given as goal

abbrev pub invariant-loop-value : goal.invariant-loop-value
invariant-loop-value g l = (length l.set ≡ length l.yielded) × IsSameMultiset g.D.PartialEq.eq l.yielded l.set
