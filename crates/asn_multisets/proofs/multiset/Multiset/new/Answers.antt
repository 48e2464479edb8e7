use Rattle.std.proofs.Common.{ap}
use Rattle.asn_multisets.specs.Entries.{expanded}
use Rattle.asn_multisets.proofs.Expanding.{none_held}
use Rattle.asn_multisets.proofs.multiset.Multiset.new.Goals as goal

pub invariant_of-result : goal.invariant_of-result
invariant_of-result g c = none_held g.D.PartialEq.eq (g.M.Counts.entries c.empty.result) c.empty.ensures

pub returns : goal.returns
returns g c = ap expanded c.empty.ensures
