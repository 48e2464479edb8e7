use Rattle.std.specs.Cmp.{both_ways}
use Rattle.asn_multisets.specs.Multiplicities.{same-from_test, test-from_same}
use Rattle.asn_multisets.proofs.Expanding.{agree-views}
use Rattle.asn_multisets.proofs.multiset.MultisetPartialEq.eq.Goals as goal

pub returns-clause-same : goal.returns-clause-same
returns-clause-same g c =
    agree-views g.D.PartialEq.eq g.met.D.Eq.laws (g.M.Counts.entries c.self.inside.counts) (g.M.Counts.entries c.other.inside.counts) c.args.self.now c.args.other.now
    c.self.view_is c.other.view_is c.self.invariant.1 c.other.invariant.1 c.self.invariant.2 c.other.invariant.2 c.agrees.ensures

pub returns-clause-is : goal.returns-clause-is
returns-clause-is g c =
    let d = agree-views g.D.PartialEq.eq g.met.D.Eq.laws (g.M.Counts.entries c.self.inside.counts) (g.M.Counts.entries c.other.inside.counts) c.args.self.now c.args.other.now
    c.self.view_is c.other.view_is c.self.invariant.1 c.other.invariant.1 c.self.invariant.2 c.other.invariant.2 c.agrees.ensures in
    both_ways _ _ (λ t. test-from_same g.D.PartialEq.eq g.met.D.Eq.laws _ _ (d.0 t)) (λ h. d.1 (same-from_test g.D.PartialEq.eq g.met.D.Eq.laws _ _ h))
