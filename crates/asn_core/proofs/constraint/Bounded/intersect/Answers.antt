use Rattle.std.proofs.Common.{◌≡◌, rules}
use Rattle.asn_core.specs.Bounds.{intersection}
use Rattle.asn_core.proofs.Intersections.{bounds-of, none-of}
use Rattle.asn_core.proofs.constraint.Bounded.intersect.Goals as goal

pub returns-in-Single-default-clause-both : goal.returns-in-Single-default-clause-both
returns-in-Single-default-clause-both g c =
    let e : c.single_within.result ≡ intersection g.T.Bound.number c.args.self.now c.args.other.now = search rules in
    bounds-of g.T.Bound.number c.args.self.now c.args.other.now c.single_within.result e

pub returns-in_default-Single-clause-both : goal.returns-in_default-Single-clause-both
returns-in_default-Single-clause-both g c =
    let e : c.single_within-in_default-Single.result ≡ intersection g.T.Bound.number c.args.self.now c.args.other.now = search rules in
    bounds-of g.T.Bound.number c.args.self.now c.args.other.now c.single_within-in_default-Single.result e

pub returns-in-Range-Range-clause-both : goal.returns-in-Range-Range-clause-both
returns-in-Range-Range-clause-both g c =
    let e : c.range_if_any.result ≡ intersection g.T.Bound.number c.args.self.now c.args.other.now = search rules in
    bounds-of g.T.Bound.number c.args.self.now c.args.other.now c.range_if_any.result e

pub returns-in-Range-Range-clause-apart : goal.returns-in-Range-Range-clause-apart
returns-in-Range-Range-clause-apart g c =
    let e : c.range_if_any.result ≡ intersection g.T.Bound.number c.args.self.now c.args.other.now = search rules in
    none-of g.T.Bound.number c.args.self.now c.args.other.now c.range_if_any.result e
