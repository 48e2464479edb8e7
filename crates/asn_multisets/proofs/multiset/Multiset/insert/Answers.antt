use Rattle.std.proofs.Common.{◌+◌, length, arith, ap, ◌∙◌}
use Rattle.asn_multisets.proofs.Expanding.{lookup-le, inserted-length, inserted-positive, inserted-same}
use Rattle.asn_multisets.proofs.multiset.Multiset.insert.Goals as goal

pub overflow_add-count : goal.overflow_add-count
overflow_add-count g c =
    let bound = lookup-le g.D.PartialEq.eq c.args.value (g.M.Counts.entries c.self.inside.counts) in
    let seen = ap length c.self.view_is in
    omega (arith, bound, c.count-count.ensures, seen, c.requires)

pub invariant_of-self-2 : goal.invariant_of-self-2
invariant_of-self-2 g c =
    let es = g.M.Counts.entries c.self.inside.counts in
    let new = g.M.Counts.entries c.set_count.new.self in
    let long = inserted-length g.D.PartialEq.eq g.met.D.Eq.laws c.args.value es new c.count-count.result c.count-count.ensures c.in_ok-set_count.ensures.set in
    (omega (arith, c.self.invariant.0, long), c.set_count.ensures.distinct, inserted-positive g.D.PartialEq.eq g.met.D.Eq.laws c.args.value es new c.count-count.result c.count-count.ensures c.in_ok-set_count.ensures.set c.self.invariant.2)

pub returns-clause-added : goal.returns-clause-added
returns-clause-added g c =
    inserted-same g.D.PartialEq.eq g.met.D.Eq.laws c.args.value (g.M.Counts.entries c.self.inside.counts) (g.M.Counts.entries c.set_count.new.self) c.count-count.result c.count-count.ensures c.in_ok-set_count.ensures.set c.args.self.now c.self.view_is

pub returns-clause-counted : goal.returns-clause-counted
returns-clause-counted g c =
    inserted-length g.D.PartialEq.eq g.met.D.Eq.laws c.args.value (g.M.Counts.entries c.self.inside.counts) (g.M.Counts.entries c.set_count.new.self) c.count-count.result c.count-count.ensures c.in_ok-set_count.ensures.set ∙ ap (λ l. length l + 1) c.self.view_is
