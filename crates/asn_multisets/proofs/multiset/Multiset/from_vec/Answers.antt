use Rattle.std.proofs.Common.{[], ◌∷◌, arith, length-append}
use Rattle.asn_multisets.specs.Multiplicities.{same_push}
use Rattle.asn_multisets.proofs.multiset.Multiset.from_vec.Goals as goal

pub loop-value-preserved : goal.loop-value-preserved
loop-value-preserved g c =
    let taken = c.loop-value.yielded in
    let before = c.loop-value.set in
    let n = length-append taken (c.in-Some.value ∷ []) in (
      omega (arith, c.in_ok-insert.ensures.counted, c.loop-value.invariant.0, n),
      same_push g.D.PartialEq.eq c.in-Some.value taken before c.insert.new.self c.loop-value.invariant.1 c.in_ok-insert.ensures.added,
    )
