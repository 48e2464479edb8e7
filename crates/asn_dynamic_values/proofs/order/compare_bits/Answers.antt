use Rattle.std.proofs.Common.{◌≡◌, ap, arith, None, Option, Some, Bool, true, sym, ◌∙◌, get_or}
use Rattle.std.specs.List.{slice_get}
use Rattle.std.proofs.lemmas.Option.{slice_get-get_or}
use Rattle.asn_dynamic_values.proofs.Bits.{bits_equal, bits_longer, bits_shorter, bits_step, bits_together, bits_unequal}
use Rattle.asn_dynamic_values.proofs.order.compare_bits.Goals as goal

pub returns-in_default : goal.returns-in_default
returns-in_default c =
    bits_longer c.args.left.now c.args.right.now c.loop-place.place c.in_default.field-0-0 (sym c.get.ensures ∙ c.in_default.is-0) (sym c.get-in-loop-place.ensures ∙ c.in_default.is-1)
    ∙ sym c.loop-place.invariant

pub returns-in_default-2 : goal.returns-in_default-2
returns-in_default-2 c =
    let there : ◌≡◌ {A = Option Bool} None (Some (get_or c.args.left.now c.loop-place.place true))
    = sym c.in_default.is-0 ∙ c.get.ensures ∙ slice_get-get_or c.args.left.now c.loop-place.place true (rw c.len-place-end.ensures at c.loop-place-test.true) in
    cc there

pub returns-then-bit-other : goal.returns-then-bit-other
returns-then-bit-other c =
    let b = c.in-Some-Some in
    c.cmp.ensures ∙ bits_unequal b.bit b.other _ c.if-bit-other.true
    ∙ sym (bits_step c.args.left.now c.args.right.now c.loop-place.place b.bit b.other (sym c.get.ensures ∙ b.is-0) (sym c.get-in-loop-place.ensures ∙ b.is-1))
    ∙ sym c.loop-place.invariant

pub loop-place-preserved : goal.loop-place-preserved
loop-place-preserved c =
    let b = c.in-Some-Some in
    c.loop-place.invariant
    ∙ bits_step c.args.left.now c.args.right.now c.loop-place.place b.bit b.other (sym c.get.ensures ∙ b.is-0) (sym c.get-in-loop-place.ensures ∙ b.is-1)
    ∙ bits_equal b.bit b.other _ c.if-bit-other.false

pub returns-in-Some : goal.returns-in-Some
returns-in-Some c =
    let same : c.loop-place.place ≡ c.len.result = omega (arith, c.len.ensures, c.len-place-end.ensures, c.loop-place-test.false, c.loop-place.auto.place-end) in
    bits_shorter c.args.left.now c.args.right.now c.loop-place.place c.in-Some.field-0 (omega (arith, same, c.len.ensures)) (ap (slice_get c.args.right.now) same ∙ sym c.get-2.ensures ∙ c.in-Some.is)
    ∙ sym c.loop-place.invariant

pub returns-in-None : goal.returns-in-None
returns-in-None c =
    let same : c.loop-place.place ≡ c.len.result = omega (arith, c.len.ensures, c.len-place-end.ensures, c.loop-place-test.false, c.loop-place.auto.place-end) in
    bits_together c.args.left.now c.args.right.now c.loop-place.place (omega (arith, same, c.len.ensures)) (ap (slice_get c.args.right.now) same ∙ sym c.get-2.ensures ∙ c.in-None.is)
    ∙ sym c.loop-place.invariant
