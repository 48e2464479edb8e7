use Rattle.std.proofs.Common.{◌≡◌, ◌*◌, ◌/◌, ◌++◌, ◌∷◌, [], ℕ, arith, ap, sym, ◌∙◌, set, refl}
use Rattle.asn_core.specs.BitStrings.{bits_of, bit_value, padded}
use Rattle.asn_core.proofs.HeldBits.{part-there, part-clear, bit-begun, zero-there, one-added}
use Rattle.asn_core.proofs.bits.append_bit.Goals as goal
use Rattle.asn_core.proofs.bits.append_bit.Goals.{then-bit, else-bit}

pub index-requires : goal.index-requires
index-requires c = let o = c.args.octets.now in omega (arith, part-there o.items c.args.count (bits_of o.items c.args.count) c.requires refl c.if-place-eq0.false, o.ok.0)

pub index_mut-requires : goal.index_mut-requires
index_mut-requires c = let o = c.args.octets.now in omega (arith, part-there o.items c.args.count (bits_of o.items c.args.count) c.requires refl c.if-place-eq0.false, o.ok.0)

pub with_one-requires-clause-clear : goal.with_one-requires-clause-clear
with_one-requires-clause-clear c = part-clear c.args.octets.now.items c.args.count c.requires c.index.result.now c.if-place-eq0.false c.index.ensures

pub returns-in_ok-push-clause-appended : goal.returns-in_ok-push-clause-appended
returns-in_ok-push-clause-appended c =
    let o = c.args.octets.now.items in
    let b : c.if-bit.push ≡ 128 * bit_value c.args.bit = elim c.if-bit.branch [
      | then-bit w ↦ w.push-is ∙ ap (λ x. 128 * bit_value x) (sym w.if-bit.true)
      | else-bit w ↦ w.push-is ∙ ap (λ x. 128 * bit_value x) (sym w.if-bit.false)
    ] in
    c.in_ok-push.ensures.items ∙ ap (λ (x : ℕ). o ++ x ∷ []) b ∙ bit-begun o c.args.count c.requires c.args.bit c.if-place-eq0.true

pub returns-then-bit-2-clause-appended : goal.returns-then-bit-2-clause-appended
returns-then-bit-2-clause-appended c =
    let o = c.args.octets.now.items in
    ap (λ (x : ℕ). set o (c.args.count / 8) x) c.with_one.ensures
    ∙ one-added o c.args.count c.requires c.index.result.now c.if-place-eq0.false c.index.ensures
    ∙ ap (λ b. padded (bits_of o c.args.count ++ b ∷ [])) (sym c.if-bit-2.true)

pub returns-else-bit-2-clause-appended : goal.returns-else-bit-2-clause-appended
returns-else-bit-2-clause-appended c =
    let o = c.args.octets.now.items in
    zero-there o c.args.count c.requires c.if-place-eq0.false ∙ ap (λ b. padded (bits_of o c.args.count ++ b ∷ [])) (sym c.if-bit-2.false)
