use Rattle.std.proofs.Common.{◌≡◌, ap, refl, sym, ◌∙◌, subst, ℕ, Option, Ok}
use Rattle.asn_dynamic_reading.specs.fitting.HeldValue.{IsHeldValue}
use Rattle.asn_model.specs.Leaf.{kind_of_owned}
use Rattle.asn_model.specs.DecodesTo.{DecodesTo}
use Rattle.asn_model.specs.Shape.{Shape}
use Rattle.asn_model.specs.Value.{Value}
use Rattle.asn_model.specs.declared.leaves.LeafKind.TheVariants.{Bits}
use Rattle.asn_coding.proofs.LeafValues.{leaf_decodes}
use Rattle.asn_dynamic_values.proofs.Views.{view-Bits}
use Rattle.asn_dynamic_reading.proofs.leaves.read_bits.Goals as goal

same_size : {m n : Option ℕ} → Bits m ≡ Bits n → m ≡ n
same_size e = cc e

pub returns-clause-answer : goal.returns-clause-answer
returns-clause-answer g c =
    let bits = c.in-Bits.bits in
    let size = c.args.fixed in
    let h = c.in_ok-bits.ensures in
    let same = same_size (subst (λ x. kind_of_owned x ≡ Bits size) c.in-Bits.is h.2) in
    let said = leaf_decodes (Shape.bits size) (Bits size) (Value.bits bits size) h.0 _ _ refl c.in-Bits.is h.3 (λ v e. ap Ok (e ∙ ap (Value.bits bits) same)) in
    (h.0, h.1, subst (DecodesTo g.D.Decoder.notation (Shape.bits size) h.0) (sym (view-Bits bits size)) said)

pub returns-clause-held : goal.returns-clause-held
returns-clause-held g c = subst IsHeldValue (sym (view-Bits c.in-Bits.bits c.args.fixed)) tt
