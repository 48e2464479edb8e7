use Rattle.std.proofs.Common.{◌≡◌, ◌∙◌, refl, subst, sym, true, false, string_bytes}
use Rattle.asn_coding.proofs.LeafValues.{item_decodes, item_refused, leaf_decodes, leaf_refused, own_codec}
use Rattle.asn_dynamic_values.proofs.Views.{view-Item}
use Rattle.asn_fault.specs.Failure.{Cause, failure_of}
use Rattle.asn_model.specs.DecodesTo.{DecodesTo}
use Rattle.asn_model.specs.Leaf.{codec_of}
use Rattle.asn_model.specs.Shape.{Shape, all_items, is_item}
use Rattle.asn_model.specs.Value.{Value}
use Rattle.asn_model.specs.declared.leaves.LeafKind.TheVariants.{Item}
use Rattle.asn_parts.specs.Listed.{items_in}
use Rattle.asn_dynamic_reading.proofs.reading.read_item.Goals as goal

pub returns-then-has_item-clause-answer : goal.returns-then-has_item-clause-answer
returns-then-has_item-clause-answer g c around items added e =
    let h = c.in-Ok-Item.ensures in
    let n = g.D.Decoder.notation in
    let s = Shape.enum items added in
    let i = string_bytes c.in-Ok-Item.text in
    let there : is_item (all_items items added) i ≡ true = sym (c.has_item.ensures around ∙ (λ k. is_item (items_in (e k)) (c.as_str.ensures.value k))) ∙ c.if-has_item.true in
    (h.0, h.1, subst (DecodesTo n s h.0) (sym (view-Item c.in-Ok-Item.text)) (leaf_decodes s Item (Value.item i) h.0 _ _ refl c.in-Ok-Item.field-0-is h.3 (λ v o. item_decodes (codec_of n) items added i i v o refl there)))

pub returns-else-has_item-clause-answer : goal.returns-else-has_item-clause-answer
returns-else-has_item-clause-answer g c around items added e =
    let h = c.in-Ok-Item.ensures in
    let n = g.D.Decoder.notation in
    let s = Shape.enum items added in
    let i = string_bytes c.in-Ok-Item.text in
    let nowhere : is_item (all_items items added) i ≡ false = sym (c.has_item.ensures around ∙ (λ k. is_item (items_in (e k)) (c.as_str.ensures.value k))) ∙ c.if-has_item.false in
    leaf_refused s Item (Cause.invalid_enum_discriminant (codec_of n) i) _ h.0 _ _ _ _ _ refl c.in-Ok-Item.field-0-is h.1 h.3 (λ v o. item_refused (codec_of n) items added i v o nowhere) c.no_item.ensures (own_codec n)
