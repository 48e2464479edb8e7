use Rattle.std.proofs.Common.{[], ◌∷◌, Some, ◌∙◌, ap, arith, map, option_map, refl, of_z, rules, sym, to_z, w64}
use Rattle.std.proofs.lemmas.Int.{to_z-of_z}
use Rattle.std.specs.Prelude.{string_bytes}
use Rattle.asn_model.specs.Value.{Value}
use Rattle.asn_by_hand.specs.MarkFields.{mark_number, mark_slot}
use Rattle.asn_by_hand.proofs.Slots.{both_taken}
use Rattle.asn_by_hand.proofs.mark_fields.fn.read_mark_set.decode_set+arg3.Goals as goal

pub returns : goal.returns
returns c n =
    let mark = c.in-Some-Mark in
    let note = c.in-Some-Note in
    let items = both_taken mark_number _ _ _ _ _ 1 0 c.requires mark.ensures.items note.ensures.items in (
      Some (Value.int (to_z w64 (of_z w64 mark.mark))) ∷ option_map (λ t. Value.text (string_bytes t)) note.note ∷ [],
      (λ i. option_map (λ t. Value.text (string_bytes t)) note.note ∷ Some (Value.int (to_z-of_z w64 mark.mark (search (rules, arith)) i)) ∷ [])
          ∙ (λ i. mark_slot (sym note.field-0-is i) ∷ mark_slot (sym mark.field-0-is i) ∷ [])
          ∙ ap (map mark_slot) (sym items),
      refl,
    )
