-- Sets in the order of their texts.
use Rattle.std.proofs.Common.{◌≡◌, ◌≢◌, List, [], ◌∷◌, map, All, Option, Some, ap, refl, sym, ◌∙◌, ℕ, Vec, Global}
use Rattle.std.proofs.lemmas.List.Elements.{recursion_from_All}
use Rattle.std.specs.Prelude.{option_map}
use Rattle.serde_json.specs.Data.{Data, Items}
use Rattle.serde_json.specs.View.{items_of}
use Rattle.serde_json.specs.Written.{compact_text}
use Rattle.jer_values.specs.Views.{data_of, items_view}
use Rattle.jer_values.specs.declared.value.JerValue.{JerValue}
use Rattle.jer_values.specs.declared.value.JerValue.TheVariants as value
use Rattle.jer_values.proofs.Layers.{data_list}
use Rattle.asn_slots.specs.Frames.{push, Closes}
use Rattle.asn_slots.specs.Slots.{present_of}
use Rattle.asn_slots.specs.Trees.{trees_of, SameTrees}
use Rattle.asn_slots.proofs.Trees.{frame_closed, present_same}
use Rattle.asn_sorting.specs.Entries.{text_of, value_of}
use Rattle.asn_sorting.proofs.Trees.{trees-sorted, same_slot}
use Rattle.asn_traits.specs.Canonical.{jer_data, jer_items, json_items, json_list, sorted_items}
use Rattle.asn_traits.specs.Notation.{Notation}
use Rattle.asn_traits.specs.Sorting.{sort, by_text}
use Rattle.asn_traits.specs.Value.{Value, Values}
use Rattle.asn_coding.specs.Writing.{Frame, IsWrittenAsSet, present_values}
use Rattle.jer_rules.proofs.Building.{json_same, present-items}

abbrev pub Entry : Type 0
Entry = List ℕ × JerValue

-- The text of the entry is that of its value.
abbrev pub HasText : Entry → Type 0
HasText p = text_of p ≡ compact_text (data_of (value_of p))

list-items : (ds : List Data) → json_list (items_of ds) ≡ ds
list-items [] = refl
list-items (d ∷ ds) = ap (λ l. d ∷ l) (list-items ds)

items-list : (ds : List Data) → items_of ds ≡ json_items ds
items-list [] = refl
items-list (d ∷ ds) = ap (Items.item d) (items-list ds)

-- Values that are sorted by their texts are the sorted elements.
pub items-sorted : (entries : List Entry) (values sorted : List JerValue) → map value_of entries ≡ values → All HasText entries → sorted ≡ map value_of (sort (by_text text_of) entries)
    → items_view sorted ≡ sorted_items (items_view values)
items-sorted entries values sorted all texts e =
    ap items_of (trees-sorted compact_text data_of entries values sorted all (recursion_from_All HasText entries texts) e)
    ∙ ap (λ ds. items_of (sort (by_text compact_text) ds)) (sym (list-items (map data_of values)))
    ∙ items-list (sort (by_text compact_text) (json_list (items_view values)))

-- An array of the sorted values is the set that a frame is.
set_built : (items sorted : Vec JerValue Global) (slots : List (Option JerValue)) → items.items ≡ present_of slots → items_view sorted.items ≡ sorted_items (items_view items.items) → (f : Frame) → trees_of jer_data f ≡ trees_of data_of slots
    → option_map data_of (Some (value.List sorted)) ≡ option_map jer_data (Some (Value.bag (present_values f)))
set_built items sorted slots e in_order f h =
    let same : items_view items.items ≡ jer_items (present_values f) = ap items_of (ap (map data_of) e ∙ sym (present_same jer_data data_of f slots h)) ∙ present-items f in
    ap Some (data_list sorted ∙ ap Data.array (in_order ∙ ap sorted_items same))

not_other : Notation.jer ≢ Notation.other
not_other e = cc e

as_set : {vs : Values} {w : Value} → IsWrittenAsSet Notation.jer vs w → jer_data w ≡ jer_data (Value.bag vs)
as_set (IsWrittenAsSet.written_alike same) = json_same same
as_set (IsWrittenAsSet.set_itself e other) = absurd (not_other other)

-- The array in the place of a frame is any value that is written as the frame's set.
pub set_closed : (old mid new : List (List (Option JerValue))) (slots : List (Option JerValue)) (items sorted : Vec JerValue Global) → Closes old slots mid → items.items ≡ present_of slots → items_view sorted.items ≡ sorted_items (items_view items.items)
    → new ≡ push (Some (value.List sorted)) mid → (f : Frame) (fs : List Frame) (w : Value) → SameTrees jer_data data_of (f ∷ fs) old → IsWrittenAsSet Notation.jer (present_values f) w → SameTrees jer_data data_of (push (Some w) fs) new
set_closed old mid new slots items sorted closed e in_order put f fs w held written =
    same_slot jer_data data_of (Value.bag (present_values f)) w (as_set written) fs new
    (frame_closed jer_data data_of (λ g. Some (Value.bag (present_values g))) old mid new slots (Some (value.List sorted)) closed (set_built items sorted slots e in_order) put (f ∷ fs) held)
