-- The fields, alternatives and items of a shape, each list with its extension additions last.
use Rattle.std.specs.Prelude.{◌≡◌, ℕ, List, [], ◌∷◌, length, map, Option, Result, Ok, Err, true}
use Rattle.asn_coding.specs.Answer.{Refuses}
use Rattle.asn_coding.specs.FieldAnswer.{TakesSlot}
use Rattle.asn_coding.specs.Passing.{may_take}
use Rattle.asn_coding.specs.SetFields.{kept_slot, listed_components, placed, places_read}
use Rattle.asn_fault.specs.Failure.{Failure}
use Rattle.asn_model.specs.Components.{Component}
use Rattle.asn_model.specs.DecodesTo.{DecodesTo}
use Rattle.asn_model.specs.FailsWith.{FailsWith}
use Rattle.asn_model.specs.Notation.{Notation}
use Rattle.asn_model.specs.Shape.{Shape, SeqKind, Alternatives, all_alternatives, all_items, field_names}
use Rattle.asn_model.specs.Tree.{Slot, head_slot}
use Rattle.asn_model.specs.Value.{Value}
use Rattle.asn_names.specs.Rows.{NameRow}
use Rattle.asn_parts.specs.Closed.{closed}

-- The fields of a SEQUENCE or SET.
abbrev pub fields_in : Shape → List Component
fields_in (Shape.seq kind fs added) = listed_components fs added
fields_in s = []

-- How many of them are no extension additions.
abbrev pub root_count_in : Shape → ℕ
root_count_in (Shape.seq kind fs added) = length (field_names fs)
root_count_in s = 0

-- The alternatives of a CHOICE.
abbrev pub alternatives_in : Shape → Alternatives
alternatives_in (Shape.choice alts added) = all_alternatives alts added
alternatives_in s = Alternatives.no_alternatives

-- The items of an ENUMERATED.
abbrev pub items_in : Shape → List (List ℕ)
items_in (Shape.enum items added) = all_items items added
items_in s = []

-- A field with its place among those that the type lists.
abbrev pub Place : Type 0
Place = ℕ × Component

-- The fields of a SEQUENCE or SET in the order in which they are read.
abbrev pub places_in : Shape → List Place
places_in (Shape.seq SeqKind.sequence fs added) = placed 0 (listed_components fs added)
places_in (Shape.seq SeqKind.set fs added) = places_read fs added
places_in s = []

-- Their names.
abbrev pub place_rows : List Place → List NameRow
place_rows ps = map (λ p. record { index = p.0; name = p.1.name }) ps

-- The component with its shape within these loops.
abbrev pub closed_component : List Shape → Component → Component
closed_component env c = record { name = c.name; tag = c.tag; presence = c.presence; shape = closed env c.shape; standing = c.standing }

-- The first pending slot is taken as the component, of which this is kept: a default is left out.
pub record TakesComponent (n : Notation) (c : Component) (before : List Slot) (kept : Option Value) (after : List Slot) : Type 0 where
  pub read : Option Value
  pub taken : TakesSlot n c.shape before after read
  pub allowed : may_take c.presence read ≡ true
  pub is : kept ≡ kept_slot c.presence read

-- The payload is read as that of this identifier, or it is refused.
abbrev pub PayloadBy : {A E : Type 0} → (E → Failure) → Notation → List ℕ → Shape → (A → Value) → List Slot → Result A E → List Slot → Type 0
PayloadBy failure n id s value before (Ok x) after = (slot : Slot) × (v : Value) × (before ≡ slot ∷ after) × DecodesTo n s slot v × (value x ≡ Value.choice id v)
PayloadBy failure n id s value before (Err e) after = Refuses n (FailsWith n s (head_slot before)) (failure e)
