-- What the reader of a SET answers, one field at a time, and what is made of the answers.
use Rattle.std.specs.Prelude.{◌≡◌, ℕ, zero, suc, List, [], ◌∷◌, ◌++◌, map, length, if◌then◌else◌, Option, Some, None, Result, Ok, Err, true}
use Rattle.std.specs.Ordering.{on}
use Rattle.asn_fault.specs.Failure.{Failure}
use Rattle.asn_model.specs.Components.{Component, Standing, components, tag_cmp}
use Rattle.asn_model.specs.Notation.{Notation}
use Rattle.asn_model.specs.Shape.{SeqKind, Fields, FieldAdditions, Presence, all_fields, field_names}
use Rattle.asn_model.specs.Sorting.{sort}
use Rattle.asn_model.specs.Tree.{Slot}
use Rattle.asn_model.specs.Value.{Value, is_kept}
use Rattle.asn_coding.specs.Answer.{IsMemoryFailure, Refuses}
use Rattle.asn_coding.specs.FieldAnswer.{TakesSlot}
use Rattle.asn_coding.specs.Passing.{ComponentFailsWith, may_take}
use Rattle.asn_coding.specs.ReadingSlots.{slots_read}
use Rattle.asn_coding.specs.Writing.{Frame, members_value}

-- The extension additions as components, if any.
abbrev pub additions_of : FieldAdditions → List Component
additions_of FieldAdditions.closed_fields = []
additions_of (FieldAdditions.extended_fields fs) = components Standing.addition fs

-- All components as the type lists them, extension additions last.
abbrev pub listed_components : Fields → FieldAdditions → List Component
listed_components fs added = components Standing.root fs ++ additions_of added

-- The component at the place.
abbrev pub component_at : List Component → ℕ → Option Component
component_at [] k = None
component_at (c ∷ cs) zero = Some c
component_at (c ∷ cs) (suc k) = component_at cs k

-- Components with their places, of which the first is k.
abbrev pub placed : ℕ → List Component → List (ℕ × Component)
placed k [] = []
placed k (c ∷ cs) = (k, c) ∷ placed (suc k) cs

-- The components of a SET with their places, in the order in which they are read.
abbrev pub places_read : Fields → FieldAdditions → List (ℕ × Component)
places_read fs added = sort (on (λ p. p.1.tag) tag_cmp) (placed 0 (components Standing.root fs)) ++ placed (length (field_names fs)) (additions_of added)

-- The slot of a field that was read so: a default is left out.
abbrev pub kept_slot : Presence → Option Value → Option Value
kept_slot p None = None
kept_slot p (Some v) = if is_kept p v then Some v else None

-- The first pending slot is taken as the component at the place, and the answer has the place and the component's slot.
pub record TakesPlace {A : Type 0} (number : A → ℕ) (slot : A → Option Value) (n : Notation) (k : ℕ) (c : Component) (before : List Slot) (x : A) (after : List Slot) : Type 0 where
  pub place : number x ≡ k
  pub read : Option Value
  pub taken : TakesSlot n c.shape before after read
  pub allowed : may_take c.presence read ≡ true
  pub is : slot x ≡ kept_slot c.presence read

-- The same, or it is refused for a reason that it has.
abbrev pub PlaceAnswer : {A E : Type 0} → (E → Failure) → (A → ℕ) → (A → Option Value) → Notation → ℕ → Component → List Slot → Result A E → List Slot → Type 0
PlaceAnswer failure number slot n k c before (Ok x) after = TakesPlace number slot n k c before x after
PlaceAnswer failure number slot n k c before (Err e) after = Refuses n (ComponentFailsWith n c.presence c.standing c.shape c.name before) (failure e)

-- The value has the members whose slots, in the order in which they are read, are those of the answers; the one refusal is want of memory.
abbrev pub SetAnswer : {S A E : Type 0} → (E → Failure) → Notation → (S → Option Value) → Fields → FieldAdditions → (A → Value) → List S → Result A E → Type 0
SetAnswer failure n slot fs added value answers (Ok x) = (ss : Frame) × (slots_read SeqKind.set fs ss ≡ map slot answers) × (value x ≡ members_value (all_fields fs added) ss)
SetAnswer failure n slot fs added value answers (Err e) = IsMemoryFailure n (failure e)
