-- What a scope of reading answers.
use Rattle.std.specs.Prelude.{◌≡◌, ℕ, List, [], ◌∷◌, Option, Some, None, Result, Ok, Err}
use Rattle.asn_fault.specs.Failure.{Failure, Cause, failure_of}
use Rattle.asn_core.specs.declared.tag.Tag.{Tag}
use Rattle.asn_fault.specs.declared.decode.DecodeError.{DecodeError}
use Rattle.asn_model.specs.Notation.{Notation}
use Rattle.asn_model.specs.Components.{reading_order}
use Rattle.asn_model.specs.Shape.{Shape, SeqKind, Fields, FieldAdditions, Alternatives, all_fields, alternative_at, alternative_tagged}
use Rattle.asn_model.specs.Tree.{Slot, head_slot}
use Rattle.asn_model.specs.Value.{Value, Slots}
use Rattle.asn_model.specs.DecodesTo.{DecodesTo, FieldsDecodeTo}
use Rattle.asn_model.specs.FailsWith.{FailsWith, FieldsFailWith, Path}
use Rattle.asn_coding.specs.Answer.{Refuses}

-- The slots of a SEQUENCE's fields, extension additions last, were taken and decode to the value, or they are refused for a reason that they have.
abbrev pub ScopeAnswer : {A E : Type 0} → (E → Failure) → Notation → Fields → FieldAdditions → (A → Value) → List Slot → List Slot → Result A E → List Slot → Type 0
ScopeAnswer failure n fs added value slots rest (Ok x) after = (after ≡ rest) × (vs : Slots) × FieldsDecodeTo n (all_fields fs added) slots vs × (value x ≡ Value.members vs)
ScopeAnswer failure n fs added value slots rest (Err e) after = Refuses n (FieldsFailWith n (reading_order SeqKind.sequence fs added) slots) (failure e)

-- The first pending slot decodes to a payload of the alternative, and is gone, or it is refused for a reason that it has.
abbrev pub PayloadAnswer : {A : Type 0} → Notation → List ℕ → Shape → (A → Value) → List Slot → Result A DecodeError → List Slot → Type 0
PayloadAnswer n id s value before (Ok x) after = (slot : Slot) × (v : Value) × (before ≡ slot ∷ after) × DecodesTo n s slot v × (value x ≡ Value.choice id v)
PayloadAnswer n id s value before (Err e) after = Refuses n (FailsWith n s (head_slot before)) (failure_of e)

-- There is no such alternative; the error names the type by a word of its own.
abbrev pub NoAlternative : Path → Cause → Type 0
NoAlternative p w = (type_name : List ℕ) × (p ≡ []) × (w ≡ Cause.no_valid_choice type_name)

-- The alternative's payload is read. Where there is no alternative, no slot is taken, and that is the refusal.
abbrev pub AlternativeAnswer : {A : Type 0} → Notation → Option (List ℕ × Shape) → (A → Value) → List Slot → Result A DecodeError → List Slot → Type 0
AlternativeAnswer n (Some a) value before r after = PayloadAnswer n a.0 a.1 value before r after
AlternativeAnswer n None value before (Ok x) after = ⊥
AlternativeAnswer n None value before (Err e) after = (after ≡ before) × Refuses n NoAlternative (failure_of e)

-- The same, of the alternative of a tag.
abbrev pub TagAnswer : {A : Type 0} → Notation → Alternatives → (A → Value) → Tag → List Slot → Result A DecodeError → List Slot → Type 0
TagAnswer n alts value tag before r after = AlternativeAnswer n (alternative_tagged alts tag) value before r after

-- The same, of the alternative at a place.
abbrev pub PlaceAnswer : {A : Type 0} → Notation → Alternatives → (A → Value) → ℕ → List Slot → Result A DecodeError → List Slot → Type 0
PlaceAnswer n alts value place before r after = AlternativeAnswer n (alternative_at alts place) value before r after
