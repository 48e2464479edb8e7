-- Writing and reading fields, one after another.
use Rattle.std.specs.Prelude.{◌≡◌, ℕ, List, [], ◌∷◌, Option, Some, None, Bool, true, is_some, if◌then◌else◌}
use Rattle.asn_core.specs.declared.tag.Tag.{Tag}
use Rattle.asn_fault.specs.Failure.{Failure, Cause}
use Rattle.asn_fault.specs.declared.encode.EncodeError.{EncodeError}
use Rattle.asn_coding.specs.Answer.{OptionalFailsWith, Refuses}
use Rattle.asn_coding.specs.FieldAnswer.{AdditionFailsWith, AddsSlot, Ahead, TakesDefault, TakesField, WithinField}
use Rattle.asn_model.specs.Components.{Component, Standing}
use Rattle.asn_model.specs.Notation.{Notation}
use Rattle.asn_model.specs.Shape.{Shape, Fields, Plain, Presence}
use Rattle.asn_model.specs.FailsWith.{FailsWith, Path}
use Rattle.asn_model.specs.Tree.{Slot, head_slot}
use Rattle.asn_model.specs.Value.{Value, is_kept, is_plain}
use Rattle.asn_coding.specs.Writing.{Frame, FailsToFill, head_name}

-- The presence allows the slot.
abbrev pub allows : Presence → Option Value → Bool
allows Presence.required o = is_some o
allows Presence.optional o = true
allows (Presence.default d) None = true
allows (Presence.default d) (Some v) = is_kept (Presence.default d) v

-- The slot may be taken by this presence: a default may stand there, too.
abbrev pub may_take : Presence → Option Value → Bool
may_take Presence.required o = is_some o
may_take p o = true

-- The slot of a field with this default and this value: the default is left out.
abbrev pub default_slot : Plain → Value → Option Value
default_slot d v = if is_plain d v then None else Some v

-- The slots of the fields are added, one after another.
pub data AddsFields {S : Type 0} (holds : S → List Frame → Type 0) (n : Notation) : Fields → Frame → S → S → Type 0 where
  adds_none : {now : S} → AddsFields holds n Fields.no_fields [] now now
  adds_next : {name : List ℕ} {g : Tag} {p : Presence} {s : Shape} {rest : Fields} {o : Option Value} {ss : Frame} {old mid new : S} → AddsSlot holds n s old mid o → AddsFields holds n rest ss mid new → allows p o ≡ true → AddsFields holds n (Fields.field name g p s rest) (o ∷ ss) old new

-- One of the slots is refused, after those before it are added.
pub data RefusesAdding {S : Type 0} (holds : S → List Frame → Type 0) (n : Notation) : Fields → Frame → S → EncodeError → Type 0 where
  refuses_slot : {name : List ℕ} {g : Tag} {p : Presence} {s : Shape} {rest : Fields} {o : Option Value} {ss : Frame} {old : S} {e : EncodeError} → FailsToFill n (o ∷ []) e → RefusesAdding holds n (Fields.field name g p s rest) (o ∷ ss) old e
  refuses_later_slot : {name : List ℕ} {g : Tag} {p : Presence} {s : Shape} {rest : Fields} {o : Option Value} {ss : Frame} {old mid : S} {e : EncodeError} → AddsSlot holds n s old mid o → RefusesAdding holds n rest ss mid e → RefusesAdding holds n (Fields.field name g p s rest) (o ∷ ss) old e

-- The components are taken, one after another.
pub data TakesFields (n : Notation) : List Component → Frame → Ahead → Ahead → Type 0 where
  takes_none : {now : Ahead} → TakesFields n [] [] now now
  takes_next : {c : Component} {rest : List Component} {o : Option Value} {ss : Frame} {before mid after : Ahead} → TakesField n c.shape before mid o → TakesFields n rest ss mid after → allows c.presence o ≡ true → TakesFields n (c ∷ rest) (o ∷ ss) before after
  takes_default : {c : Component} {rest : List Component} {d : Plain} {standing v : Value} {ss : Frame} {before mid after : Ahead} → TakesDefault n c.shape before mid standing v → TakesFields n rest ss mid after → c.presence ≡ Presence.default d → is_plain d standing ≡ true
      → TakesFields n (c ∷ rest) (default_slot d v ∷ ss) before after

-- Why a component of this name is refused.
abbrev pub ComponentFailsWith : Notation → Presence → Standing → Shape → List ℕ → List Slot → Path → Cause → Type 0
ComponentFailsWith n Presence.required Standing.root s name before = WithinField name (FailsWith n s (head_slot before))
ComponentFailsWith n Presence.required Standing.addition s name before = AdditionFailsWith n s name before
ComponentFailsWith n p at s name before = WithinField name (OptionalFailsWith n s before)

-- One of the components is refused, by the first name ahead, after those before it are taken.
pub data RefusesFields (n : Notation) : List Component → Ahead → Failure → Type 0 where
  refuses_field : {c : Component} {rest : List Component} {names : List (List ℕ)} {before : List Slot} {e : Failure} → Refuses n (ComponentFailsWith n c.presence c.standing c.shape (head_name names) before) e → RefusesFields n (c ∷ rest) (Ahead.ahead names before) e
  refuses_later_field : {c : Component} {rest : List Component} {o : Option Value} {before mid : Ahead} {e : Failure} → TakesField n c.shape before mid o → RefusesFields n rest mid e → may_take c.presence o ≡ true → RefusesFields n (c ∷ rest) before e
