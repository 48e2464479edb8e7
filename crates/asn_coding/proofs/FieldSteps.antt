-- Steps of reading and writing the fields of a SEQUENCE, by the calls on a single field.
use Rattle.std.proofs.Common.{◌≡◌, sym, subst, ℕ, List, [], ◌∷◌, ◌++◌, length, Option, Some, None, Ok, ◌⊎◌, option_map}
use Rattle.asn_core.specs.declared.codec.Codec.{Codec}
use Rattle.asn_fault.specs.Failure.{Failure, Cause, wrapped, at_root}
use Rattle.asn_fault.specs.declared.encode.EncodeError.{EncodeError}
use Rattle.asn_model.specs.Components.{Component}
use Rattle.asn_model.specs.Notation.{Notation, notation_of}
use Rattle.asn_model.specs.Shape.{Shape}
use Rattle.asn_model.specs.Tree.{Slot}
use Rattle.asn_model.specs.Value.{Value, Slots}
use Rattle.asn_model.specs.FailsWith.{Path}
use Rattle.asn_coding.specs.Answer.{OptionalAnswer, OptionalFailsWith, Refuses}
use Rattle.asn_coding.specs.FieldAnswer.{AdditionFailsWith, AddsSlot, TakesSlot, WithinField}
use Rattle.asn_coding.specs.Writing.{Frame, FailsToFill}
use Rattle.asn_coding.proofs.Steps.{within_refuses}
use Rattle.asn_coding.proofs.Taking.{Taking, taking_starts}

-- A field's refusal, wrapped once, is one within that field.
pub field_refused : {n : Notation} {P : Path → Cause → Type 0} (name : List ℕ) (c : Codec) → notation_of c ≡ n → (e r : Failure) → (r ≡ wrapped name c e) ⊎ (r ≡ at_root Cause.out_of_memory c) → Refuses n P e
    → Refuses n (WithinField name P) r
field_refused name c of e r is h = within_refuses name c of (λ p w k. WithinField.within_field p w k) e r is h

-- An extension addition's refusal, wrapped once, is one within it.
pub addition_refused : {n : Notation} {s : Shape} {before : List Slot} (name : List ℕ) (c : Codec) → notation_of c ≡ n → (e r : Failure) → (r ≡ wrapped name c e) ⊎ (r ≡ at_root Cause.out_of_memory c) → Refuses n (OptionalFailsWith n s before) e
    → Refuses n (AdditionFailsWith n s name before) r
addition_refused name c of e r is h = within_refuses name c of (λ p w k. AdditionFailsWith.addition_fails p w k) e r is h

-- An extension addition that is missing is refused by its name.
pub addition_missing : {n : Notation} {s : Shape} {before after : List Slot} (name : List ℕ) (c : Codec) → notation_of c ≡ n → (e : Failure) → e ≡ at_root (Cause.missing_field name) c → before ≡ None ∷ after → Refuses n (AdditionFailsWith n s name before) e
addition_missing {n} {s} {before} {after} name c of e is shown = subst (Refuses n (AdditionFailsWith n s name before)) (sym is) (Refuses.stopped (AdditionFailsWith.addition_is_missing after shown) tt of)

pub optional_taken : {A : Type 0} {n : Notation} {s : Shape} {before after : List Slot} (value : A → Value) (x : Option A) → OptionalAnswer n s value before (Ok x) after → TakesSlot n s before after (option_map value x)
optional_taken value (Some x) (t, shown, says) = TakesSlot.takes_value (Some t) (value x) shown says
optional_taken value None h = TakesSlot.takes_nothing h

-- Of the components whose slots stand first before, those of todo are left.
pub record FieldsRead (n : Notation) (cs : List Component) (before : List Slot) (todo : List Component) (front : Slots → Slots) (now : List Slot) : Type 0 where
  pub taking : (slots rest : List Slot) → length slots ≡ length cs → before ≡ slots ++ rest → Taking n cs slots rest todo front now

-- The member of that name, before others.
abbrev pub member : List ℕ → Option Value → Slots → Slots
member name (Some v) vs = Slots.present name v vs
member name None vs = Slots.absent name vs

pub at_field : {name : List ℕ} {P : Path → Cause → Type 0} (Q : Path → Cause → Type 0) → ((p : Path) (w : Cause) → P p w → Q (name ∷ p) w) → (p : Path) (w : Cause) → WithinField name P p w → Q p w
at_field Q stops p w (WithinField.within_field q v k) = stops q v k

-- None is read yet.
pub reads_start : {n : Notation} {cs : List Component} {before : List Slot} → FieldsRead n cs before cs (λ vs. vs) before
reads_start {n} {cs} {before} = record { taking = λ slots rest count e. taking_starts n cs slots rest before count e }

module _ {S : Type 0} {holds : S → List Frame → Type 0} {n : Notation} where
  -- A field is written, and a later one is refused.
  pub refused_after : {s : Shape} {o : Option Value} {ss : Frame} {old mid : S} {e : EncodeError} → AddsSlot holds n s old mid o → FailsToFill n ss e → FailsToFill n (o ∷ ss) e
  refused_after (AddsSlot.adds_value v w) r = FailsToFill.after_slot w.writable r
  refused_after (AddsSlot.adds_nothing w) r = FailsToFill.after_absent r

-- A field is refused.
pub refused_at : {n : Notation} {o : Option Value} {ss : Frame} {e : EncodeError} → FailsToFill n (o ∷ []) e → FailsToFill n (o ∷ ss) e
refused_at (FailsToFill.no_memory_left o) = FailsToFill.no_memory_left o
refused_at (FailsToFill.slot_refused r) = FailsToFill.slot_refused r
refused_at (FailsToFill.after_slot w r) = elim r [ FailsToFill.no_memory_left o ↦ FailsToFill.no_memory_left o ]
refused_at (FailsToFill.after_absent r) = elim r [ FailsToFill.no_memory_left o ↦ FailsToFill.no_memory_left o ]
