-- What is read of a field, and what is made of all.
use Rattle.std.proofs.Common.{◌≡◌, refl, sym, ap, ◌∙◌, subst, arith, ℕ, zero, suc, ◌+◌, ◌<◌, ◌≤◌, List, [], ◌∷◌, ◌++◌, map, take, length, Bool, true, false, Option, Some, None, inl, inr, ◌⊎◌, Result, Ok, Err, String, Global, string_bytes}
use Rattle.std.specs.Prelude.{option_map}
use Rattle.std.proofs.lemmas.List.{map-append, map_push, take_all, take_more}
use Rattle.asn_core.specs.declared.codec.Codec.{Codec}
use Rattle.asn_coding.specs.Answer.{AnswerBy, NonePending, OptionalFailsWith, Refuses, TakesAbsent}
use Rattle.asn_coding.specs.FieldAnswer.{AdditionFailsWith, TakesSlot, WithinField}
use Rattle.asn_coding.specs.Passing.{ComponentFailsWith, may_take}
use Rattle.asn_coding.specs.SetFields.{kept_slot}
use Rattle.asn_coding.specs.Writing.{Frame, named}
use Rattle.asn_coding.proofs.ReadingOrder.{names-read}
use Rattle.asn_coding.proofs.Steps.{refuses_by}
use Rattle.asn_dynamic_faults.specs.DynFailure.{IsTold, IsWithin}
use Rattle.asn_dynamic_values.specs.DynView.{dyn_value, members_named, named_value}
use Rattle.asn_dynamic_values.specs.declared.value.DynValue.{DynValue}
use Rattle.asn_dynamic_reading.specs.Fields.{AbsenceAnswer, IsReadBySlot}
use Rattle.asn_dynamic_reading.proofs.Telling.{told-refuses, within-told}
use Rattle.asn_fault.specs.Failure.{Cause, Failure, at_root}
use Rattle.asn_model.specs.Components.{Component, Standing, component_names, reading_order}
use Rattle.asn_model.specs.DecodesTo.{DecodesTo}
use Rattle.asn_model.specs.FailsWith.{FailsWith, Path}
use Rattle.asn_model.specs.Notation.{Notation, notation_of}
use Rattle.asn_model.specs.Shape.{Fields, FieldAdditions, Presence, SeqKind, Shape, all_fields, field_names}
use Rattle.asn_model.specs.Tree.{Slot, Tree, head_slot}
use Rattle.asn_model.specs.Value.{Slots, Value, may_lack}
use Rattle.asn_parts.specs.Listed.{Place, TakesComponent, place_rows, places_in}
use Rattle.asn_coding.specs.Opening.{PutsMembers}
use Rattle.asn_parts.proofs.Fields.{FieldsRead, IsNext, Kept, field-step, fields-finish, fields-start, parts-in}

may-lack-taken : (p : Presence) → may_lack p ≡ true → may_take p None ≡ true
may-lack-taken Presence.required e = e
may-lack-taken Presence.optional e = refl
may-lack-taken (Presence.default d) e = refl

may-take-value : (p : Presence) (v : Value) → may_take p (Some v) ≡ true
may-take-value Presence.required v = refl
may-take-value Presence.optional v = refl
may-take-value (Presence.default d) v = refl

-- An absent slot is taken as a field that may be absent.
pub absent-taken : {n : Notation} (c : Component) {before after : List Slot} → before ≡ None ∷ after → may_lack c.presence ≡ true → TakesComponent n c before None after
absent-taken c was e = record { read = None; taken = TakesSlot.takes_nothing was; allowed = may-lack-taken c.presence e; is = refl }

-- A value is taken, and kept unless it is the default.
pub value-taken : {n : Notation} (c : Component) {before after : List Slot} (slot : Slot) (v : Value) (o : Option Value) → before ≡ slot ∷ after → DecodesTo n c.shape slot v → o ≡ kept_slot c.presence (Some v) → TakesComponent n c before o after
value-taken c slot v o was says is = record { read = Some v; taken = TakesSlot.takes_value slot v was says; allowed = may-take-value c.presence v; is = is }

-- A refusal of the value is one within the field.
field-fails : (n : Notation) (p : Presence) (at : Standing) (s : Shape) (name : List ℕ) (before : List Slot) → IsReadBySlot p at before → (q : Path) (w : Cause) → FailsWith n s (head_slot before) q w → ComponentFailsWith n p at s name before (name ∷ q) w
field-fails n Presence.required Standing.root s name before to q w f = WithinField.within_field q w f
field-fails n Presence.required Standing.addition s name before (inl (is, at)) q w f = let d : Standing.addition ≡ Standing.root = at in cc d
field-fails n Presence.required Standing.addition s name before (inr (t, rest, was)) q w f =
    AdditionFailsWith.addition_fails q w (inl (t, rest, was, subst (λ l. FailsWith n s (head_slot l) q w) was f))
field-fails n Presence.optional at s name before (inl (is, root)) q w f = let d : Presence.optional ≡ Presence.required = is in cc d
field-fails n Presence.optional at s name before (inr (t, rest, was)) q w f = WithinField.within_field q w (inl (t, rest, was, subst (λ l. FailsWith n s (head_slot l) q w) was f))
field-fails n (Presence.default d) at s name before (inl (is, root)) q w f = let e : Presence.default d ≡ Presence.required = is in cc e
field-fails n (Presence.default d) at s name before (inr (t, rest, was)) q w f = WithinField.within_field q w (inl (t, rest, was, subst (λ l. FailsWith n s (head_slot l) q w) was f))

pub value-refused : {n : Notation} (c : Component) (before : List Slot) (k : Codec) (f g : Failure) → notation_of k ≡ n → IsReadBySlot c.presence c.standing before → IsWithin k c.name f g → Refuses n (FailsWith n c.shape (head_slot before)) f
    → Refuses n (ComponentFailsWith n c.presence c.standing c.shape c.name before) g
value-refused {n} c before k f g of to is h =
    within-told {P = FailsWith n c.shape (head_slot before)} {Q = ComponentFailsWith n c.presence c.standing c.shape c.name before} c.name k of (field-fails n c.presence c.standing c.shape c.name before to) f g is h

-- Where nothing is pending, a field that is looked for first is refused within itself.
nothing-fails : (n : Notation) (p : Presence) (at : Standing) (s : Shape) (name : List ℕ) (before : List Slot) → ((p ≡ Presence.required) × (at ≡ Standing.root) → ⊥) → (q : Path) (w : Cause) → NonePending n before q w → ComponentFailsWith n p at s name before (name ∷ q) w
nothing-fails n Presence.required Standing.root s name before other q w f = absurd (other (refl, refl))
nothing-fails n Presence.required Standing.addition s name before other q w f = AdditionFailsWith.addition_fails q w (inr f)
nothing-fails n Presence.optional at s name before other q w f = WithinField.within_field q w (inr f)
nothing-fails n (Presence.default d) at s name before other q w f = WithinField.within_field q w (inr f)

pub nothing-refused : {n : Notation} (p : Presence) (at : Standing) (s : Shape) (name : List ℕ) (before : List Slot) (k : Codec) (f g : Failure) → notation_of k ≡ n → ((p ≡ Presence.required) × (at ≡ Standing.root) → ⊥) → IsWithin k name f g → Refuses n (NonePending n before) f
    → Refuses n (ComponentFailsWith n p at s name before) g
nothing-refused {n} p at s name before k f g of other is h = within-told {P = NonePending n before} {Q = ComponentFailsWith n p at s name before} name k of (nothing-fails n p at s name before other) f g is h

-- As the decoder's error is told first.
pub nothing-told : {n : Notation} (p : Presence) (at : Standing) (s : Shape) (name : List ℕ) (before : List Slot) (k : Codec) (f g : Failure) → notation_of k ≡ n → IsTold k f g → (l : Codec) (h : Failure) → notation_of l ≡ n → IsWithin l name g h
    → ((p ≡ Presence.required) × (at ≡ Standing.root) → ⊥) → Refuses n (NonePending n before) f → Refuses n (ComponentFailsWith n p at s name before) h
nothing-told {n} p at s name before k f g of told l h also within other refused =
    nothing-refused p at s name before l g h also other within (told-refuses {n = n} {P = NonePending n before} k f g of told refused)

-- A required addition is absent.
pub missing-told : {n : Notation} (s : Shape) (name : List ℕ) (before after : List Slot) (k : Codec) (f : Failure) → notation_of k ≡ n → IsTold k (at_root (Cause.missing_field name) k) f → before ≡ None ∷ after
    → Refuses n (ComponentFailsWith n Presence.required Standing.addition s name before) f
missing-told {n} s name before after k f of told was =
    told-refuses {n = n} {P = ComponentFailsWith n Presence.required Standing.addition s name before} k (at_root (Cause.missing_field name) k) f of told (Refuses.stopped (AdditionFailsWith.addition_is_missing after was) tt of)

-- Whether an absent slot was taken, of a field that may be absent.
pub absence : (n : Notation) (p : Presence) (at : Standing) (name : List ℕ) (before after : List Slot) (b : Bool) → may_lack p ≡ true → TakesAbsent n before (Ok b) after → AbsenceAnswer n p at name before (Ok b) after
absence n p at name before after true e was = (was, e)
absence n p at name before after false e (t, rest, was, same) = (same, inr (t, rest, was))

-- The members that are read so far.
abbrev pub Member : Type 0
Member = String Global × Option DynValue

abbrev pub slots_of : List Member → Frame
slots_of ms = map (λ m. option_map dyn_value m.1) ms

abbrev pub names_in : List Member → List (List ℕ)
names_in ms = map (λ m. string_bytes m.0) ms

pub members-named : (ms : List Member) → named (slots_of ms) (names_in ms) ≡ members_named (map named_value ms)
members-named [] = refl
members-named ((name, None) ∷ ms) = ap (Slots.absent (string_bytes name)) (members-named ms)
members-named ((name, Some v) ∷ ms) = ap (Slots.present (string_bytes name) (dyn_value v)) (members-named ms)

-- Of the fields of an open SEQUENCE so many are read, and they are these members.
pub record SequenceRead (n : Notation) (s : Shape) (before : List Slot) (i : ℕ) (members : List Member) (now : List Slot) : Type 0 where
  pub kept : List Kept
  pub read : FieldsRead n s before i kept now
  pub slots : slots_of members ≡ map (λ (q : Kept). q.1) kept
  pub names : names_in members ≡ component_names (map (λ (q : Place). q.1) (take i (places_in s)))

pub sequence-start : {n : Notation} {s : Shape} {before now : List Slot} → PutsMembers n (place_rows (places_in s)) before now → SequenceRead n s before 0 [] now
sequence-start puts = record { kept = []; read = fields-start puts; slots = refl; names = refl }

pub sequence-step : {n : Notation} {s : Shape} {before : List Slot} {i : ℕ} {members : List Member} {now : List Slot} (p : Place) (m : Member) (after : List Slot) → IsNext s i p → SequenceRead n s before i members now → string_bytes m.0 ≡ p.1.name
    → TakesComponent n p.1 now (option_map dyn_value m.1) after → SequenceRead n s before (i + 1) (members ++ m ∷ []) after
sequence-step {s = s} {i = i} {members = members} p m after next r name t =
    let o = option_map dyn_value m.1 in
    let more : take (i + 1) (places_in s) ≡ take i (places_in s) ++ p ∷ [] = take_more (places_in s) i p next.below ∙ ap (λ (q : Place). take i (places_in s) ++ q ∷ []) (sym next.at) in
    record {
      kept = r.kept ++ (p.0, o) ∷ [];
      read = field-step p next r.read o after t;
      slots = map_push (λ (x : Member). option_map dyn_value x.1) members m ∙ ap (λ l. l ++ o ∷ []) r.slots ∙ sym (map_push (λ (q : Kept). q.1) r.kept (p.0, o));
      names = map_push (λ (x : Member). string_bytes x.0) members m ∙ (λ j. r.names j ++ name j ∷ [])
          ∙ sym (ap (λ l. component_names (map (λ (q : Place). q.1) l)) more ∙ ap component_names (map_push (λ (q : Place). q.1) (take i (places_in s)) p) ∙ map_push (λ (c : Component). c.name) (map (λ (q : Place). q.1) (take i (places_in s))) p.1);
    }

pub sequence-finish : {n : Notation} (fs : Fields) (added : FieldAdditions) {before : List Slot} {i : ℕ} {members : List Member} {now : List Slot} → length (places_in (Shape.seq SeqKind.sequence fs added)) ≤ i → SequenceRead n (Shape.seq SeqKind.sequence fs added) before i members now
    → (slot : Slot) × (before ≡ slot ∷ now) × DecodesTo n (Shape.seq SeqKind.sequence fs added) slot (Value.members (members_named (map named_value members)))
sequence-finish {n} fs added {before} {i} {members} {now} h r =
    let s = Shape.seq SeqKind.sequence fs added in
    let names : names_in members ≡ field_names (all_fields fs added) =
    r.names ∙ ap (λ l. component_names (map (λ (q : Place). q.1) l)) (take_all i (places_in s) h) ∙ ap component_names (parts-in SeqKind.sequence fs added) ∙ names-read fs added in
    let done = fields-finish SeqKind.sequence fs added r.read h (slots_of members) r.slots in
    (done.0, done.1, subst (λ l. DecodesTo n s done.0 (Value.members l)) (ap (named (slots_of members)) (sym names) ∙ members-named members) done.2)
