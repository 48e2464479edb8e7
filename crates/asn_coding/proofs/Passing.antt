-- What is written and read field by field is what the SEQUENCE writes and reads.
use Rattle.std.proofs.Common.{◌≡◌, refl, subst, ap, ◌∙◌, ℕ, List, ◌∷◌, ◌++◌, length, Option, Some, None, Bool, true, false, not, if◌then◌else◌}
use Rattle.std.proofs.lemmas.Int.{to_z-of_z}
use Rattle.asn_core.specs.declared.tag.Tag.{Tag}
use Rattle.asn_fault.specs.Failure.{Failure, Cause}
use Rattle.asn_fault.specs.declared.encode.EncodeError.{EncodeError}
use Rattle.asn_coding.specs.Answer.{OptionalFailsWith, Refuses}
use Rattle.asn_coding.specs.FieldAnswer.{AdditionFailsWith, AddsSlot, Ahead, TakesDefault, TakesField, TakesSlot, WithinField}
use Rattle.asn_model.specs.Components.{Component, Standing, component_names}
use Rattle.asn_model.specs.Notation.{Notation}
use Rattle.asn_coding.specs.Passing.{allows, default_slot, may_take, AddsFields, RefusesAdding, TakesFields, RefusesFields, ComponentFailsWith}
use Rattle.asn_coding.specs.Passing.AddsFields.{adds_none, adds_next}
use Rattle.asn_coding.specs.Passing.RefusesAdding.{refuses_slot, refuses_later_slot}
use Rattle.asn_coding.specs.Passing.TakesFields.{takes_none, takes_next, takes_default}
use Rattle.asn_coding.specs.Passing.RefusesFields.{refuses_field, refuses_later_field}
use Rattle.asn_model.specs.DecodesTo.{FieldsDecodeTo}
use Rattle.asn_model.specs.Shape.{Shape, Fields, Plain, Presence, field_names}
use Rattle.asn_model.specs.FailsWith.{FailsWith, FieldsFailWith, Path}
use Rattle.asn_model.specs.Tree.{Slot, head_slot}
use Rattle.asn_model.specs.Value.{Value, Slots, is_kept, is_plain, may_lack, with_field}
use Rattle.asn_coding.specs.Writing.{Frame, head_name, named, tail_names, Filled, FailsToFill}
use Rattle.asn_coding.proofs.FieldSteps.{FieldsRead, reads_start, refused_at, refused_after, member, at_field}
use Rattle.asn_coding.proofs.Filling.{fill_end, fill_present, fill_absent}
use Rattle.asn_coding.proofs.ReadingOrder.{fields_from}
use Rattle.asn_coding.proofs.Steps.{refuses_by}
use Rattle.asn_coding.proofs.Taking.{Taking, optional_field, takes_present, takes_optional, taking_ends, fails_optional, fails_required, fails_addition}

pub allowed-kept : (p : Presence) (v : Value) → allows p (Some v) ≡ true → is_kept p v ≡ true
allowed-kept Presence.required v a = refl
allowed-kept Presence.optional v a = refl
allowed-kept (Presence.default d) v a = a

pub allowed-lacks : (p : Presence) → allows p None ≡ true → may_lack p ≡ true
allowed-lacks Presence.required a = let e : false ≡ true = a in cc e
allowed-lacks Presence.optional a = refl
allowed-lacks (Presence.default d) a = refl

pub allowed-taken : (p : Presence) (o : Option Value) → allows p o ≡ true → may_take p o ≡ true
allowed-taken Presence.required o a = a
allowed-taken Presence.optional o a = refl
allowed-taken (Presence.default d) o a = refl

taken-lacks : (p : Presence) → may_take p None ≡ true → may_lack p ≡ true
taken-lacks Presence.required a = let e : false ≡ true = a in cc e
taken-lacks Presence.optional a = refl
taken-lacks (Presence.default d) a = refl

-- What is added field by field fills the fields.
pub adds_fields : {S : Type 0} {holds : S → List Frame → Type 0} {n : Notation} {fs : Fields} {ss : Frame} {old new : S} → AddsFields holds n fs ss old new → Filled holds n fs (field_names fs) ss old new
adds_fields AddsFields.adds_none = fill_end
adds_fields (AddsFields.adds_next {p = p} (AddsSlot.adds_value v w) r a) = fill_present w (allowed-kept p v a) (adds_fields r)
adds_fields (AddsFields.adds_next {p = p} (AddsSlot.adds_nothing w) r a) = fill_absent w (allowed-lacks p a) (adds_fields r)

pub refuses_adding : {S : Type 0} {holds : S → List Frame → Type 0} {n : Notation} {fs : Fields} {ss : Frame} {old : S} {e : EncodeError} → RefusesAdding holds n fs ss old e → FailsToFill n ss e
refuses_adding (RefusesAdding.refuses_slot r) = refused_at r
refuses_adding (RefusesAdding.refuses_later_slot a r) = refused_after a (refuses_adding r)

kept_field : (b : Bool) (name : List ℕ) (v : Value) (vs : Slots) → b ≡ true → (if b then Slots.present name v vs else Slots.absent name vs) ≡ Slots.present name v vs
kept_field true name v vs e = refl
kept_field false name v vs e = cc e

named_member : (o : Option Value) (ss : Frame) (name : List ℕ) (names : List (List ℕ)) → member name o (named ss names) ≡ named (o ∷ ss) (name ∷ names)
named_member (Some v) ss name names = refl
named_member None ss name names = refl

-- What is taken is the member, where the presence allows it.
taken_member : (p : Presence) (name : List ℕ) (o : Option Value) (vs : Slots) → allows p o ≡ true → optional_field p name (λ (v : Value). v) o vs ≡ member name o vs
taken_member p name (Some v) vs a = kept_field (is_kept p v) name v vs (allowed-kept p v a)
taken_member p name None vs a = refl

-- A default is left out.
default_member : (d : Plain) (name : List ℕ) (v : Value) (vs : Slots) → with_field (Presence.default d) name v vs ≡ member name (default_slot d v) vs
default_member d name v vs = by (is_plain d v)
  where
    by : (b : Bool) → (if not b then Slots.present name v vs else Slots.absent name vs) ≡ member name (if b then None else Some v) vs
    by true = refl
    by false = refl

standing_member : (d : Plain) (name : List ℕ) (v : Value) (vs : Slots) → is_plain d v ≡ true → Slots.absent name vs ≡ member name (default_slot d v) vs
standing_member d name v vs e = by (is_plain d v) e
  where
    by : (b : Bool) → b ≡ true → Slots.absent name vs ≡ member name (if b then None else Some v) vs
    by true f = refl
    by false f = let g : false ≡ true = f in cc g

recast : (n : Notation) (all : List Component) (slots rest after : List Slot) (todo : List Component) (front f g : Slots → Slots) → ((vs : Slots) → f vs ≡ g vs) → Taking n all slots rest todo (λ vs. front (f vs)) after → Taking n all slots rest todo (λ vs. front (g vs)) after
recast n all slots rest after todo front f g same t = record {
  left = t.left;
  is = t.is;
  count = t.count;
  said = λ vs h. subst (λ m. FieldsDecodeTo n (fields_from all) slots (front m)) (same vs) (t.said vs h);
  stopped = t.stopped;
}

abbrev names_ahead : Ahead → List (List ℕ)
names_ahead (Ahead.ahead names slots) = names

abbrev pub slots_ahead : Ahead → List Slot
slots_ahead (Ahead.ahead names slots) = slots

module _ {n : Notation} {all : List Component} {start : List Slot} where
  -- A component is taken.
  reads_any : {c : Component} {todo : List Component} {front : Slots → Slots} {now after : List Slot} {o : Option Value} → FieldsRead n all start (c ∷ todo) front now
      → TakesSlot n c.shape now after o → may_take c.presence o ≡ true → FieldsRead n all start todo (λ vs. front (optional_field c.presence c.name (λ (v : Value). v) o vs)) after
  reads_any {c} {todo} {front} {now} {after} r (TakesSlot.takes_value slot v shown says) a =
      record { taking = λ slots rest count e. takes_present n all slots rest c todo front (λ (u : Value). u) now after v (r.taking slots rest count e) (slot, shown, says) }
  reads_any {c} {todo} {front} {now} {after} r (TakesSlot.takes_nothing shown) a =
      record { taking = λ slots rest count e. takes_optional n all slots rest c todo front (taken-lacks c.presence a) (λ (v : Value). v) now after None (r.taking slots rest count e) shown }

  -- A component is read.
  reads_next : {c : Component} {todo : List Component} {front : Slots → Slots} {now after : List Slot} {o : Option Value} → FieldsRead n all start (c ∷ todo) front now
      → TakesSlot n c.shape now after o → allows c.presence o ≡ true → FieldsRead n all start todo (λ vs. front (member c.name o vs)) after
  reads_next {c} {todo} {front} {now} {after} {o} r t a = record {
    taking = λ slots rest count e. recast n all slots rest after todo front (optional_field c.presence c.name (λ (v : Value). v) o) (member c.name o) (λ vs. taken_member c.presence c.name o vs a)
        (let d = reads_any r t (allowed-taken c.presence o a) in d.taking slots rest count e);
  }

  -- A component with a default is read.
  reads_default : {c : Component} {todo : List Component} {front : Slots → Slots} {before after : Ahead} (d : Plain) (standing v : Value) → FieldsRead n all start (c ∷ todo) front (slots_ahead before)
      → TakesDefault n c.shape before after standing v → c.presence ≡ Presence.default d → is_plain d standing ≡ true → FieldsRead n all start todo (λ vs. front (member c.name (default_slot d v) vs)) (slots_ahead after)
  reads_default {c} {todo} {front} d standing v r (TakesDefault.takes_own (TakesField.takes_field {after = after} t others)) is plain = record {
    taking = λ slots rest count e. recast n all slots rest after todo front (with_field c.presence c.name v) (member c.name (default_slot d v)) (λ vs. ap (λ p. with_field p c.name v vs) is ∙ default_member d c.name v vs)
        (let q = reads_any r t (ap (λ p. may_take p (Some v)) is) in q.taking slots rest count e);
  }
  reads_default {c} {todo} {front} d standing v r (TakesDefault.takes_standing (TakesField.takes_field {after = after} t others) same) is plain = record {
    taking = λ slots rest count e. recast n all slots rest after todo front (Slots.absent c.name) (member c.name (default_slot d v)) (λ vs. standing_member d c.name v vs (ap (is_plain d) same ∙ plain))
        (let q = reads_any r t (ap (λ p. may_take p None) is) in q.taking slots rest count e);
  }

  reads_rest : {cs : List Component} {ss : Frame} {now after : Ahead} {front : Slots → Slots} → FieldsRead n all start cs front (slots_ahead now) → TakesFields n cs ss now after
      → (slots rest : List Slot) → length slots ≡ length all → start ≡ slots ++ rest → (slots_ahead after ≡ rest) × FieldsDecodeTo n (fields_from all) slots (front (named ss (component_names cs)))
  reads_rest {now = now} {front = front} r TakesFields.takes_none slots rest count is = taking_ends n all slots rest front (slots_ahead now) (r.taking slots rest count is)
  reads_rest {front = front} r (TakesFields.takes_next {c = c} {rest = todo} {o = o} {ss = ss} (TakesField.takes_field t others) more a) slots rest count is =
      let d = reads_rest (reads_next r t a) more slots rest count is in
      (d.0, subst (λ m. FieldsDecodeTo n (fields_from all) slots (front m)) (named_member o ss c.name (component_names todo)) d.1)
  reads_rest {front = front} r (TakesFields.takes_default {c = c} {rest = todo} {d = d} {standing = standing} {v = v} {ss = ss} t more is plain) slots rest count shown =
      let q = reads_rest (reads_default d standing v r t is plain) more slots rest count shown in
      (q.0, subst (λ m. FieldsDecodeTo n (fields_from all) slots (front m)) (named_member (default_slot d v) ss c.name (component_names todo)) q.1)

  -- A component is refused.
  component_refused : {c : Component} {todo : List Component} {front : Slots → Slots} {now : List Slot} {e : Failure} → FieldsRead n all start (c ∷ todo) front now
      → Refuses n (ComponentFailsWith n c.presence c.standing c.shape c.name now) e
      → (slots rest : List Slot) → length slots ≡ length all → start ≡ slots ++ rest → Refuses n (FieldsFailWith n all slots) e
  component_refused {c} {todo} {front} {now} {e} r h slots rest count is =
      let taken = r.taking slots rest count is in
      let optional = at_field (FieldsFailWith n all slots) (fails_optional n all slots rest c todo front now taken) in
      let required = λ (needed : may_lack c.presence ≡ false) (at : c.standing ≡ Standing.root). at_field (FieldsFailWith n all slots) (fails_required n all slots rest c todo front needed now taken at) in
      let addition = λ (needed : may_lack c.presence ≡ false) (at : c.standing ≡ Standing.addition). fails_addition n all slots rest c todo front needed now taken at in
      by c.presence c.standing refl refl optional required addition h
    where
      by : (p : Presence) (at : Standing) → c.presence ≡ p → c.standing ≡ at
          → ((q : Path) (w : Cause) → WithinField c.name (OptionalFailsWith n c.shape now) q w → FieldsFailWith n all slots q w)
          → (may_lack c.presence ≡ false → c.standing ≡ Standing.root → (q : Path) (w : Cause) → WithinField c.name (FailsWith n c.shape (head_slot now)) q w → FieldsFailWith n all slots q w)
          → (may_lack c.presence ≡ false → c.standing ≡ Standing.addition → (q : Path) (w : Cause) → AdditionFailsWith n c.shape c.name now q w → FieldsFailWith n all slots q w)
          → Refuses n (ComponentFailsWith n p at c.shape c.name now) e → Refuses n (FieldsFailWith n all slots) e
      by Presence.required Standing.root is stands optional required addition k = refuses_by (required (ap may_lack is) stands) e k
      by Presence.required Standing.addition is stands optional required addition k = refuses_by (addition (ap may_lack is) stands) e k
      by Presence.optional at is stands optional required addition k = refuses_by optional e k
      by (Presence.default d) at is stands optional required addition k = refuses_by optional e k

  -- The names ahead are those of the components.
  refuses_rest : {cs : List Component} {now : Ahead} {front : Slots → Slots} {e : Failure} → FieldsRead n all start cs front (slots_ahead now) → names_ahead now ≡ component_names cs → RefusesFields n cs now e
      → (slots rest : List Slot) → length slots ≡ length all → start ≡ slots ++ rest → Refuses n (FieldsFailWith n all slots) e
  refuses_rest {e = e} r named (RefusesFields.refuses_field {c = c} {before = now} h) =
      component_refused r (subst (λ ns. Refuses n (ComponentFailsWith n c.presence c.standing c.shape (head_name ns) now) e) named h)
  refuses_rest r named (RefusesFields.refuses_later_field (TakesField.takes_field t others) more a) = refuses_rest (reads_any r t a) (others ∙ ap tail_names named) more

-- The slots of components that are taken are gone, and they decode to the members that were taken.
pub decodes_components : {n : Notation} {cs : List Component} {ss : Frame} {names others : List (List ℕ)} {before after : List Slot} → TakesFields n cs ss (Ahead.ahead names before) (Ahead.ahead others after) → (slots rest : List Slot) → length slots ≡ length cs → before ≡ slots ++ rest
    → (after ≡ rest) × FieldsDecodeTo n (fields_from cs) slots (named ss (component_names cs))
decodes_components t slots rest count is = reads_rest reads_start t slots rest count is

-- The slots of components that are taken are gone.
pub takes_components : {n : Notation} {cs : List Component} {ss : Frame} {names others : List (List ℕ)} {before after : List Slot} → TakesFields n cs ss (Ahead.ahead names before) (Ahead.ahead others after) → (slots rest : List Slot) → length slots ≡ length cs → before ≡ slots ++ rest → after ≡ rest
takes_components t slots rest count is = let d = decodes_components t slots rest count is in d.0

-- A component's refusal is one of its slot.
pub refuses_components : {n : Notation} {cs : List Component} {names : List (List ℕ)} {before : List Slot} {e : Failure} → names ≡ component_names cs → RefusesFields n cs (Ahead.ahead names before) e → (slots rest : List Slot) → length slots ≡ length cs → before ≡ slots ++ rest → Refuses n (FieldsFailWith n cs slots) e
refuses_components named r slots rest count is = refuses_rest reads_start named r slots rest count is

default_allowed : (d : Plain) (v : Value) → allows (Presence.default d) (default_slot d v) ≡ true
default_allowed d v = by (is_plain d v) refl
  where
    by : (b : Bool) → is_plain d v ≡ b → allows (Presence.default d) (if b then None else Some v) ≡ true
    by true e = refl
    by false e = ap not e

-- A field with a default is added, and the default is left out.
pub adds_default : {S : Type 0} {holds : S → List Frame → Type 0} {n : Notation} {name : List ℕ} {g : Tag} {s : Shape} {rest : Fields} {ss : Frame} {old mid new : S} (d : Plain) (v : Value)
    → AddsSlot holds n s old mid (default_slot d v) → AddsFields holds n rest ss mid new → AddsFields holds n (Fields.field name g (Presence.default d) s rest) (default_slot d v ∷ ss) old new
adds_default d v slot more = AddsFields.adds_next slot more (default_allowed d v)

-- The steps of a writer of fields.
pub ruleset write_steps = (adds_none, adds_next, adds_default, refuses_slot, refuses_later_slot)

-- The steps of a reader of fields.
pub ruleset read_steps = (takes_none, takes_next, takes_default, refuses_field, refuses_later_field, to_z-of_z)

-- Both.
pub ruleset field_steps = (write_steps, read_steps)
