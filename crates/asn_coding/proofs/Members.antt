-- The fields of a SEQUENCE or SET that are read in their order are the members of the value, in the order in which the type lists them.
use Rattle.std.proofs.Common.{◌≡◌, refl, sym, subst, ap, ◌∙◌, ℕ, zero, suc, ◌+◌, ◌≤◌, List, [], ◌∷◌, ◌++◌, map, drop, length, Option, Some, None, Bool, true, false, not, if◌then◌else◌, ◌⊎◌, inl, inr, arith}
use Rattle.std.proofs.lemmas.List.{length-map, length-drop}
use Rattle.std.specs.declared.cmp.Ordering.{Ordering}
use Rattle.std.specs.List.{AllByRecursion}
use Rattle.std.specs.Ordering.{is_gt, on}
use Rattle.asn_fault.specs.Failure.{Failure}
use Rattle.asn_model.specs.Components.{Component, Standing, component_names, components, reading_order, tag_cmp}
use Rattle.asn_model.specs.DecodesTo.{DecodesTo, FieldsDecodeTo}
use Rattle.asn_model.specs.FailsWith.{FailsWith}
use Rattle.asn_model.specs.Notation.{Notation}
use Rattle.asn_model.specs.Shape.{Shape, SeqKind, Fields, FieldAdditions, Plain, Presence, all_fields, field_names}
use Rattle.asn_model.specs.Sorting.{insert_in_order, sort}
use Rattle.asn_model.specs.Tree.{Slot, head_slot}
use Rattle.asn_model.specs.Value.{Value, Slots, is_kept, is_plain, may_lack, with_field}
use Rattle.asn_model.proofs.Sorting.{sort-map}
use Rattle.asn_coding.specs.Answer.{Refuses}
use Rattle.asn_coding.specs.FieldAnswer.{Ahead, TakesDefault, TakesField, TakesSlot}
use Rattle.asn_names.specs.Rows.{NameRow, row_names}
use Rattle.asn_coding.specs.Opening.{HasMembers, PutsMembers}
use Rattle.asn_coding.specs.Passing.{allows, default_slot, RefusesFields, TakesFields}
use Rattle.asn_coding.specs.ReadingSlots.{slots_read, tag_order, with_slots}
use Rattle.asn_coding.specs.Writing.{Frame, members_value, named}
use Rattle.asn_coding.proofs.Passing.{allowed-kept, allowed-lacks, refuses_components, slots_ahead, takes_components}
use Rattle.asn_coding.proofs.ReadingOrder.{fields_from, fields-read, names-read}
use Rattle.asn_coding.proofs.Repeated.{none_repeated}
use Rattle.asn_coding.proofs.Sorted.{each-append, each-first, each-second, each-sorted}
use Rattle.asn_coding.specs.SetFields.{additions_of}
use Rattle.asn_coding.proofs.TagOrder.{by_tag, with-additions}
use Rattle.asn_coding.proofs.Steps.{refuses_by, members_fail, same_head, same_tail}

-- The slot that a field has for a value of its type: a default is left out.
abbrev kept_slot : Presence → Value → Option Value
kept_slot p v = if is_kept p v then Some v else None

-- The component's slot is what stands at its name.
data Taken (n : Notation) (look : List ℕ → Slot) (c : Component) : Option Value → Type 0 where
  taken_value : (v : Value) (o : Option Value) → DecodesTo n c.shape (look c.name) v → o ≡ kept_slot c.presence v → Taken n look c o
  taken_nothing : (o : Option Value) → look c.name ≡ None → may_lack c.presence ≡ true → o ≡ None → Taken n look c o

abbrev Pair : Type 0
Pair = Component × Option Value

abbrev IsTaken : Notation → (List ℕ → Slot) → Pair → Type 0
IsTaken n look p = Taken n look p.0 p.1

kept_true : (p : Presence) (v : Value) → is_kept p v ≡ true → Some v ≡ kept_slot p v
kept_true p v e = by (is_kept p v) e
  where
    by : (b : Bool) → b ≡ true → Some v ≡ (if b then Some v else None)
    by true f = refl
    by false f = cc f

default_kept : (d : Plain) (v : Value) → default_slot d v ≡ kept_slot (Presence.default d) v
default_kept d v = by (is_plain d v)
  where
    by : (b : Bool) → (if b then None else Some v) ≡ (if not b then Some v else None)
    by true = refl
    by false = refl

plain_left_out : (d : Plain) (v : Value) → is_plain d v ≡ true → default_slot d v ≡ None
plain_left_out d v e = by (is_plain d v) e
  where
    by : (b : Bool) → b ≡ true → (if b then None else Some v) ≡ None
    by true f = refl
    by false f = cc f

-- What is ahead after the components.
record Each (n : Notation) (look : List ℕ → Slot) (cs : List Component) (ss : Frame) : Type 0 where
  count : length ss ≡ length cs
  each : AllByRecursion (IsTaken n look) (with_slots cs ss)

more : {n : Notation} {look : List ℕ → Slot} {c : Component} {cs : List Component} {o : Option Value} {ss : Frame} → Taken n look c o → Each n look cs ss → Each n look (c ∷ cs) (o ∷ ss)
more t e = record { count = ap suc e.count; each = (t, e.each) }

module _ (n : Notation) (look : List ℕ → Slot) (rest : List Slot) where
  -- The slots of these components are ahead.
  abbrev Ready : List Component → List Slot → Type 0
  Ready cs before = before ≡ map look (component_names cs) ++ rest

  taken_one : (c : Component) (cs : List Component) (before after : List Slot) (o : Option Value) → Ready (c ∷ cs) before → TakesSlot n c.shape before after o → Ready cs after
  taken_one c cs before after o ready (TakesSlot.takes_value slot v shown says) = same_tail _ _ _ _ (sym shown ∙ ready)
  taken_one c cs before after o ready (TakesSlot.takes_nothing shown) = same_tail _ _ _ _ (sym shown ∙ ready)

  own_value : (c : Component) (cs : List Component) (before after : List Slot) (v : Value) → Ready (c ∷ cs) before → TakesSlot n c.shape before after (Some v) → DecodesTo n c.shape (look c.name) v
  own_value c cs before after v ready (TakesSlot.takes_value slot w shown says) = subst (λ s. DecodesTo n c.shape s v) (same_head _ _ _ _ (sym shown ∙ ready)) says

  own_nothing : (c : Component) (cs : List Component) (before after : List Slot) → Ready (c ∷ cs) before → TakesSlot n c.shape before after None → look c.name ≡ None
  own_nothing c cs before after ready (TakesSlot.takes_nothing shown) = same_head _ _ _ _ (sym ready ∙ shown)

  allowed_one : (c : Component) (cs : List Component) (before after : List Slot) (o : Option Value) → Ready (c ∷ cs) before → TakesSlot n c.shape before after o → allows c.presence o ≡ true → Taken n look c o
  allowed_one c cs before after (Some v) ready t a = Taken.taken_value v (Some v) (own_value c cs before after v ready t) (kept_true c.presence v (allowed-kept c.presence v a))
  allowed_one c cs before after None ready t a = Taken.taken_nothing None (own_nothing c cs before after ready t) (allowed-lacks c.presence a) refl

  takes_each : {cs : List Component} {ss : Frame} {now after : Ahead} → Ready cs (slots_ahead now) → TakesFields n cs ss now after → Each n look cs ss
  takes_each ready TakesFields.takes_none = record { count = refl; each = tt }
  takes_each ready (TakesFields.takes_next {c = c} {rest = todo} {o = o} (TakesField.takes_field {before = before} {after = mid} t others) later a) =
      more (allowed_one c todo before mid o ready t a) (takes_each (taken_one c todo before mid o ready t) later)
  takes_each ready (TakesFields.takes_default {c = c} {rest = todo} {d = d} {v = v} (TakesDefault.takes_own (TakesField.takes_field {before = before} {after = mid} t others)) later is plain) =
      more
      (Taken.taken_value v _ (own_value c todo before mid v ready t) (default_kept d v ∙ ap (λ p. kept_slot p v) (sym is)))
      (takes_each (taken_one c todo before mid (Some v) ready t) later)
  takes_each ready (TakesFields.takes_default {c = c} {rest = todo} {d = d} {standing = standing} {v = v} (TakesDefault.takes_standing (TakesField.takes_field {before = before} {after = mid} t others) same) later is plain) =
      more
      (Taken.taken_nothing _ (own_nothing c todo before mid ready t) (ap may_lack is) (plain_left_out d v (ap (is_plain d) same ∙ plain)))
      (takes_each (taken_one c todo before mid None ready t) later)

-- The members of the value are what stands at the names of the fields.
kept_member : (p : Presence) (name : List ℕ) (v : Value) (o : Option Value) (ss : Frame) (names : List (List ℕ)) → o ≡ kept_slot p v → with_field p name v (named ss names) ≡ named (o ∷ ss) (name ∷ names)
kept_member p name v o ss names is = by (is_kept p v) ∙ ap (λ s. named (s ∷ ss) (name ∷ names)) (sym is)
  where
    by : (b : Bool) → (if b then Slots.present name v (named ss names) else Slots.absent name (named ss names)) ≡ named ((if b then Some v else None) ∷ ss) (name ∷ names)
    by true = refl
    by false = refl

members_from : (n : Notation) (look : List ℕ → Slot) (cs : List Component) (ss : Frame) → length ss ≡ length cs → AllByRecursion (IsTaken n look) (with_slots cs ss) → FieldsDecodeTo n (fields_from cs) (map look (component_names cs)) (named ss (component_names cs))
members_from n look [] [] count all = FieldsDecodeTo.decodes_end
members_from n look [] (o ∷ ss) count all = absurd (omega (arith, count))
members_from n look (c ∷ cs) [] count all = absurd (omega (arith, count))
members_from n look (c ∷ cs) (o ∷ ss) count (t, all) = by t (members_from n look cs ss (omega (arith, count)) all)
  where
    by : Taken n look c o → FieldsDecodeTo n (fields_from cs) (map look (component_names cs)) (named ss (component_names cs)) → FieldsDecodeTo n (fields_from (c ∷ cs)) (map look (component_names (c ∷ cs))) (named (o ∷ ss) (component_names (c ∷ cs)))
    by (Taken.taken_value v s says is) later =
        subst (FieldsDecodeTo n (fields_from (c ∷ cs)) (map look (component_names (c ∷ cs)))) (kept_member c.presence c.name v o ss (component_names cs) is)
        (FieldsDecodeTo.decodes_present c.name c.tag c.presence c.shape (fields_from cs) (look c.name) (map look (component_names cs)) v (named ss (component_names cs)) says later)
    by (Taken.taken_nothing s shown lacks is) later =
        subst (λ q. FieldsDecodeTo n (fields_from (c ∷ cs)) (look c.name ∷ map look (component_names cs)) (named (q ∷ ss) (component_names (c ∷ cs)))) (sym is)
        (subst (λ q. FieldsDecodeTo n (fields_from (c ∷ cs)) (q ∷ map look (component_names cs)) (Slots.absent c.name (named ss (component_names cs)))) (sym shown)
        (FieldsDecodeTo.decodes_absent c.name c.tag c.presence c.shape (fields_from cs) (map look (component_names cs)) (named ss (component_names cs)) lacks later))

length-insert : {X : Type 0} (cmp : X → X → Ordering) (x : X) (ys : List X) → length (insert_in_order cmp x ys) ≡ suc (length ys)
length-insert cmp x [] = refl
length-insert cmp x (y ∷ ys) = by (length-insert cmp x ys) (is_gt (cmp x y))
  where
    by : length (insert_in_order cmp x ys) ≡ suc (length ys) → (b : Bool) → length (if b then y ∷ insert_in_order cmp x ys else x ∷ y ∷ ys) ≡ suc (suc (length ys))
    by rest true = ap suc rest
    by rest false = refl

length-sort : {X : Type 0} (cmp : X → X → Ordering) (xs : List X) → length (sort cmp xs) ≡ length xs
length-sort cmp [] = refl
length-sort cmp (x ∷ xs) = length-insert cmp x (sort cmp xs) ∙ ap suc (length-sort cmp xs)

-- Components with their slots, split.
abbrev parts : List Pair → List Component
parts ps = map (λ p. p.0) ps

abbrev slots_in : List Pair → Frame
slots_in ps = map (λ p. p.1) ps

paired : (ps : List Pair) (cs : List Component) (ss : Frame) → with_slots (parts ps ++ cs) (slots_in ps ++ ss) ≡ ps ++ with_slots cs ss
paired [] cs ss = refl
paired (p ∷ ps) cs ss = ap (λ l. p ∷ l) (paired ps cs ss)

parts-with : (cs : List Component) (ss : Frame) → length cs ≤ length ss → parts (with_slots cs ss) ≡ cs
parts-with [] ss h = refl
parts-with (c ∷ cs) [] h = absurd (omega (arith, h))
parts-with (c ∷ cs) (s ∷ ss) h = ap (λ l. c ∷ l) (parts-with cs ss (omega (arith, h)))

split-with : (cs ds : List Component) (ss : Frame) → length cs ≤ length ss → with_slots (cs ++ ds) ss ≡ with_slots cs ss ++ with_slots ds (drop (length cs) ss)
split-with [] ds ss h = refl
split-with (c ∷ cs) ds [] h = absurd (omega (arith, h))
split-with (c ∷ cs) ds (s ∷ ss) h = ap (λ l. (c, s) ∷ l) (split-with cs ds ss (omega (arith, h)))

-- There are as many components as slots, or fewer.
long-with : (cs : List Component) (ss : Frame) → (length cs ≤ length ss → length (with_slots cs ss) ≡ length cs) × (length ss ≤ length cs → length (with_slots cs ss) ≡ length ss)
long-with [] [] = (λ h. refl, λ h. refl)
long-with [] (s ∷ ss) = (λ h. refl, λ h. absurd (omega (arith, h)))
long-with (c ∷ cs) [] = (λ h. absurd (omega (arith, h)), λ h. refl)
long-with (c ∷ cs) (s ∷ ss) = let r = long-with cs ss in (λ h. ap suc (r.0 (omega (arith, h))), λ h. ap suc (r.1 (omega (arith, h))))

length-append : {X : Type 0} (xs ys : List X) → length (xs ++ ys) ≡ length xs + length ys
length-append [] ys = omega arith
length-append (x ∷ xs) ys = let h = length-append xs ys in omega arith

names-count : (at : Standing) (fs : Fields) → length (field_names fs) ≡ length (components at fs)
names-count at Fields.no_fields = refl
names-count at (Fields.field n t p s fs) = ap suc (names-count at fs)

one_way : (m n : ℕ) → (m ≤ n) ⊎ (n ≤ m)
one_way zero n = inl (omega arith)
one_way (suc m) zero = inr (omega arith)
one_way (suc m) (suc n) = elim (one_way m n) [ inl h ↦ inl (omega (arith, h)) | inr h ↦ inr (omega (arith, h)) ]

-- What is taken of the components of a SET in the order of their tags is taken as the type lists them.
module _ (n : Notation) (look : List ℕ → Slot) (root adds : List Component) (ss : Frame) where
  abbrev sorted : List Pair
  sorted = sort tag_order (with_slots root ss)

  enough : length (slots_in sorted ++ drop (length root) ss) ≡ length (by_tag root ++ adds) → (length root ≤ length ss) × (length ss ≡ length (root ++ adds))
  enough count =
      let a = length-append (slots_in sorted) (drop (length root) ss) in
      let b = length-append (by_tag root) adds in
      let c = length-sort (on (λ (c : Component). c.tag) tag_cmp) root in
      let d = length-map sorted (λ (p : Pair). p.1) in
      let e = length-sort tag_order (with_slots root ss) in
      let f = long-with root ss in
      let k = length-drop (length root) ss in
      let g = length-append root adds in
      elim (one_way (length root) (length ss)) [
        | inl le ↦ let w = f.0 le in (le, omega (arith, count, a, b, c, d, e, k, g, w, le))
        | inr ge ↦ let w = f.1 ge in (omega (arith, count, a, b, c, d, e, k, w, ge), omega (arith, count, a, b, c, d, e, k, g, w, ge))
      ]

  listed : Each n look (by_tag root ++ adds) (slots_in sorted ++ drop (length root) ss) → Each n look (root ++ adds) ss
  listed e =
      let h = enough e.count in
      let same : by_tag root ≡ parts sorted = ap by_tag (sym (parts-with root ss h.0)) ∙ sort-map (on (λ (c : Component). c.tag) tag_cmp) (λ (p : Pair). p.0) (with_slots root ss) in
      let all : AllByRecursion (IsTaken n look) (sorted ++ with_slots adds (drop (length root) ss))
      = subst (AllByRecursion (IsTaken n look)) (ap (λ cs. with_slots (cs ++ adds) (slots_in sorted ++ drop (length root) ss)) same ∙ paired sorted adds (drop (length root) ss)) e.each in
      record {
        count = h.1;
        each = subst (AllByRecursion (IsTaken n look)) (sym (split-with root adds ss h.0))
            (each-append (IsTaken n look) (with_slots root ss) (with_slots adds (drop (length root) ss)) (each-sorted tag_order (IsTaken n look) (with_slots root ss) (each-first (IsTaken n look) sorted _ all)) (each-second (IsTaken n look) sorted _ all));
      }

as_listed : (n : Notation) (look : List ℕ → Slot) (kind : SeqKind) (fs : Fields) (added : FieldAdditions) (ss : Frame) → Each n look (reading_order kind fs added) (slots_read kind fs ss) → Each n look (reading_order SeqKind.sequence fs added) ss
as_listed n look SeqKind.sequence fs added ss e = e
as_listed n look SeqKind.set fs added ss e =
    let root = components Standing.root fs in
    subst (λ cs. Each n look cs ss) (sym (with-additions root added))
    (listed n look root (additions_of added) ss
    (subst (λ cs. Each n look cs (slots_in (sort tag_order (with_slots root ss)) ++ drop (length root) ss)) (with-additions (by_tag root) added)
    (subst (λ k. Each n look (reading_order SeqKind.set fs added) (slots_in (sort tag_order (with_slots root ss)) ++ drop k ss)) (names-count Standing.root fs) e)))

as_members : (n : Notation) (look : List ℕ → Slot) (kind : SeqKind) (fs : Fields) (added : FieldAdditions) (ss : Frame) → Each n look (reading_order kind fs added) (slots_read kind fs ss) → FieldsDecodeTo n (all_fields fs added) (map look (field_names (all_fields fs added))) (named ss (field_names (all_fields fs added)))
as_members n look kind fs added ss e =
    let d = as_listed n look kind fs added ss e in
    let read = reading_order SeqKind.sequence fs added in
    subst (λ ns. FieldsDecodeTo n (all_fields fs added) (map look ns) (named ss ns)) (names-read fs added) (subst (λ gs. FieldsDecodeTo n gs (map look (component_names read)) (named ss (component_names read))) (fields-read fs added) (members_from n look read ss d.count d.each))

one_each : (cs : List Component) (rows : List NameRow) (slots : List Slot) → row_names rows ≡ component_names cs → length slots ≡ length rows → length slots ≡ length cs
one_each cs rows slots spelled count = count ∙ sym (length-map rows (λ (r : NameRow). r.name)) ∙ ap length spelled ∙ length-map cs (λ (c : Component). c.name)

-- What is read of the members of an open slot is its value.
module _ {n : Notation} (kind : SeqKind) (fs : Fields) (added : FieldAdditions) where
  decodes : (ss : Frame) (rest : List Slot) {ahead others names : List (List ℕ)} {after slots : List Slot} {slot : Slot} → names ≡ component_names (reading_order kind fs added) → HasMembers n names slot slots
      → TakesFields n (reading_order kind fs added) (slots_read kind fs ss) (Ahead.ahead ahead (slots ++ rest)) (Ahead.ahead others after) → DecodesTo n (Shape.seq kind fs added) slot (members_value (all_fields fs added) ss)
  decodes ss rest spelled (HasMembers.has_members names t look is once) taken =
      DecodesTo.decodes_seq kind fs added t look _ is (none_repeated n t kind fs added spelled once) (as_members n look kind fs added ss (takes_each n look rest (ap (λ ns. map look ns ++ rest) spelled) taken))
  decodes ss rest spelled (HasMembers.members_free names slot slots is) taken = DecodesTo.decodes_free _ slot _ is

  pub members_read : (rows : List NameRow) (ss : Frame) {ahead others : List (List ℕ)} {before mid after : List Slot} → row_names rows ≡ component_names (reading_order kind fs added) → PutsMembers n rows before mid
      → TakesFields n (reading_order kind fs added) (slots_read kind fs ss) (Ahead.ahead ahead mid) (Ahead.ahead others after) → (slot : Slot) × (before ≡ slot ∷ after) × DecodesTo n (Shape.seq kind fs added) slot (members_value (all_fields fs added) ss)
  members_read rows ss {ahead = ahead} {others = others} {after = after} spelled (slot, slots, rest, was, is, count, below, has) taken =
      let t = subst (λ m. TakesFields n (reading_order kind fs added) (slots_read kind fs ss) (Ahead.ahead ahead m) (Ahead.ahead others after)) is taken in
      (slot, was ∙ ap (λ l. slot ∷ l) (sym (takes_components t slots rest (one_each (reading_order kind fs added) rows slots spelled count) refl)), decodes ss rest spelled has t)

  pub members_refused : (rows : List NameRow) {ahead : List (List ℕ)} {before mid : List Slot} {e : Failure} → row_names rows ≡ component_names (reading_order kind fs added) → ahead ≡ component_names (reading_order kind fs added) → PutsMembers n rows before mid
      → RefusesFields n (reading_order kind fs added) (Ahead.ahead ahead mid) e → Refuses n (FailsWith n (Shape.seq kind fs added) (head_slot before)) e
  members_refused rows {e = e} spelled along (slot, slots, rest, was, is, count, below, has) refused =
      refuses_by (λ p w k. subst (λ l. FailsWith n (Shape.seq kind fs added) (head_slot l) p w) (sym was) (members_fail kind fs added p w spelled has k)) e
      (refuses_components along refused slots rest (one_each (reading_order kind fs added) rows slots spelled count) is)
