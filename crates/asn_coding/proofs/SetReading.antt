-- A SET whose fields are read one at a time, in the order of their tags.
use Rattle.std.proofs.Common.{◌≡◌, refl, sym, subst, ap, ◌∙◌, ℕ, suc, ◌+◌, ◌<◌, ◌≤◌, List, [], ◌∷◌, ◌++◌, map, take, drop, drop-cons, get_or, length, Option, Some, None, Result, Ok, Err, arith, zero, Bool, true, false, not, if◌then◌else◌}
use Rattle.std.proofs.lemmas.List.{length-map, map-append, map_push, take_all, take_more, take-append-drop}
use Rattle.std.specs.List.{AllByRecursion}
use Rattle.asn_core.specs.declared.tag.Tag.{Tag}
use Rattle.asn_fault.specs.Failure.{Failure}
use Rattle.asn_model.specs.Components.{Component, component_names, reading_order}
use Rattle.asn_model.specs.DecodesTo.{DecodesTo}
use Rattle.asn_model.specs.FailsWith.{FailsWith}
use Rattle.asn_model.specs.Notation.{Notation}
use Rattle.asn_model.specs.Shape.{Shape, SeqKind, Fields, FieldAdditions, Plain, Presence}
use Rattle.asn_model.specs.Tree.{Slot, head_slot}
use Rattle.asn_model.specs.Value.{Value, is_plain}
use Rattle.asn_coding.specs.Answer.{AnswerBy, Refuses}
use Rattle.asn_coding.specs.FieldAnswer.{Ahead, TakesDefault, TakesField}
use Rattle.asn_names.specs.Rows.{NameRow, row_names}
use Rattle.asn_coding.specs.Opening.{PutsMembers}
use Rattle.asn_coding.specs.Passing.{ComponentFailsWith, RefusesFields, TakesFields, allows, default_slot, may_take}
use Rattle.asn_coding.specs.SetFields.{SetAnswer, TakesPlace, component_at, kept_slot, listed_components, places_read}
use Rattle.asn_coding.specs.Tables.{field_tag}
use Rattle.asn_coding.specs.declared.field.Field.{Field}
use Rattle.asn_coding.specs.Writing.{tail_names}
use Rattle.asn_coding.proofs.Grouping.{all_taken, second_refused}
use Rattle.asn_coding.proofs.Members.{members_read, members_refused}
use Rattle.asn_coding.proofs.TagOrder.{all-stand, parts-read}

abbrev Place : Type 0
Place = ℕ × Component

abbrev parts : List Place → List Component
parts ps = map (λ p. p.1) ps

abbrev names : List Place → List (List ℕ)
names ps = component_names (parts ps)

-- A default is left out, and another value stays.
default_same : (d : Plain) (v : Value) → default_slot d v ≡ kept_slot (Presence.default d) (Some v)
default_same d v = by (is_plain d v)
  where
    by : (b : Bool) → (if b then None else Some v) ≡ (if not b then Some v else None)
    by true = refl
    by false = refl

kept_same : (d : Plain) (v : Value) → is_plain d v ≡ false → Some v ≡ kept_slot (Presence.default d) (Some v)
kept_same d v plain = sym (ap (λ b. if not b then Some v else None) plain)

-- What is taken as a component is its slot.
one_taken : {n : Notation} (c : Component) (o : Option Value) {before after : Ahead} → TakesField n c.shape before after o → may_take c.presence o ≡ true → TakesFields n (c ∷ []) (kept_slot c.presence o ∷ []) before after
one_taken {n} c o {before} {after} t may = by c.presence refl o t may
  where
    left_out : (d : Plain) (v : Value) (b : Bool) → is_plain d v ≡ b → c.presence ≡ Presence.default d → TakesField n c.shape before after (Some v) → TakesFields n (c ∷ []) (kept_slot (Presence.default d) (Some v) ∷ []) before after
    left_out d v true plain is t =
        subst (λ (s : Option Value). TakesFields n (c ∷ []) (s ∷ []) before after) (default_same d v) (TakesFields.takes_default {d = d} {standing = v} {v = v} (TakesDefault.takes_own t) TakesFields.takes_none is plain)
    left_out d v false plain is t =
        subst (λ (s : Option Value). TakesFields n (c ∷ []) (s ∷ []) before after) (kept_same d v plain) (TakesFields.takes_next t TakesFields.takes_none (ap (λ p. allows p (Some v)) is ∙ ap not plain))

    by : (p : Presence) → c.presence ≡ p → (o : Option Value) → TakesField n c.shape before after o → may_take p o ≡ true → TakesFields n (c ∷ []) (kept_slot p o ∷ []) before after
    by Presence.required is (Some v) t may = TakesFields.takes_next t TakesFields.takes_none (ap (λ p. allows p (Some v)) is)
    by Presence.required is None t may = let e : false ≡ true = may in cc e
    by Presence.optional is (Some v) t may = TakesFields.takes_next t TakesFields.takes_none (ap (λ p. allows p (Some v)) is)
    by Presence.optional is None t may = TakesFields.takes_next t TakesFields.takes_none (ap (λ p. allows p None) is)
    by (Presence.default d) is (Some v) t may = left_out d v (is_plain d v) refl is t
    by (Presence.default d) is None t may = TakesFields.takes_next t TakesFields.takes_none (ap (λ p. allows p None) is)

-- Of the components at these places the first i are read.
pub record SetRead {S : Type 0} (n : Notation) (number : S → ℕ) (slot : S → Option Value) (ps : List Place) (opened : List Slot) (i : ℕ) (answers : List S) (now : List Slot) : Type 0 where
  pub taken : TakesFields n (parts (take i ps)) (map slot answers) (Ahead.ahead (names ps) opened) (Ahead.ahead (names (drop i ps)) now)
  pub numbers : map number answers ≡ map (λ p. p.0) (take i ps)

pub set_starts : {S : Type 0} {n : Notation} {number : S → ℕ} {slot : S → Option Value} {ps : List Place} {opened : List Slot} → SetRead n number slot ps opened 0 [] opened
set_starts = record { taken = TakesFields.takes_none; numbers = refl }

module _ {S : Type 0} {n : Notation} {number : S → ℕ} {slot : S → Option Value} {ps : List Place} {opened : List Slot} where
  pub set_steps : (i : ℕ) (p : Place) (answers : List S) (x : S) (now after : List Slot) → i < length ps → p ≡ get_or ps i p → SetRead n number slot ps opened i answers now → {k : ℕ} → k ≡ p.0 → TakesPlace number slot n k p.1 now x after
      → SetRead n number slot ps opened (i + 1) (answers ++ x ∷ []) after
  set_steps i p answers x now after h at r same t =
      let rest : drop i ps ≡ p ∷ drop (suc i) ps = drop-cons ps i p h ∙ ap (λ q. q ∷ drop (suc i) ps) (sym at) in
      let more : take (i + 1) ps ≡ take i ps ++ p ∷ [] = take_more ps i p h ∙ ap (λ q. take i ps ++ q ∷ []) (sym at) in
      let next : suc i ≡ i + 1 = omega arith in
      let start = Ahead.ahead (names ps) opened in
      let mid = Ahead.ahead (names (drop i ps)) now in
      let end = Ahead.ahead (names (drop (suc i) ps)) after in
      let step : TakesFields n (p.1 ∷ []) (slot x ∷ []) mid end
      = subst (λ (s : Option Value). TakesFields n (p.1 ∷ []) (s ∷ []) mid end) (sym t.is) (one_taken p.1 t.read (TakesField.takes_field t.taken (ap (λ l. tail_names (names l)) (sym rest))) t.allowed) in
      let all : TakesFields n (parts (take i ps) ++ p.1 ∷ []) (map slot answers ++ slot x ∷ []) start end = all_taken r.taken step in
      let taken : TakesFields n (parts (take (i + 1) ps)) (map slot answers ++ slot x ∷ []) start end
      = subst (λ cs. TakesFields n cs (map slot answers ++ slot x ∷ []) start end) (sym (ap parts more ∙ map-append (λ (q : Place). q.1) (take i ps) (p ∷ []))) all in
      record {
        taken = subst (λ k. TakesFields n (parts (take (i + 1) ps)) (map slot (answers ++ x ∷ [])) start (Ahead.ahead (names (drop k ps)) after)) next
            (subst (λ f. TakesFields n (parts (take (i + 1) ps)) f start end) (sym (map_push slot answers x)) taken);
        numbers = map_push number answers x ∙ (λ k. r.numbers k ++ (t.place ∙ same) k ∷ []) ∙ sym (ap (map (λ (q : Place). q.0)) more ∙ map-append (λ (q : Place). q.0) (take i ps) (p ∷ []));
      }

  pub set_stops : (i : ℕ) (p : Place) (answers : List S) (now : List Slot) {e : Failure} → i < length ps → p ≡ get_or ps i p → SetRead n number slot ps opened i answers now → Refuses n (ComponentFailsWith n p.1.presence p.1.standing p.1.shape p.1.name now) e
      → RefusesFields n (parts ps) (Ahead.ahead (names ps) opened) e
  set_stops i p answers now {e} h at r refused =
      let rest : drop i ps ≡ p ∷ drop (suc i) ps = drop-cons ps i p h ∙ ap (λ q. q ∷ drop (suc i) ps) (sym at) in
      let later : RefusesFields n (parts (drop i ps)) (Ahead.ahead (names (drop i ps)) now) e = subst (λ l. RefusesFields n (parts l) (Ahead.ahead (names l) now) e) (sym rest) (RefusesFields.refuses_field refused) in
      subst (λ cs. RefusesFields n cs (Ahead.ahead (names ps) opened) e) (sym (map-append (λ (q : Place). q.1) (take i ps) (drop i ps)) ∙ ap parts (take-append-drop i ps)) (second_refused r.taken later)

  pub set_ends : (i : ℕ) (answers : List S) (now : List Slot) → length ps ≤ i → SetRead n number slot ps opened i answers now → TakesFields n (parts ps) (map slot answers) (Ahead.ahead (names ps) opened) (Ahead.ahead (names (drop i ps)) now)
  set_ends i answers now h r = subst (λ l. TakesFields n (parts l) (map slot answers) (Ahead.ahead (names ps) opened) (Ahead.ahead (names (drop i ps)) now)) (take_all i ps h) r.taken

  pub all_numbers : (i : ℕ) (answers : List S) (now : List Slot) → length ps ≤ i → SetRead n number slot ps opened i answers now → map number answers ≡ map (λ p. p.0) ps
  all_numbers i answers now h r = r.numbers ∙ ap (map (λ (p : Place). p.0)) (take_all i ps h)

-- There is an element at each place.
element : {X : Type 0} (xs : List X) (i : ℕ) → i < length xs → (x : X) × (x ≡ get_or xs i x)
element [] i h = absurd (omega (arith, h))
element (x ∷ xs) zero h = (x, refl)
element (x ∷ xs) (suc i) h = element xs i (omega (arith, h))

same_at : {X Y Z : Type 0} (f : X → Z) (g : Y → Z) (xs : List X) (ys : List Y) (i : ℕ) (d : X) (y : Y) → map f xs ≡ map g ys → i < length xs → y ≡ get_or ys i y → f (get_or xs i d) ≡ g y
same_at f g [] ys i u y e h b = absurd (omega (arith, h))
same_at f g (x ∷ xs) [] i u v e h b = let d : f x ∷ map f xs ≡ [] = e in cc d
same_at f g (x ∷ xs) (y ∷ ys) zero u v e h b =
    let d : f x ∷ map f xs ≡ g y ∷ map g ys = e in
    let head : f x ≡ g y = cc d in
    head ∙ ap g (sym b)
same_at f g (x ∷ xs) (y ∷ ys) (suc i) u v e h b =
    let d : f x ∷ map f xs ≡ g y ∷ map g ys = e in
    let tail : map f xs ≡ map g ys = cc d in
    same_at f g xs ys i u v tail (omega (arith, h)) b

holds_at : {X : Type 0} (P : X → Type 0) (xs : List X) (i : ℕ) (x : X) → AllByRecursion P xs → i < length xs → x ≡ get_or xs i x → P x
holds_at P [] i x all h a = absurd (omega (arith, h))
holds_at P (y ∷ ys) zero x (p, all) h a = subst P (sym a) p
holds_at P (y ∷ ys) (suc i) x (p, all) h a = holds_at P ys i x all (omega (arith, h)) a

-- The place and the component of the field that is read next, whose tag is this one.
pub record NextPlace (fs : Fields) (added : FieldAdditions) (i index : ℕ) (tag : Tag) : Type 0 where
  pub place : Place
  pub below : i < length (places_read fs added)
  pub at : place ≡ get_or (places_read fs added) i place
  pub is : index ≡ place.0
  pub tagged : place.1.tag ≡ tag
  pub stands : component_at (listed_components fs added) index ≡ Some place.1

abbrev row_spot : Field → ℕ × Tag
row_spot f = (f.index, field_tag f)

abbrev place_spot : Place → ℕ × Tag
place_spot p = (p.0, p.1.tag)

as_long : (fs : Fields) (added : FieldAdditions) (fields : List Field) → map row_spot fields ≡ map place_spot (places_read fs added) → length fields ≡ length (places_read fs added)
as_long fs added fields same = sym (length-map fields row_spot) ∙ ap length same ∙ length-map (places_read fs added) place_spot

pub next_place : (fs : Fields) (added : FieldAdditions) (fields : List Field) (i : ℕ) (spot : ℕ × Tag) (d : Field) → map {B = ℕ × Tag} (λ (f : Field). (f.index, field_tag f)) fields ≡ map {B = ℕ × Tag} (λ p. (p.0, p.1.tag)) (places_read fs added) → i < length fields
    → spot ≡ ((get_or fields i d).index, field_tag (get_or fields i d)) → NextPlace fs added i spot.0 spot.1
next_place fs added fields i spot d same h at =
    let ps = places_read fs added in
    let long = as_long fs added fields same in
    let below : i < length ps = omega (arith, h, long) in
    let found = element ps i below in
    let both : spot ≡ place_spot found.0 = at ∙ same_at row_spot place_spot fields ps i d found.0 same h found.1 in
    let is : spot.0 ≡ found.0.0 = ap (λ (s : ℕ × Tag). s.0) both in
    record {
      place = found.0;
      below = below;
      at = found.1;
      is = is;
      tagged = sym (ap (λ (s : ℕ × Tag). s.1) both);
      stands = ap (component_at (listed_components fs added)) is ∙ holds_at (λ (p : Place). component_at (listed_components fs added) p.0 ≡ Some p.1) ps i found.0 (all-stand fs added) below found.1;
    }

-- There are no more places than fields.
pub as_many : (fs : Fields) (added : FieldAdditions) (fields : List Field) {i : ℕ} → map {B = ℕ × Tag} (λ (f : Field). (f.index, field_tag f)) fields ≡ map {B = ℕ × Tag} (λ p. (p.0, p.1.tag)) (places_read fs added) → length fields ≤ i → length (places_read fs added) ≤ i
as_many fs added fields same h = let long = as_long fs added fields same in omega (arith, h, long)

-- What is made of all answers is the value, or memory ran out.
pub set_answer : {A E S : Type 0} (failure : E → Failure) (slot : S → Option Value) (n : Notation) (kind : SeqKind) (fs : Fields) (added : FieldAdditions) (value : A → Value) (rows : List NameRow) (answers : List S) {others : List (List ℕ)} {before mid now : List Slot} (r : Result A E)
    → kind ≡ SeqKind.set → row_names rows ≡ component_names (reading_order SeqKind.set fs added) → PutsMembers n rows before mid
    → TakesFields n (parts (places_read fs added)) (map slot answers) (Ahead.ahead (names (places_read fs added)) mid) (Ahead.ahead others now) → SetAnswer failure n slot fs added value answers r → AnswerBy failure n (Shape.seq kind fs added) value before r now
set_answer failure slot n kind fs added value rows answers {others = others} {before = before} {mid = mid} {now = now} (Ok x) set spelled opened taken (ss, is, value_is) =
    let t = subst (λ cs. TakesFields n cs (map slot answers) (Ahead.ahead (names (places_read fs added)) mid) (Ahead.ahead others now)) (parts-read fs added) taken in
    let d = members_read SeqKind.set fs added rows ss spelled opened (subst (λ f. TakesFields n (reading_order SeqKind.set fs added) f (Ahead.ahead (names (places_read fs added)) mid) (Ahead.ahead others now)) (sym is) t) in
    (d.0, d.1, subst (λ k. DecodesTo n (Shape.seq k fs added) d.0 (value x)) (sym set) (subst (DecodesTo n (Shape.seq SeqKind.set fs added) d.0) (sym value_is) d.2))
set_answer failure slot n kind fs added value rows answers (Err e) set spelled opened taken memory = Refuses.no_memory memory

pub set_refused : {n : Notation} (kind : SeqKind) (fs : Fields) (added : FieldAdditions) (rows : List NameRow) {before mid : List Slot} {e : Failure} → kind ≡ SeqKind.set → row_names rows ≡ component_names (reading_order SeqKind.set fs added) → PutsMembers n rows before mid
    → RefusesFields n (parts (places_read fs added)) (Ahead.ahead (names (places_read fs added)) mid) e → Refuses n (FailsWith n (Shape.seq kind fs added) (head_slot before)) e
set_refused {n} kind fs added rows {before = before} {mid = mid} {e = e} set spelled opened refused =
    subst (λ k. Refuses n (FailsWith n (Shape.seq k fs added) (head_slot before)) e) (sym set)
    (members_refused SeqKind.set fs added rows spelled (ap component_names (parts-read fs added)) opened (subst (λ cs. RefusesFields n cs (Ahead.ahead (names (places_read fs added)) mid) e) (parts-read fs added) refused))
