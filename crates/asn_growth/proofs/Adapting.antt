-- What a value is as another version of its type has it.
use Rattle.std.proofs.Common.{◌≡◌, refl, ap, sym, ◌∙◌, ℕ, Bool, true, false, not, ◌&&◌, if◌then◌else◌, List, [], ◌∷◌, map}
use Rattle.std.specs.Cmp.{IsTotalOrder}
use Rattle.std.specs.FinMap.{IsAntisymmetric}
use Rattle.std.specs.Cmp.Lexicographic.{slice_cmp}
use Rattle.std.specs.Ordering.{is_gt, match_ordering, nat_cmp, on}
use Rattle.std.specs.Prelude.{codes}
use Rattle.std.specs.Str.{bytes_eq}
use Rattle.std.specs.declared.cmp.Ordering.{Ordering}
use Rattle.std.specs.declared.cmp.Ordering.TheVariants.{Less, Equal, Greater}
use Rattle.asn_core.specs.declared.tag.Tag.{Tag}
use Rattle.asn_model.specs.Readable.{are_key_and_value, has_no_additions, is_entry, is_readable, is_required, is_sequence, is_utf8_string}
use Rattle.asn_model.specs.Shape.{Alphabet, Shape, Fields, FieldAdditions, Plain, Presence, all_fields, join_fields, unfold_loop}
use Rattle.asn_model.specs.Sorting.{insert_in_order, sort}
use Rattle.asn_model.specs.Value.{Value, Values, Slots, bag_of, elements, is_kept, is_plain, key_of, ordered_by, put_entries, put_entry, table_of, value_cmp, values, with_field}
use Rattle.asn_model.proofs.Bags.{elements-values}
use Rattle.asn_model.proofs.Readables.{and-left, and-right}
use Rattle.asn_model.proofs.Sorting.{insert-insert, sort-map}
use Rattle.asn_model.proofs.ValueOrder.{value_cmp_total, value_cmp-IsAntisymmetric}
use Rattle.asn_growth.specs.Adapted.{adapted, adapted_in, adapted_each, adapted_slots, without_loops}
use Rattle.asn_growth.specs.Grows.{has_parts}
use Rattle.asn_growth.proofs.Unfolding.{has_none, opened-head}

-- A value without parts stays.
pub adapted-same : (s : Shape) (v : Value) → has_parts s ≡ false → adapted s v ≡ v
adapted-same (Shape.seq kind fs added) v e = has_none e
adapted-same (Shape.list_of s) v e = has_none e
adapted-same (Shape.set_of s) v e = has_none e
adapted-same (Shape.table s) v e = has_none e
adapted-same (Shape.choice alts added) v e = has_none e
adapted-same (Shape.loop s) v e = has_none e
adapted-same s v e = refl

-- By a loop that can be read a value is what it is by the loop opened.
pub adapted-loop : (b : Shape) (v : Value) → is_readable (Shape.loop b) ≡ true → adapted (Shape.loop b) v ≡ adapted (unfold_loop b) v
adapted-loop b v e = ap (λ s. adapted_in s v) (opened-head b e)

no_members : (d : Plain) (ms ks : Slots) → is_plain d (Value.members ms) ≡ is_plain d (Value.members ks)
no_members (Plain.boolean true) ms ks = refl
no_members (Plain.boolean false) ms ks = refl
no_members d ms ks = refl

no_list : (d : Plain) (vs ws : Values) → is_plain d (Value.list vs) ≡ is_plain d (Value.list ws)
no_list (Plain.boolean true) vs ws = refl
no_list (Plain.boolean false) vs ws = refl
no_list d vs ws = refl

no_bag : (d : Plain) (vs ws : Values) → is_plain d (Value.bag vs) ≡ is_plain d (Value.bag ws)
no_bag (Plain.boolean true) vs ws = refl
no_bag (Plain.boolean false) vs ws = refl
no_bag d vs ws = refl

no_choice : (d : Plain) (i : List ℕ) (v w : Value) → is_plain d (Value.choice i v) ≡ is_plain d (Value.choice i w)
no_choice (Plain.boolean true) i v w = refl
no_choice (Plain.boolean false) i v w = refl
no_choice d i v w = refl

-- What a DEFAULT names has no parts.
plain-adapted : (d : Plain) (s : Shape) (v : Value) → is_plain d (adapted_in s v) ≡ is_plain d v
plain-adapted d (Shape.seq kind fs added) (Value.members ms) = no_members d _ _
plain-adapted d (Shape.list_of s) (Value.list vs) = no_list d _ _
plain-adapted d (Shape.set_of s) (Value.bag vs) = no_bag d _ _
plain-adapted d (Shape.table s) (Value.list vs) = no_list d _ _
plain-adapted d (Shape.choice alts added) (Value.choice i v) = no_choice d i _ _
plain-adapted d s v = refl

pub kept-adapted : (p : Presence) (s : Shape) (v : Value) → is_kept p (adapted s v) ≡ is_kept p v
kept-adapted (Presence.default d) s v = ap not (plain-adapted d (without_loops s) v)
kept-adapted Presence.required s v = refl
kept-adapted Presence.optional s v = refl

-- A field's value is adapted where it stands.
pub field-adapted : (n : List ℕ) (t : Tag) (p : Presence) (s : Shape) (fs : Fields) (v : Value) (vs : Slots) → adapted_slots (Fields.field n t p s fs) (with_field p n v vs) ≡ with_field p n (adapted s v) (adapted_slots fs vs)
field-adapted n t p s fs v vs = by (is_kept p v) ∙ ap (λ b. if b then Slots.present n (adapted s v) (adapted_slots fs vs) else Slots.absent n (adapted_slots fs vs)) (sym (kept-adapted p s v))
  where
    by : (b : Bool) → adapted_slots (Fields.field n t p s fs) (if b then Slots.present n v vs else Slots.absent n vs) ≡ (if b then Slots.present n (adapted s v) (adapted_slots fs vs) else Slots.absent n (adapted_slots fs vs))
    by true = refl
    by false = refl

pub no-slots : (vs : Slots) → adapted_slots Fields.no_fields vs ≡ Slots.no_slots
no-slots Slots.no_slots = refl
no-slots (Slots.absent m vs) = refl
no-slots (Slots.present m v vs) = refl

pub elements-adapted : (s : Shape) (vs : Values) → elements (adapted_each s vs) ≡ map (adapted s) (elements vs)
elements-adapted s Values.no_values = refl
elements-adapted s (Values.value v vs) = ap (λ l. adapted s v ∷ l) (elements-adapted s vs)

values-adapted : (s : Shape) (xs : List Value) → values (λ v. v) (map (adapted s) xs) ≡ adapted_each s (values (λ v. v) xs)
values-adapted s [] = refl
values-adapted s (x ∷ xs) = ap (Values.value (adapted s x)) (values-adapted s xs)

-- Elements may be put in order before they are adapted.
pub adapted-ordered : (s : Shape) (cmp : Value → Value → Ordering) (vs : Values) → ordered_by cmp (adapted_each s vs) ≡ adapted_each s (ordered_by (on (adapted s) cmp) vs)
adapted-ordered s cmp vs =
    ap (λ l. values (λ v. v) (sort cmp l)) (elements-adapted s vs)
    ∙ ap (values (λ v. v)) (sort-map cmp (adapted s) (elements vs))
    ∙ values-adapted s (sort (on (adapted s) cmp) (elements vs))

-- What is sorted after a change is so whatever the order was before.
module _ {X : Type 0} (cmp : X → X → Ordering) (o : IsTotalOrder cmp) (same : IsAntisymmetric cmp) (f : X → X) (other : X → X → Ordering) where
  image-insert : (x : X) (ys : List X) → sort cmp (map f (insert_in_order other x ys)) ≡ insert_in_order cmp (f x) (sort cmp (map f ys))
  image-insert x [] = refl
  image-insert x (y ∷ ys) = by (image-insert x ys) (is_gt (other x y))
    where
      by : sort cmp (map f (insert_in_order other x ys)) ≡ insert_in_order cmp (f x) (sort cmp (map f ys)) → (b : Bool) → sort cmp (map f (if b then y ∷ insert_in_order other x ys else x ∷ y ∷ ys)) ≡ insert_in_order cmp (f x) (insert_in_order cmp (f y) (sort cmp (map f ys)))
      by rest true = ap (insert_in_order cmp (f y)) rest ∙ insert-insert cmp o same (f y) (f x) (sort cmp (map f ys))
      by rest false = refl

  sort-image : (xs : List X) → sort cmp (map f (sort other xs)) ≡ sort cmp (map f xs)
  sort-image [] = refl
  sort-image (x ∷ xs) = image-insert x (sort other xs) ∙ ap (insert_in_order cmp (f x)) (sort-image xs)

-- Elements are adapted to the same set whatever order they are in.
pub bag-adapted : (s : Shape) (other : Value → Value → Ordering) (vs : Values) → bag_of (adapted_each s (ordered_by other vs)) ≡ bag_of (adapted_each s vs)
bag-adapted s other vs =
    ap (λ l. Value.bag (values (λ v. v) (sort value_cmp l))) (elements-adapted s (ordered_by other vs))
    ∙ ap (λ l. Value.bag (values (λ v. v) (sort value_cmp (map (adapted s) l)))) (elements-values (sort other (elements vs)))
    ∙ ap (λ l. Value.bag (values (λ v. v) l)) (sort-image value_cmp value_cmp_total value_cmp-IsAntisymmetric (adapted s) other (elements vs))
    ∙ ap (λ l. Value.bag (values (λ v. v) (sort value_cmp l))) (sym (elements-adapted s vs))

-- So a set is adapted element by element.
pub set-adapted : (s : Shape) (vs : Values) → adapted (Shape.set_of s) (bag_of vs) ≡ bag_of (adapted_each s vs)
set-adapted s vs = bag-adapted s value_cmp vs

-- The key of an entry is adapted to itself.
same-key : (n : List ℕ) (x : Value) (ms ks : Slots) → key_of (Value.members (Slots.present n x ms)) ≡ key_of (Value.members (Slots.present n x ks))
same-key n (Value.text key) ms ks = refl
same-key n x ms ks = refl

key-slots : (n key : List ℕ) (t u : Tag) (p q : Presence) (k v : Shape) (x : Value) (ms : Slots) → is_utf8_string k ≡ true → key_of (Value.members (adapted_slots (Fields.field n t p k (Fields.field key u q v Fields.no_fields)) (Slots.present n x ms))) ≡ key_of (Value.members (Slots.present n x ms))
key-slots n key t u p q (Shape.text Alphabet.utf8) v x ms e = same-key n x _ _
key-slots n key t u p q k v x ms e = has_none (sym e)

key-members : (fs : Fields) (ms : Slots) → are_key_and_value fs ≡ true → key_of (Value.members (adapted_slots fs ms)) ≡ key_of (Value.members ms)
key-members (Fields.field n t p k (Fields.field m u q v Fields.no_fields)) Slots.no_slots e = refl
key-members (Fields.field n t p k (Fields.field m u q v Fields.no_fields)) (Slots.absent l ms) e = refl
key-members (Fields.field n t p k (Fields.field m u q v Fields.no_fields)) (Slots.present l x ms) e =
    key-slots l m t u p q k v x ms (and-left (is_utf8_string k) (bytes_eq m (codes "value") && is_required q) (and-right (bytes_eq n (codes "key") && is_required p) (is_utf8_string k && (bytes_eq m (codes "value") && is_required q)) e))
key-members fs ms e = has_none (sym e)

no-additions : (fs : Fields) (added : FieldAdditions) → has_no_additions added ≡ true → are_key_and_value fs ≡ true → are_key_and_value (all_fields fs added) ≡ true
no-additions fs FieldAdditions.closed_fields e k = k
no-additions fs (FieldAdditions.extended_fields Fields.no_fields) e k = by fs k
  where
    by : (gs : Fields) → are_key_and_value gs ≡ true → are_key_and_value (join_fields gs Fields.no_fields) ≡ true
    by (Fields.field n t p s (Fields.field m u q v Fields.no_fields)) h = h
    by gs h = has_none (sym h)
no-additions fs (FieldAdditions.extended_fields (Fields.field n t p s more)) e k = has_none (sym e)

pub key-adapted : (s : Shape) (v : Value) → is_entry s ≡ true → key_of (adapted s v) ≡ key_of v
key-adapted (Shape.seq kind fs added) (Value.members ms) e =
    let parts = and-right (is_sequence kind) (are_key_and_value fs && has_no_additions added) e in
    key-members (all_fields fs added) ms (no-additions fs added (and-right (are_key_and_value fs) (has_no_additions added) parts) (and-left (are_key_and_value fs) (has_no_additions added) parts))
key-adapted (Shape.seq kind fs added) v e = refl
key-adapted s v e = has_none (sym e)

-- Entries are put at their keys before or after they are adapted.
put-adapted : (s : Shape) (e : Value) (fs : Values) → is_entry s ≡ true → put_entry (adapted s e) (adapted_each s fs) ≡ adapted_each s (put_entry e fs)
put-adapted s e Values.no_values h = refl
put-adapted s e (Values.value f fs) h = rw (key-adapted s e h, key-adapted s f h) (by (put-adapted s e fs h) (slice_cmp nat_cmp (key_of e) (key_of f)))
  where
    by : put_entry (adapted s e) (adapted_each s fs) ≡ adapted_each s (put_entry e fs) → (o : Ordering) → match_ordering o (Values.value (adapted s e) (Values.value (adapted s f) (adapted_each s fs))) (Values.value (adapted s e) (adapted_each s fs)) (Values.value (adapted s f) (put_entry (adapted s e) (adapted_each s fs)))
        ≡ adapted_each s (match_ordering o (Values.value e (Values.value f fs)) (Values.value e fs) (Values.value f (put_entry e fs)))
    by rest Less = refl
    by rest Equal = refl
    by rest Greater = ap (Values.value (adapted s f)) rest

entries-adapted : (s : Shape) (found es : Values) → is_entry s ≡ true → put_entries (adapted_each s found) (adapted_each s es) ≡ adapted_each s (put_entries found es)
entries-adapted s found Values.no_values h = refl
entries-adapted s found (Values.value e es) h = ap (λ l. put_entries l (adapted_each s es)) (put-adapted s e found h) ∙ entries-adapted s (put_entry e found) es h

-- A table is adapted entry by entry.
pub table-adapted : (s : Shape) (es : Values) → is_entry s ≡ true → adapted_each s (table_of es) ≡ table_of (adapted_each s es)
table-adapted s es h = sym (entries-adapted s Values.no_values es h)
