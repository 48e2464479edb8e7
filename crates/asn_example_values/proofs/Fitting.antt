-- Every example is a value of its shape.
use Rattle.std.proofs.Common.{◌≡◌, refl, ap, sym, subst, ◌∙◌, ℕ, zero, suc, ◌+◌, ◌-◌, ℤ, pos, negsuc, ◌+ℤ◌, List, [], ◌∷◌, ◌++◌, length, Bool, true, false, if◌then◌else◌, Option, Some, None}
use Rattle.std.specs.Prelude.{option_map}
use Rattle.std.specs.List.{slice_get}
use Rattle.std.specs.Fmt.{digits}
use Rattle.std.specs.Str.{bytes_eq, chars, is_utf8}
use Rattle.std.proofs.lemmas.Slice.Eq.{bytes_eq-Decides}
use Rattle.asn_example_values.specs.Examples.{added_alternatives_example, added_item, added_members_example, alternatives_example, elements_example, example, item_at, joined, kept, leaf_example, member_example, members_example, nearest, number_example, or_else, place_of, with_member}
use Rattle.asn_dynamic_values.specs.DynView.{members_named}
use Rattle.asn_model.specs.Range.{is_between}
use Rattle.asn_model.specs.Shape.{Shape, SeqKind, Fields, FieldAdditions, Alternatives, AlternativeAdditions, Alphabet, Plain, Presence, all_alternatives, all_fields, all_items, fill, fill_added_alternatives, fill_added_fields, fill_alternatives, fill_fields, is_item, join_alternatives, join_fields}
use Rattle.asn_model.specs.Value.{Fits, FitsAlternative, FitsEach, FitsFields, Slots, Value, is_kept, is_leaf_of, is_same_size, keys_rise, may_lack, sort_values, values}
use Rattle.asn_core.specs.declared.tag.Tag.{Tag}
use Rattle.asn_model.specs.CharacterStrings.{is_string_of}
use Rattle.asn_model.proofs.Nesting.{same_some}
use Rattle.std.proofs.lemmas.Bool.{eq-eqb}
use Rattle.std.proofs.lemmas.List.{append-nil}

-- There is nothing, and there is something.
none : {A P : Type 0} {a : A} → ◌≡◌ {A = Option A} None (Some a) → P
none e = cc e

-- The shape in which what the loops around it mean stands in the places of their names, one after another.
abbrev fills : Shape → List (ℕ × Shape) → Shape
fills s [] = s
fills s (p ∷ ss) = fills (fill s p.0 p.1) ss

abbrev fills_fields : Fields → List (ℕ × Shape) → Fields
fills_fields fs [] = fs
fills_fields fs (p ∷ ss) = fills_fields (fill_fields fs p.0 p.1) ss

abbrev fills_added_fields : FieldAdditions → List (ℕ × Shape) → FieldAdditions
fills_added_fields added [] = added
fills_added_fields added (p ∷ ss) = fills_added_fields (fill_added_fields added p.0 p.1) ss

abbrev fills_alternatives : Alternatives → List (ℕ × Shape) → Alternatives
fills_alternatives alts [] = alts
fills_alternatives alts (p ∷ ss) = fills_alternatives (fill_alternatives alts p.0 p.1) ss

abbrev fills_added_alternatives : AlternativeAdditions → List (ℕ × Shape) → AlternativeAdditions
fills_added_alternatives added [] = added
fills_added_alternatives added (p ∷ ss) = fills_added_alternatives (fill_added_alternatives added p.0 p.1) ss

-- The same within one more loop.
abbrev within : List (ℕ × Shape) → List (ℕ × Shape)
within [] = []
within (p ∷ ss) = (suc p.0, p.1) ∷ within ss

fills-append : (s : Shape) (ss ts : List (ℕ × Shape)) → fills s (ss ++ ts) ≡ fills (fills s ss) ts
fills-append s [] ts = refl
fills-append s (p ∷ ss) ts = fills-append (fill s p.0 p.1) ss ts

-- It is the same where there are no names.
fills-same : (s : Shape) (ss : List (ℕ × Shape)) → ((k : ℕ) (r : Shape) → fill s k r ≡ s) → fills s ss ≡ s
fills-same s [] h = refl
fills-same s (p ∷ ss) h = ap (λ t. fills t ss) (h p.0 p.1) ∙ fills-same s ss h

-- Each part is filled.
fills-seq : (kind : SeqKind) (fs : Fields) (added : FieldAdditions) (ss : List (ℕ × Shape)) → fills (Shape.seq kind fs added) ss ≡ Shape.seq kind (fills_fields fs ss) (fills_added_fields added ss)
fills-seq kind fs added [] = refl
fills-seq kind fs added (p ∷ ss) = fills-seq kind (fill_fields fs p.0 p.1) (fill_added_fields added p.0 p.1) ss

fills-list_of : (s : Shape) (ss : List (ℕ × Shape)) → fills (Shape.list_of s) ss ≡ Shape.list_of (fills s ss)
fills-list_of s [] = refl
fills-list_of s (p ∷ ss) = fills-list_of (fill s p.0 p.1) ss

fills-set_of : (s : Shape) (ss : List (ℕ × Shape)) → fills (Shape.set_of s) ss ≡ Shape.set_of (fills s ss)
fills-set_of s [] = refl
fills-set_of s (p ∷ ss) = fills-set_of (fill s p.0 p.1) ss

fills-table : (s : Shape) (ss : List (ℕ × Shape)) → fills (Shape.table s) ss ≡ Shape.table (fills s ss)
fills-table s [] = refl
fills-table s (p ∷ ss) = fills-table (fill s p.0 p.1) ss

fills-choice : (alts : Alternatives) (added : AlternativeAdditions) (ss : List (ℕ × Shape)) → fills (Shape.choice alts added) ss ≡ Shape.choice (fills_alternatives alts ss) (fills_added_alternatives added ss)
fills-choice alts added [] = refl
fills-choice alts added (p ∷ ss) = fills-choice (fill_alternatives alts p.0 p.1) (fill_added_alternatives added p.0 p.1) ss

fills-loop : (s : Shape) (ss : List (ℕ × Shape)) → fills (Shape.loop s) ss ≡ Shape.loop (fills s (within ss))
fills-loop s [] = refl
fills-loop s (p ∷ ss) = fills-loop (fill s (suc p.0) p.1) ss

fills-no_fields : (ss : List (ℕ × Shape)) → fills_fields Fields.no_fields ss ≡ Fields.no_fields
fills-no_fields [] = refl
fills-no_fields (p ∷ ss) = fills-no_fields ss

fills-field : (n : List ℕ) (t : Tag) (p : Presence) (s : Shape) (fs : Fields) (ss : List (ℕ × Shape)) → fills_fields (Fields.field n t p s fs) ss ≡ Fields.field n t p (fills s ss) (fills_fields fs ss)
fills-field n t p s fs [] = refl
fills-field n t p s fs (q ∷ ss) = fills-field n t p (fill s q.0 q.1) (fill_fields fs q.0 q.1) ss

fills-closed_fields : (ss : List (ℕ × Shape)) → fills_added_fields FieldAdditions.closed_fields ss ≡ FieldAdditions.closed_fields
fills-closed_fields [] = refl
fills-closed_fields (p ∷ ss) = fills-closed_fields ss

fills-extended_fields : (fs : Fields) (ss : List (ℕ × Shape)) → fills_added_fields (FieldAdditions.extended_fields fs) ss ≡ FieldAdditions.extended_fields (fills_fields fs ss)
fills-extended_fields fs [] = refl
fills-extended_fields fs (p ∷ ss) = fills-extended_fields (fill_fields fs p.0 p.1) ss

fills-alternative : (i : List ℕ) (t : Tag) (s : Shape) (alts : Alternatives) (ss : List (ℕ × Shape)) → fills_alternatives (Alternatives.alternative i t s alts) ss ≡ Alternatives.alternative i t (fills s ss) (fills_alternatives alts ss)
fills-alternative i t s alts [] = refl
fills-alternative i t s alts (p ∷ ss) = fills-alternative i t (fill s p.0 p.1) (fill_alternatives alts p.0 p.1) ss

fills-extended_alternatives : (alts : Alternatives) (ss : List (ℕ × Shape)) → fills_added_alternatives (AlternativeAdditions.extended_alternatives alts) ss ≡ AlternativeAdditions.extended_alternatives (fills_alternatives alts ss)
fills-extended_alternatives alts [] = refl
fills-extended_alternatives alts (p ∷ ss) = fills-extended_alternatives (fill_alternatives alts p.0 p.1) ss

within-fits : (least greatest n : ℤ) (width : ℕ) (b : Bool) (v : Value) → is_between least greatest n ≡ b → ◌≡◌ {A = Option Value} (if b then Some (Value.int n) else None) (Some v) → is_leaf_of (Shape.int least greatest width) v ≡ true
within-fits least greatest n width true v h e = subst (λ w. is_leaf_of (Shape.int least greatest width) w ≡ true) (same_some e) h
within-fits least greatest n width false v h e = none e

number-fits : (other : Bool) (least greatest : ℤ) (width : ℕ) (v : Value) → number_example other least greatest ≡ Some v → is_leaf_of (Shape.int least greatest width) v ≡ true
number-fits other least (pos g) width v e = let n = pos (nearest least + place_of other) in within-fits least (pos g) n width (is_between least (pos g) n) v refl e
number-fits other least (negsuc g) width v e = let n = negsuc g +ℤ pos (place_of other) in within-fits least (negsuc g) n width (is_between least (negsuc g) n) v refl e

same_size : (m : Option ℕ) → is_same_size m m ≡ true
same_size None = refl
same_size (Some n) = eq-eqb n n refl

is-either : (a b : Bool) → b ≡ true → (if a then true else b) ≡ true
is-either true b e = refl
is-either false b e = e

-- An item that stands at a place is one of the items.
item-there : (items : List (List ℕ)) (k : ℕ) (i : List ℕ) → slice_get items k ≡ Some i → is_item items i ≡ true
item-there [] k i e = none e
item-there (n ∷ items) zero i e = ap (λ b. if b then true else is_item items i) ((bytes_eq-Decides i n).1 (sym (same_some e)))
item-there (n ∷ items) (suc k) i e = is-either (bytes_eq i n) (is_item items i) (item-there items k i e)

-- It is one of more.
among-if : (b : Bool) (items more : List (List ℕ)) (i : List ℕ) → (if b then true else is_item items i) ≡ true → (is_item items i ≡ true → is_item (items ++ more) i ≡ true) → (if b then true else is_item (items ++ more) i) ≡ true
among-if true items more i e h = refl
among-if false items more i e h = h e

item-among : (items more : List (List ℕ)) (i : List ℕ) → is_item items i ≡ true → is_item (items ++ more) i ≡ true
item-among [] more i e = let d : false ≡ true = e in cc d
item-among (n ∷ items) more i e = among-if (bytes_eq i n) items more i e (item-among items more i)

item-behind : (items more : List (List ℕ)) (i : List ℕ) → is_item more i ≡ true → is_item (items ++ more) i ≡ true
item-behind [] more i e = e
item-behind (n ∷ items) more i e = is-either (bytes_eq i n) (is_item (items ++ more) i) (item-behind items more i e)

item-fits : (items : List (List ℕ)) (added : Option (List (List ℕ))) (k : ℕ) (i : List ℕ) (first : Option (List ℕ)) → slice_get items k ≡ first → or_else first (added_item added (k - length items)) ≡ Some i → is_item (all_items items added) i ≡ true
item-fits items None k i (Some j) at e = item-there items k i (at ∙ e)
item-fits items None k i None at e = none e
item-fits items (Some more) k i (Some j) at e = item-among items more i (item-there items k i (at ∙ e))
item-fits items (Some more) k i None at e = item-behind items more i (item-there more (k - length items) i e)

enum-fits : (items : List (List ℕ)) (added : Option (List (List ℕ))) (found : Option (List ℕ)) (v : Value) → ((i : List ℕ) → found ≡ Some i → is_item (all_items items added) i ≡ true) → option_map Value.item found ≡ Some v → is_leaf_of (Shape.enum items added) v ≡ true
enum-fits items added None v h e = none e
enum-fits items added (Some i) v h e = subst (λ w. is_leaf_of (Shape.enum items added) w ≡ true) (same_some e) (h i refl)

empty-string : (a : Alphabet) → is_string_of a [] ≡ true
unfolding is_utf8 chars
empty-string Alphabet.numeric = refl
empty-string Alphabet.printable = refl
empty-string Alphabet.visible = refl
empty-string Alphabet.ia5 = refl
empty-string Alphabet.utf8 = refl
empty-string Alphabet.universal = refl
empty-string Alphabet.general = refl
empty-string Alphabet.graphic = refl

digit-string : (a : Alphabet) → is_string_of a (48 ∷ []) ≡ true
unfolding is_utf8 chars lib.Utf8.encode
digit-string Alphabet.numeric = refl
digit-string Alphabet.printable = refl
digit-string Alphabet.visible = refl
digit-string Alphabet.ia5 = refl
digit-string Alphabet.utf8 = refl
digit-string Alphabet.universal = refl
digit-string Alphabet.general = refl
digit-string Alphabet.graphic = refl

string-fits : (a : Alphabet) (other : Bool) → is_string_of a (if other then 48 ∷ [] else []) ≡ true
string-fits a true = digit-string a
string-fits a false = empty-string a

-- An example of a shape whose values have no parts is one of its values.
leaf-fits : (s : Shape) (other : Bool) (v : Value) → leaf_example other s ≡ Some v → is_leaf_of s v ≡ true
unfolding digits
leaf-fits Shape.null other v e = subst (λ w. is_leaf_of Shape.null w ≡ true) (same_some e) refl
leaf-fits Shape.boolean other v e = subst (λ w. is_leaf_of Shape.boolean w ≡ true) (same_some e) refl
leaf-fits (Shape.int least greatest width) other v e = number-fits other least greatest width v e
leaf-fits (Shape.bits size) other v e = subst (λ w. is_leaf_of (Shape.bits size) w ≡ true) (same_some e) (same_size size)
leaf-fits Shape.octets other v e = subst (λ w. is_leaf_of Shape.octets w ≡ true) (same_some e) refl
leaf-fits Shape.any other v e = subst (λ w. is_leaf_of Shape.any w ≡ true) (same_some e) refl
leaf-fits Shape.oid other v e = subst (λ w. is_leaf_of Shape.oid w ≡ true) (same_some e) refl
leaf-fits (Shape.text a) other v e = subst (λ w. is_leaf_of (Shape.text a) w ≡ true) (same_some e) (string-fits a other)
leaf-fits Shape.bmp other v e = subst (λ w. is_leaf_of Shape.bmp w ≡ true) (same_some e) refl
leaf-fits Shape.utc other v e = subst (λ w. is_leaf_of Shape.utc w ≡ true) (same_some e) refl
leaf-fits Shape.gen other v e = subst (λ w. is_leaf_of Shape.gen w ≡ true) (same_some e) refl
leaf-fits Shape.day other v e = subst (λ w. is_leaf_of Shape.day w ≡ true) (same_some e) refl
leaf-fits Shape.decimal other v e = subst (λ w. is_leaf_of Shape.decimal w ≡ true) (same_some e) refl
leaf-fits (Shape.enum items added) other v e =
    enum-fits items added (item_at items added (place_of other)) v (λ i h. item-fits items added (place_of other) i (slice_get items (place_of other)) refl h) e
leaf-fits (Shape.seq kind fs added) other v e = none e
leaf-fits (Shape.list_of s) other v e = none e
leaf-fits (Shape.set_of s) other v e = none e
leaf-fits (Shape.table s) other v e = none e
leaf-fits (Shape.choice alts added) other v e = none e
leaf-fits (Shape.loop s) other v e = none e
leaf-fits (Shape.back k) other v e = none e

-- So it is where the shape is filled, in which nothing is to be filled.
filled-leaf : (s : Shape) (ss : List (ℕ × Shape)) (v : Value) → ((k : ℕ) (r : Shape) → fill s k r ≡ s) → is_leaf_of s v ≡ true → Fits (fills s ss) v
filled-leaf s ss v h e = subst (λ t. Fits t v) (sym (fills-same s ss h)) (Fits.fits_leaf e)

-- Members of both, in order.
join-fits : (fs gs : Fields) (ms ls : List (List ℕ × Option Value)) → FitsFields fs (members_named ms) → FitsFields gs (members_named ls) → FitsFields (join_fields fs gs) (members_named (ms ++ ls))
join-fits fs gs [] ls FitsFields.fits_end k = k
join-fits fs gs ((n, None) ∷ ms) ls (FitsFields.fits_absent {fs = rest} e h) k = FitsFields.fits_absent e (join-fits rest gs ms ls h k)
join-fits fs gs ((n, Some w) ∷ ms) ls (FitsFields.fits_present {fs = rest} w' e h) k = FitsFields.fits_present w' e (join-fits rest gs ms ls h k)

-- The members of extension additions.
abbrev FitsAdded : FieldAdditions → List (List ℕ × Option Value) → Type 0
FitsAdded FieldAdditions.closed_fields ls = ls ≡ []
FitsAdded (FieldAdditions.extended_fields gs) ls = FitsFields gs (members_named ls)

all-fit : (fs : Fields) (added : FieldAdditions) (ms ls : List (List ℕ × Option Value)) → FitsFields fs (members_named ms) → FitsAdded added ls → FitsFields (all_fields fs added) (members_named (ms ++ ls))
all-fit fs FieldAdditions.closed_fields ms ls h k = subst (λ l. FitsFields fs (members_named (ms ++ l))) (sym k) (subst (λ l. FitsFields fs (members_named l)) (sym (append-nil ms)) h)
all-fit fs (FieldAdditions.extended_fields gs) ms ls h k = join-fits fs gs ms ls h k

-- A component's name and its value before others.
absent-fits : (n : List ℕ) (t : Tag) (p : Presence) (s : Shape) (fs : Fields) (b : Bool) (more : Option (List (List ℕ × Option Value))) (ms : List (List ℕ × Option Value)) → may_lack p ≡ b → ((l : List (List ℕ × Option Value)) → more ≡ Some l → FitsFields fs (members_named l))
    → (if b then option_map (λ l. (n, None) ∷ l) more else None) ≡ Some ms → FitsFields (Fields.field n t p s fs) (members_named ms)
absent-fits n t p s fs true (Some l) ms lack h e = subst (λ m. FitsFields (Fields.field n t p s fs) (members_named m)) (same_some e) (FitsFields.fits_absent lack (h l refl))
absent-fits n t p s fs true None ms lack h e = none e
absent-fits n t p s fs false more ms lack h e = none e

with-fits : (n : List ℕ) (t : Tag) (p : Presence) (s : Shape) (fs : Fields) (o : Option Value) (more : Option (List (List ℕ × Option Value))) (ms : List (List ℕ × Option Value)) → ((v : Value) → o ≡ Some v → Fits s v × is_kept p v ≡ true)
    → ((l : List (List ℕ × Option Value)) → more ≡ Some l → FitsFields fs (members_named l)) → with_member n p o more ≡ Some ms → FitsFields (Fields.field n t p s fs) (members_named ms)
with-fits n t p s fs (Some v) (Some l) ms one h e = subst (λ m. FitsFields (Fields.field n t p s fs) (members_named m)) (same_some e) (FitsFields.fits_present (one v refl).0 (one v refl).1 (h l refl))
with-fits n t p s fs (Some v) None ms one h e = none e
with-fits n t p s fs None more ms one h e = absent-fits n t p s fs (may_lack p) more ms refl h e

-- The value that is kept is the one, and isn't the default.
kept-if : (b : Bool) (v w : Value) → (if b then Some v else None) ≡ Some w → (v ≡ w) × b ≡ true
kept-if true v w e = (same_some e, refl)
kept-if false v w e = none e

kept-fits : (d : Plain) (s : Shape) (o : Option Value) (w : Value) → ((v : Value) → o ≡ Some v → Fits s v) → kept (Presence.default d) o ≡ Some w → Fits s w × is_kept (Presence.default d) w ≡ true
kept-fits d s None w h e = none e
kept-fits d s (Some v) w h e =
    let k = kept-if (is_kept (Presence.default d) v) v w e in
    (subst (Fits s) k.0 (h v refl), ap (is_kept (Presence.default d)) (sym k.0) ∙ k.1)

either-fits : {P : Value → Type 0} (a b : Option Value) (w : Value) → ((v : Value) → a ≡ Some v → P v) → ((v : Value) → b ≡ Some v → P v) → or_else a b ≡ Some w → P w
either-fits {P} (Some v) b w h k e = h w e
either-fits {P} None b w h k e = k w e

member-fits : (full : Bool) (p : Presence) (s : Shape) (a b : Option Value) (w : Value) → ((v : Value) → a ≡ Some v → Fits s v) → ((v : Value) → b ≡ Some v → Fits s v) → member_example full p a b ≡ Some w → Fits s w × is_kept p w ≡ true
member-fits full Presence.required s a b w h k e = (h w e, refl)
member-fits true Presence.optional s a b w h k e = (h w e, refl)
member-fits false Presence.optional s a b w h k e = none e
member-fits true (Presence.default d) s a b w h k e =
    either-fits {P = λ v. Fits s v × is_kept (Presence.default d) v ≡ true} (kept (Presence.default d) a) (kept (Presence.default d) b) w (λ v. kept-fits d s a v h) (λ v. kept-fits d s b v k) e
member-fits false (Presence.default d) s a b w h k e = none e

-- Elements of a list are at most one.
elements-fit : (full : Bool) (s : Shape) (o : Option Value) → ((v : Value) → o ≡ Some v → Fits s v) → FitsEach s (values (λ v. v) (elements_example full o))
elements-fit true s (Some v) h = FitsEach.fits_one (h v refl) FitsEach.fits_none
elements-fit true s None h = FitsEach.fits_none
elements-fit false s o h = FitsEach.fits_none

elements-sorted : (full : Bool) (o : Option Value) → sort_values (values (λ v. v) (elements_example full o)) ≡ values (λ v. v) (elements_example full o)
elements-sorted true (Some v) = refl
elements-sorted true None = refl
elements-sorted false o = refl

keys-rise : (full : Bool) (o : Option Value) → keys_rise (values (λ v. v) (elements_example full o)) ≡ true
keys-rise true (Some v) = refl
keys-rise true None = refl
keys-rise false o = refl

-- An alternative is among more.
alternative-among : (alts more : Alternatives) (i : List ℕ) (v : Value) → FitsAlternative alts i v → FitsAlternative (join_alternatives alts more) i v
alternative-among Alternatives.no_alternatives more i v h = elim h [ ]
alternative-among (Alternatives.alternative j t s alts) more i v (FitsAlternative.fits_here h) = FitsAlternative.fits_here h
alternative-among (Alternatives.alternative j t s alts) more i v (FitsAlternative.fits_later h) = FitsAlternative.fits_later (alternative-among alts more i v h)

alternative-behind : (alts more : Alternatives) (i : List ℕ) (v : Value) → FitsAlternative more i v → FitsAlternative (join_alternatives alts more) i v
alternative-behind Alternatives.no_alternatives more i v h = h
alternative-behind (Alternatives.alternative j t s alts) more i v h = FitsAlternative.fits_later (alternative-behind alts more i v h)

-- The value is one of these alternatives.
abbrev IsAlternative : Alternatives → Value → Type 0
IsAlternative alts v = (i : List ℕ) × (w : Value) × (Value.choice i w ≡ v) × FitsAlternative alts i w

chosen-fits : (i : List ℕ) (t : Tag) (s : Shape) (alts : Alternatives) (o : Option Value) (v : Value) → ((w : Value) → o ≡ Some w → Fits s w) → option_map (Value.choice i) o ≡ Some v → IsAlternative (Alternatives.alternative i t s alts) v
chosen-fits i t s alts (Some w) v h e = (i, w, same_some e, FitsAlternative.fits_here (h w refl))
chosen-fits i t s alts None v h e = none e

later-fits : (i : List ℕ) (t : Tag) (s : Shape) (alts : Alternatives) (v : Value) → IsAlternative alts v → IsAlternative (Alternatives.alternative i t s alts) v
later-fits i t s alts v a = (a.0, a.1, a.2, FitsAlternative.fits_later a.3)

among-alternatives : (alts more : Alternatives) (v : Value) → IsAlternative alts v → IsAlternative (join_alternatives alts more) v
among-alternatives alts more v a = (a.0, a.1, a.2, alternative-among alts more a.0 a.1 a.3)

behind-alternatives : (alts more : Alternatives) (v : Value) → IsAlternative more v → IsAlternative (join_alternatives alts more) v
behind-alternatives alts more v a = (a.0, a.1, a.2, alternative-behind alts more a.0 a.1 a.3)

-- The value is one of these extension additions.
abbrev IsAddedAlternative : AlternativeAdditions → Value → Type 0
IsAddedAlternative AlternativeAdditions.closed_alternatives v = ⊥
IsAddedAlternative (AlternativeAdditions.extended_alternatives alts) v = IsAlternative alts v

added-alternative : (alts : Alternatives) (added : AlternativeAdditions) (v : Value) → IsAddedAlternative added v → IsAlternative (all_alternatives alts added) v
added-alternative alts AlternativeAdditions.closed_alternatives v h = absurd h
added-alternative alts (AlternativeAdditions.extended_alternatives more) v h = behind-alternatives alts more v h

first-alternative : (alts : Alternatives) (added : AlternativeAdditions) (v : Value) → IsAlternative alts v → IsAlternative (all_alternatives alts added) v
first-alternative alts AlternativeAdditions.closed_alternatives v h = h
first-alternative alts (AlternativeAdditions.extended_alternatives more) v h = among-alternatives alts more v h

any-alternative : (alts : Alternatives) (added : AlternativeAdditions) (a b : Option Value) (v : Value) → ((w : Value) → a ≡ Some w → IsAlternative alts w) → ((w : Value) → b ≡ Some w → IsAddedAlternative added w) → or_else a b ≡ Some v → IsAlternative (all_alternatives alts added) v
any-alternative alts added a b v h k e =
    either-fits {P = IsAlternative (all_alternatives alts added)} a b v (λ w g. first-alternative alts added w (h w g)) (λ w g. added-alternative alts added w (k w g)) e

choice-fits : (alts : Alternatives) (added : AlternativeAdditions) (v : Value) → IsAlternative (all_alternatives alts added) v → Fits (Shape.choice alts added) v
choice-fits alts added v a = subst (Fits (Shape.choice alts added)) a.2 (Fits.fits_choice a.3)

-- Members of both lists, if there are both.
joined-fit : (fs : Fields) (added : FieldAdditions) (a b : Option (List (List ℕ × Option Value))) (ms : List (List ℕ × Option Value)) → ((l : List (List ℕ × Option Value)) → a ≡ Some l → FitsFields fs (members_named l)) → ((l : List (List ℕ × Option Value)) → b ≡ Some l → FitsAdded added l)
    → joined a b ≡ Some ms → FitsFields (all_fields fs added) (members_named ms)
joined-fit fs added (Some l) (Some k) ms h g e = subst (λ m. FitsFields (all_fields fs added) (members_named m)) (same_some e) (all-fit fs added l k (h l refl) (g k refl))
joined-fit fs added (Some l) None ms h g e = none e
joined-fit fs added None b ms h g e = none e

members-fit : (kind : SeqKind) (fs : Fields) (added : FieldAdditions) (o : Option (List (List ℕ × Option Value))) (v : Value) → ((ms : List (List ℕ × Option Value)) → o ≡ Some ms → FitsFields (all_fields fs added) (members_named ms))
    → option_map (λ ms. Value.members (members_named ms)) o ≡ Some v → Fits (Shape.seq kind fs added) v
members-fit kind fs added (Some ms) v h e = subst (Fits (Shape.seq kind fs added)) (same_some e) (Fits.fits_members (h ms refl))
members-fit kind fs added None v h e = none e

mutual
  -- An example is a value of its shape, whatever the names of the loops around it mean.
  filled-fits : (s : Shape) (full other : Bool) (v : Value) (ss : List (ℕ × Shape)) → example full other s ≡ Some v → Fits (fills s ss) v
  filled-fits (Shape.seq kind fs added) full other v ss e =
      subst (λ t. Fits t v) (sym (fills-seq kind fs added ss))
      (members-fit kind (fills_fields fs ss) (fills_added_fields added ss) (joined (members_example full fs) (added_members_example full added)) v
      (λ ms. joined-fit (fills_fields fs ss) (fills_added_fields added ss) (members_example full fs) (added_members_example full added) ms (λ l. filled-members fs full l ss) (λ l. filled-added_members added full l ss)) e)
  filled-fits (Shape.list_of s) full other v ss e =
      subst (λ t. Fits t v) (sym (fills-list_of s ss)) (subst (Fits (Shape.list_of (fills s ss))) (same_some e)
      (Fits.fits_list (elements-fit full (fills s ss) (example full false s) (λ w. filled-fits s full false w ss))))
  filled-fits (Shape.set_of s) full other v ss e =
      subst (λ t. Fits t v) (sym (fills-set_of s ss)) (subst (Fits (Shape.set_of (fills s ss))) (same_some e)
      (Fits.fits_set (elements-fit full (fills s ss) (example full false s) (λ w. filled-fits s full false w ss)) (elements-sorted full (example full false s))))
  filled-fits (Shape.table s) full other v ss e =
      subst (λ t. Fits t v) (sym (fills-table s ss)) (subst (Fits (Shape.table (fills s ss))) (same_some e)
      (Fits.fits_table (elements-fit full (fills s ss) (example full false s) (λ w. filled-fits s full false w ss)) (keys-rise full (example full false s))))
  filled-fits (Shape.choice alts added) full other v ss e =
      subst (λ t. Fits t v) (sym (fills-choice alts added ss))
      (choice-fits (fills_alternatives alts ss) (fills_added_alternatives added ss) v
      (any-alternative (fills_alternatives alts ss) (fills_added_alternatives added ss) (alternatives_example full alts) (added_alternatives_example full added) v (λ w. filled-alternatives alts full w ss) (λ w. filled-added_alternatives added full w ss) e))
  filled-fits (Shape.loop s) full other v ss e =
      let body = fills s (within ss) in
      subst (λ t. Fits t v) (sym (fills-loop s ss))
      (Fits.fits_loop (subst (λ t. Fits t v) (fills-append s (within ss) ((0, Shape.loop body) ∷ [])) (filled-fits s full other v (within ss ++ (0, Shape.loop body) ∷ []) e)))
  filled-fits (Shape.back k) full other v ss e = none e
  filled-fits Shape.null full other v ss e = filled-leaf Shape.null ss v (λ k r. refl) (leaf-fits Shape.null other v e)
  filled-fits Shape.boolean full other v ss e = filled-leaf Shape.boolean ss v (λ k r. refl) (leaf-fits Shape.boolean other v e)
  filled-fits (Shape.int least greatest width) full other v ss e = filled-leaf (Shape.int least greatest width) ss v (λ k r. refl) (leaf-fits (Shape.int least greatest width) other v e)
  filled-fits (Shape.bits size) full other v ss e = filled-leaf (Shape.bits size) ss v (λ k r. refl) (leaf-fits (Shape.bits size) other v e)
  filled-fits Shape.octets full other v ss e = filled-leaf Shape.octets ss v (λ k r. refl) (leaf-fits Shape.octets other v e)
  filled-fits Shape.any full other v ss e = filled-leaf Shape.any ss v (λ k r. refl) (leaf-fits Shape.any other v e)
  filled-fits Shape.oid full other v ss e = filled-leaf Shape.oid ss v (λ k r. refl) (leaf-fits Shape.oid other v e)
  filled-fits (Shape.text a) full other v ss e = filled-leaf (Shape.text a) ss v (λ k r. refl) (leaf-fits (Shape.text a) other v e)
  filled-fits Shape.bmp full other v ss e = filled-leaf Shape.bmp ss v (λ k r. refl) (leaf-fits Shape.bmp other v e)
  filled-fits Shape.utc full other v ss e = filled-leaf Shape.utc ss v (λ k r. refl) (leaf-fits Shape.utc other v e)
  filled-fits Shape.gen full other v ss e = filled-leaf Shape.gen ss v (λ k r. refl) (leaf-fits Shape.gen other v e)
  filled-fits Shape.day full other v ss e = filled-leaf Shape.day ss v (λ k r. refl) (leaf-fits Shape.day other v e)
  filled-fits Shape.decimal full other v ss e = filled-leaf Shape.decimal ss v (λ k r. refl) (leaf-fits Shape.decimal other v e)
  filled-fits (Shape.enum items added) full other v ss e = filled-leaf (Shape.enum items added) ss v (λ k r. refl) (leaf-fits (Shape.enum items added) other v e)

  filled-members : (fs : Fields) (full : Bool) (ms : List (List ℕ × Option Value)) (ss : List (ℕ × Shape)) → members_example full fs ≡ Some ms → FitsFields (fills_fields fs ss) (members_named ms)
  filled-members Fields.no_fields full ms ss e = subst (λ m. FitsFields (fills_fields Fields.no_fields ss) (members_named m)) (same_some e) (subst (λ l. FitsFields l Slots.no_slots) (sym (fills-no_fields ss)) FitsFields.fits_end)
  filled-members (Fields.field n t p s fs) full ms ss e =
      subst (λ l. FitsFields l (members_named ms)) (sym (fills-field n t p s fs ss))
      (with-fits n t p (fills s ss) (fills_fields fs ss) (member_example full p (example full false s) (example full true s)) (members_example full fs) ms
      (λ v. member-fits full p (fills s ss) (example full false s) (example full true s) v (λ w. filled-fits s full false w ss) (λ w. filled-fits s full true w ss)) (λ l. filled-members fs full l ss) e)

  filled-added_members : (added : FieldAdditions) (full : Bool) (ms : List (List ℕ × Option Value)) (ss : List (ℕ × Shape)) → added_members_example full added ≡ Some ms → FitsAdded (fills_added_fields added ss) ms
  filled-added_members FieldAdditions.closed_fields full ms ss e = subst (λ a. FitsAdded a ms) (sym (fills-closed_fields ss)) (sym (same_some e))
  filled-added_members (FieldAdditions.extended_fields fs) full ms ss e = subst (λ a. FitsAdded a ms) (sym (fills-extended_fields fs ss)) (filled-members fs full ms ss e)

  filled-alternatives : (alts : Alternatives) (full : Bool) (v : Value) (ss : List (ℕ × Shape)) → alternatives_example full alts ≡ Some v → IsAlternative (fills_alternatives alts ss) v
  filled-alternatives Alternatives.no_alternatives full v ss e = none e
  filled-alternatives (Alternatives.alternative i t s alts) full v ss e =
      subst (λ l. IsAlternative l v) (sym (fills-alternative i t s alts ss))
      (either-fits {P = IsAlternative (Alternatives.alternative i t (fills s ss) (fills_alternatives alts ss))} (option_map (Value.choice i) (example full false s)) (alternatives_example full alts) v
      (λ w. chosen-fits i t (fills s ss) (fills_alternatives alts ss) (example full false s) w (λ x. filled-fits s full false x ss))
      (λ w h. later-fits i t (fills s ss) (fills_alternatives alts ss) w (filled-alternatives alts full w ss h)) e)

  filled-added_alternatives : (added : AlternativeAdditions) (full : Bool) (v : Value) (ss : List (ℕ × Shape)) → added_alternatives_example full added ≡ Some v → IsAddedAlternative (fills_added_alternatives added ss) v
  filled-added_alternatives AlternativeAdditions.closed_alternatives full v ss e = none e
  filled-added_alternatives (AlternativeAdditions.extended_alternatives alts) full v ss e = subst (λ a. IsAddedAlternative a v) (sym (fills-extended_alternatives alts ss)) (filled-alternatives alts full v ss e)

-- An example of a shape is one of its values.
pub example-fits : (s : Shape) (full other : Bool) (v : Value) → example full other s ≡ Some v → Fits s v
example-fits s full other v e = filled-fits s full other v [] e
