-- Which values a shape of each kind has.
use Rattle.std.proofs.Common.{◌≡◌, refl, sym, ap, ◌∙◌, subst, ℕ, List, Bool, true, false, Decides, Option, Some, None}
use Rattle.asn_dynamic_fits.specs.Contents.{bag_in, choice_in, item_in, list_in, members_in}
use Rattle.asn_model.specs.Shape.{AlternativeAdditions, Alternatives, FieldAdditions, Fields, SeqKind, Shape, all_alternatives, all_fields, all_items, is_item, unfold_loop}
use Rattle.asn_model.specs.Value.{Fits, FitsAlternative, FitsEach, FitsFields, Slots, Value, Values, is_leaf_of, keys_rise, sort_values}
use Rattle.asn_parts.specs.Parts.{leaf_shape}
use Rattle.asn_parts.specs.declared.part.LeafPart.{LeafPart}
use Rattle.asn_parts.specs.declared.part.LeafPart.TheVariants.{Null, Bool as Boolean, Int, Bits, Octets, Any, Oid, Str, Bmp, Utc, Gen, Day, Decimal}

-- What holds exactly where another does is decided with it.
pub decides-by : {P Q : Type 0} (r : Bool) → (P → Q) → (Q → P) → Decides r P → Decides r Q
decides-by r f g d = (λ e. f (d.0 e), λ q. d.1 (g q))

pub decides-never : {P : Type 0} → (P → ⊥) → Decides false P
decides-never none = (λ e. let d : false ≡ true = e in cc d, λ p. absurd (none p))

pub decides-always : {P : Type 0} → P → Decides true P
decides-always p = (λ e. p, λ q. refl)

-- What was found not to hold holds not.
pub refuted : {P : Type 0} (r : Bool) → Decides r P → r ≡ false → P → ⊥
refuted r d fails p = let e : false ≡ true = sym fails ∙ d.1 p in cc e

-- A test that fails ends it.
pub decides-ended : {P : Type 0} (r : Bool) → r ≡ false → Decides false P → Decides r P
decides-ended {P} r fails d = subst (λ b. Decides b P) (sym fails) d

-- A test is its own answer.
pub decides-test : (r b : Bool) → r ≡ b → Decides r (b ≡ true)
decides-test r b is = (λ e. sym is ∙ e, λ q. is ∙ q)

no_such : {A : Type 0} {P : Type 0} {x : A} → ◌≡◌ {A = Option A} None (Some x) → P
no_such e = cc e

-- A value of a shape without parts.
leaf-back : (leaf : LeafPart) (v : Value) → Fits (leaf_shape leaf) v → is_leaf_of (leaf_shape leaf) v ≡ true
leaf-back Null v (Fits.fits_leaf e) = e
leaf-back Boolean v (Fits.fits_leaf e) = e
leaf-back (Int l g w) v (Fits.fits_leaf e) = e
leaf-back (Bits n) v (Fits.fits_leaf e) = e
leaf-back Octets v (Fits.fits_leaf e) = e
leaf-back Any v (Fits.fits_leaf e) = e
leaf-back Oid v (Fits.fits_leaf e) = e
leaf-back (Str a) v (Fits.fits_leaf e) = e
leaf-back Bmp v (Fits.fits_leaf e) = e
leaf-back Utc v (Fits.fits_leaf e) = e
leaf-back Gen v (Fits.fits_leaf e) = e
leaf-back Day v (Fits.fits_leaf e) = e
leaf-back Decimal v (Fits.fits_leaf e) = e

pub leaf-decides : (leaf : LeafPart) (v : Value) (r : Bool) → r ≡ is_leaf_of (leaf_shape leaf) v → Decides r (Fits (leaf_shape leaf) v)
leaf-decides leaf v r is = (λ e. Fits.fits_leaf (sym is ∙ e), λ f. is ∙ leaf-back leaf v f)

enum-back : (items : List (List ℕ)) (added : Option (List (List ℕ))) (v : Value) → Fits (Shape.enum items added) v → is_leaf_of (Shape.enum items added) v ≡ true
enum-back items added v (Fits.fits_leaf e) = e

item-leaf : (items : List (List ℕ)) (added : Option (List (List ℕ))) (v : Value) (i : List ℕ) → Some i ≡ item_in v → is_leaf_of (Shape.enum items added) v ≡ is_item (all_items items added) i
item-leaf items added (Value.item j) i e =
    let same : i ≡ j = cc e in
    ap (is_item (all_items items added)) (sym same)
item-leaf items added v i e = no_such (sym e)

other-leaf : (items : List (List ℕ)) (added : Option (List (List ℕ))) (v : Value) → None ≡ item_in v → is_leaf_of (Shape.enum items added) v ≡ false
other-leaf items added (Value.item j) e = no_such e
other-leaf items added v e = refl

-- An item, and a value of another kind.
pub item-decides : (items : List (List ℕ)) (added : Option (List (List ℕ))) (v : Value) (i : List ℕ) (r : Bool) → Some i ≡ item_in v → r ≡ is_item (all_items items added) i → Decides r (Fits (Shape.enum items added) v)
item-decides items added v i r e is = (λ h. Fits.fits_leaf (item-leaf items added v i e ∙ sym is ∙ h), λ f. is ∙ sym (item-leaf items added v i e) ∙ enum-back items added v f)

pub item-other : (items : List (List ℕ)) (added : Option (List (List ℕ))) (v : Value) → None ≡ item_in v → Decides false (Fits (Shape.enum items added) v)
item-other items added v e = decides-never (λ f. let d : false ≡ true = sym (other-leaf items added v e) ∙ enum-back items added v f in cc d)

pub list-is : (v : Value) (vs : Values) → Some vs ≡ list_in v → Value.list vs ≡ v
list-is (Value.list us) vs e = let same : vs ≡ us = cc e in ap Value.list same
list-is v vs e = no_such (sym e)

pub bag-is : (v : Value) (vs : Values) → Some vs ≡ bag_in v → Value.bag vs ≡ v
bag-is (Value.bag us) vs e = let same : vs ≡ us = cc e in ap Value.bag same
bag-is v vs e = no_such (sym e)

pub members-is : (v : Value) (ms : Slots) → Some ms ≡ members_in v → Value.members ms ≡ v
members-is (Value.members ns) ms e = let same : ms ≡ ns = cc e in ap Value.members same
members-is v ms e = no_such (sym e)

pub choice-is : (v : Value) (i : List ℕ) (w : Value) → Some (i, w) ≡ choice_in v → Value.choice i w ≡ v
choice-is (Value.choice j u) i w e =
    let same : ◌≡◌ {A = List ℕ × Value} (i, w) (j, u) = cc e in
    ap (λ (p : List ℕ × Value). Value.choice p.0 p.1) same
choice-is v i w e = no_such (sym e)

each-back : (s : Shape) (vs : Values) → Fits (Shape.list_of s) (Value.list vs) → FitsEach s vs
each-back s vs (Fits.fits_list f) = f
each-back s vs (Fits.fits_leaf e) = let d : false ≡ true = e in cc d

set-back : (s : Shape) (vs : Values) → Fits (Shape.set_of s) (Value.bag vs) → FitsEach s vs × (sort_values vs ≡ vs)
set-back s vs (Fits.fits_set f sorted) = (f, sorted)
set-back s vs (Fits.fits_leaf e) = let d : false ≡ true = e in cc d

table-back : (s : Shape) (vs : Values) → Fits (Shape.table s) (Value.list vs) → FitsEach s vs × (keys_rise vs ≡ true)
table-back s vs (Fits.fits_table f rise) = (f, rise)
table-back s vs (Fits.fits_leaf e) = let d : false ≡ true = e in cc d

no_list : (s : Shape) (v : Value) → None ≡ list_in v → Fits (Shape.list_of s) v → ⊥
no_list s v e (Fits.fits_list f) = no_such e
no_list s v e (Fits.fits_leaf l) = let d : false ≡ true = l in cc d

no_set : (s : Shape) (v : Value) → None ≡ bag_in v → Fits (Shape.set_of s) v → ⊥
no_set s v e (Fits.fits_set f sorted) = no_such e
no_set s v e (Fits.fits_leaf l) = let d : false ≡ true = l in cc d

no_table : (s : Shape) (v : Value) → None ≡ list_in v → Fits (Shape.table s) v → ⊥
no_table s v e (Fits.fits_table f rise) = no_such e
no_table s v e (Fits.fits_leaf l) = let d : false ≡ true = l in cc d

no_members : (kind : SeqKind) (fs : Fields) (added : FieldAdditions) (v : Value) → None ≡ members_in v → Fits (Shape.seq kind fs added) v → ⊥
no_members kind fs added v e (Fits.fits_members f) = no_such e
no_members kind fs added v e (Fits.fits_leaf l) = let d : false ≡ true = l in cc d

no_choice : (alts : Alternatives) (added : AlternativeAdditions) (v : Value) → None ≡ choice_in v → Fits (Shape.choice alts added) v → ⊥
no_choice alts added v e (Fits.fits_choice f) = no_such e
no_choice alts added v e (Fits.fits_leaf l) = let d : false ≡ true = l in cc d

-- A list.
pub list-decides : (s : Shape) (v : Value) (vs : Values) (r : Bool) → Some vs ≡ list_in v → Decides r (FitsEach s vs) → Decides r (Fits (Shape.list_of s) v)
list-decides s v vs r e d = subst (λ w. Decides r (Fits (Shape.list_of s) w)) (list-is v vs e) (decides-by r Fits.fits_list (each-back s vs) d)

pub list-other : (s : Shape) (v : Value) → None ≡ list_in v → Decides false (Fits (Shape.list_of s) v)
list-other s v e = decides-never (no_list s v e)

-- A bag.
pub set-decides : (s : Shape) (v : Value) (vs : Values) (r : Bool) → Some vs ≡ bag_in v → sort_values vs ≡ vs → Decides r (FitsEach s vs) → Decides r (Fits (Shape.set_of s) v)
set-decides s v vs r e sorted d = subst (λ w. Decides r (Fits (Shape.set_of s) w)) (bag-is v vs e) (decides-by r (λ f. Fits.fits_set f sorted) (λ f. (set-back s vs f).0) d)

pub set-unsorted : (s : Shape) (v : Value) (vs : Values) → Some vs ≡ bag_in v → (sort_values vs ≡ vs → ⊥) → Decides false (Fits (Shape.set_of s) v)
set-unsorted s v vs e none = subst (λ w. Decides false (Fits (Shape.set_of s) w)) (bag-is v vs e) (decides-never (λ f. none (set-back s vs f).1))

pub set-other : (s : Shape) (v : Value) → None ≡ bag_in v → Decides false (Fits (Shape.set_of s) v)
set-other s v e = decides-never (no_set s v e)

-- A table.
pub table-decides : (s : Shape) (v : Value) (vs : Values) (r : Bool) → Some vs ≡ list_in v → keys_rise vs ≡ true → Decides r (FitsEach s vs) → Decides r (Fits (Shape.table s) v)
table-decides s v vs r e rise d = subst (λ w. Decides r (Fits (Shape.table s) w)) (list-is v vs e) (decides-by r (λ f. Fits.fits_table f rise) (λ f. (table-back s vs f).0) d)

pub table-unsorted : (s : Shape) (v : Value) (vs : Values) → Some vs ≡ list_in v → keys_rise vs ≡ false → Decides false (Fits (Shape.table s) v)
table-unsorted s v vs e falls = subst (λ w. Decides false (Fits (Shape.table s) w)) (list-is v vs e) (decides-never (λ f. let d : false ≡ true = sym falls ∙ (table-back s vs f).1 in cc d))

pub table-other : (s : Shape) (v : Value) → None ≡ list_in v → Decides false (Fits (Shape.table s) v)
table-other s v e = decides-never (no_table s v e)

-- A sequence.
pub fields-back : (kind : SeqKind) (fs : Fields) (added : FieldAdditions) (ms : Slots) → Fits (Shape.seq kind fs added) (Value.members ms) → FitsFields (all_fields fs added) ms
fields-back kind fs added ms (Fits.fits_members f) = f
fields-back kind fs added ms (Fits.fits_leaf e) = let d : false ≡ true = e in cc d

pub members-other : (kind : SeqKind) (fs : Fields) (added : FieldAdditions) (v : Value) → None ≡ members_in v → Decides false (Fits (Shape.seq kind fs added) v)
members-other kind fs added v e = decides-never (no_members kind fs added v e)

-- A choice.
pub alternative-back : (alts : Alternatives) (added : AlternativeAdditions) (i : List ℕ) (v : Value) → Fits (Shape.choice alts added) (Value.choice i v) → FitsAlternative (all_alternatives alts added) i v
alternative-back alts added i v (Fits.fits_choice f) = f
alternative-back alts added i v (Fits.fits_leaf e) = let d : false ≡ true = e in cc d

pub choice-other : (alts : Alternatives) (added : AlternativeAdditions) (v : Value) → None ≡ choice_in v → Decides false (Fits (Shape.choice alts added) v)
choice-other alts added v e = decides-never (no_choice alts added v e)

-- A loop.
pub loop-decides : (b : Shape) (v : Value) (r : Bool) → Decides r (Fits (unfold_loop b) v) → Decides r (Fits (Shape.loop b) v)
loop-decides b v r d = decides-by r Fits.fits_loop (loop-back b v) d
  where
    loop-back : (b : Shape) (v : Value) → Fits (Shape.loop b) v → Fits (unfold_loop b) v
    loop-back b v (Fits.fits_loop f) = f
    loop-back b v (Fits.fits_leaf e) = let d : false ≡ true = e in cc d
