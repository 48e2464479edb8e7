-- A reader that comes upon an unknown name refuses there, and for no other reason.
use Rattle.std.proofs.Common.{◌≡◌, refl, ap, sym, ◌∙◌, subst, ℕ, Bool, true, false, if◌then◌else◌, List, [], ◌∷◌, map, Option, Some, None, Result, Ok, Err, ◌⊎◌, inl, inr}
use Rattle.asn_fault.specs.Failure.{Cause}
use Rattle.asn_model.specs.Components.{Component, Standing, component_names, reading_order}
use Rattle.asn_model.specs.DecodesTo.{DecodesTo}
use Rattle.asn_model.specs.FailsWith.{FailsWith, EachFailsWith, FieldsFailWith, Path}
use Rattle.asn_model.specs.Leaf.{LeafFailure, IsFailureOf, as_leaf, codec_of, leaf, refined}
use Rattle.asn_model.specs.Notation.{Notation, IsText}
use Rattle.asn_model.specs.Shape.{Shape, SeqKind, Fields, FieldAdditions, Alternatives, AlternativeAdditions, all_alternatives, all_fields, all_items, alternative_named, field_names, is_item, unfold_loop}
use Rattle.asn_model.specs.Tree.{Tree, Slot, as_choice, as_list, as_members, first_repeated, same_identifier}
use Rattle.asn_model.specs.Value.{Value, may_lack}
use Rattle.asn_model.specs.declared.leaves.LeafKind.TheVariants.{Item}
use Rattle.asn_model.proofs.Meanings.{apart, not_other}
use Rattle.asn_growth.specs.ComesUpon.{ComesUpon, EachComesUpon, FieldsComeUpon, IsAsMuch, IsMissing}
use Rattle.asn_growth.proofs.Versions.{none_some}

pub some_same : {A : Type 0} {x y : A} {o : Option A} → o ≡ Some x → o ≡ Some y → x ≡ y
some_same {A} {x} {y} e f = let d : Some x ≡ Some y = sym e ∙ f in cc d

-- What an enumeration makes of an item that it lacks.
unknown-leaf : (n : Notation) (items : List (List ℕ)) (added : Option (List (List ℕ))) (t : Tree) (i : List ℕ) → as_leaf n Item t ≡ Ok (Value.item i) → is_item (all_items items added) i ≡ false
    → leaf n (Shape.enum items added) t ≡ Some (Err (LeafFailure.because (Cause.invalid_enum_discriminant (codec_of n) i)))
unknown-leaf n items added t i is unknown =
    ap (λ r. Some (refined (codec_of n) (Shape.enum items added) r)) is
    ∙ ap (λ b. Some (if b then Ok (Value.item i) else Err (LeafFailure.because (Cause.invalid_enum_discriminant (codec_of n) i)))) unknown

mutual
  -- A reader that comes upon an unknown name refuses there.
  pub fails-upon : {n : Notation} {s : Shape} {t : Tree} {p : Path} {w : Cause} → ComesUpon n s t p w → FailsWith n s (Some t) p w
  fails-upon {n} (ComesUpon.unknown_item items added t i is unknown) =
      FailsWith.fails_leaf (Shape.enum items added) t _ _ (unknown-leaf n items added t i is unknown) (IsFailureOf.is_because (Cause.invalid_enum_discriminant (codec_of n) i))
  fails-upon (ComesUpon.unknown_alternative alts added t u name type_name e f) = FailsWith.fails_unnamed alts added t name u type_name e f
  fails-upon (ComesUpon.in_payload alts added t u name id s p w e f h) = FailsWith.fails_payload alts added t name u id s p w e f (fails-upon h)
  fails-upon (ComesUpon.in_field kind fs added t look p w e single h) = FailsWith.fails_seq kind fs added t look p w e single (fields-fail-upon h)
  fails-upon (ComesUpon.in_list s t slots p w e h) = FailsWith.fails_list s t slots p w e (each-fails-upon h)
  fails-upon (ComesUpon.in_set s t slots p w e h) = FailsWith.fails_set s t slots p w e (each-fails-upon h)
  fails-upon (ComesUpon.in_table s t p w h) = FailsWith.fails_table s t p w (fails-upon h)
  fails-upon (ComesUpon.in_loop body t p w h) = FailsWith.fails_loop body t p w (fails-upon h)

  pub each-fails-upon : {n : Notation} {s : Shape} {slots : List Slot} {p : Path} {w : Cause} → EachComesUpon n s slots p w → EachFailsWith n s slots p w
  each-fails-upon (EachComesUpon.upon_here s t rest p w h) = EachFailsWith.fails_here s (Some t) rest p w (fails-upon h)
  each-fails-upon (EachComesUpon.upon_later s slot rest v p w d h) = EachFailsWith.fails_later s slot rest v p w d (each-fails-upon h)

  pub fields-fail-upon : {n : Notation} {cs : List Component} {slots : List Slot} {p : Path} {w : Cause} → FieldsComeUpon n cs slots p w → FieldsFailWith n cs slots p w
  fields-fail-upon (FieldsComeUpon.upon_field c cs t rest p w h) = FieldsFailWith.field_fails c cs t rest p w (fails-upon h)
  fields-fail-upon (FieldsComeUpon.upon_missing c cs rest needed at) = FieldsFailWith.addition_is_missing c cs rest needed at
  fields-fail-upon (FieldsComeUpon.past_present c cs slot rest v p w d h) = FieldsFailWith.after_present c cs slot rest v p w d (fields-fail-upon h)
  fields-fail-upon (FieldsComeUpon.past_absent c cs rest p w lack h) = FieldsFailWith.after_absent c cs rest p w lack (fields-fail-upon h)

-- An absent slot decodes to nothing.
nothing : {n : Notation} {s : Shape} {v : Value} → IsText n → DecodesTo n s None v → ⊥
nothing {n} t (DecodesTo.decodes_free s slot v e) = not_other n t e

-- The same path, and as much of the reason as is fixed.
abbrev Same : Path → Path → Cause → Cause → Type 0
Same p q w y = (q ≡ p) × IsAsMuch w y

not_both : (b : Bool) → b ≡ true → b ≡ false → ⊥
not_both b e f = let d : true ≡ false = sym e ∙ f in cc d

not_root : Standing.root ≡ Standing.addition → ⊥
not_root e = cc e

because_of : {w y : Cause} → LeafFailure.because w ≡ LeafFailure.because y → w ≡ y
because_of e = cc e

no_because : {needed : List ℕ} {y : Cause} → LeafFailure.mismatch needed ≡ LeafFailure.because y → ⊥
no_because e = cc e

err_of : {a b : LeafFailure} → ◌≡◌ {A = Option (Result Value LeafFailure)} (Some (Err a)) (Some (Err b)) → a ≡ b
err_of e = cc e

item-reason : {n : Notation} {t : Tree} {b : LeafFailure} {y : Cause} (w : Cause) → b ≡ LeafFailure.because w → IsFailureOf n t b y → y ≡ w
item-reason w e (IsFailureOf.is_mismatch needed found h) = absurd (no_because e)
item-reason w e (IsFailureOf.is_because y) = because_of e

empty_named : {y : List ℕ × Tree} {o : Option (Option (List ℕ × Tree))} → o ≡ Some None → o ≡ Some (Some y) → ⊥
empty_named {y} e f = let d : ◌≡◌ {A = Option (Option (List ℕ × Tree))} (Some None) (Some (Some y)) = sym e ∙ f in cc d

some_member : {x y : List ℕ × Tree} → ◌≡◌ {A = Option (List ℕ × Tree)} (Some x) (Some y) → x ≡ y
some_member e = cc e

item_place : {n : Notation} {items : List (List ℕ)} {added : Option (List (List ℕ))} {t : Tree} {i : List ℕ} {q : Path} {y : Cause} → IsText n → as_leaf n Item t ≡ Ok (Value.item i) → is_item (all_items items added) i ≡ false → FailsWith n (Shape.enum items added) (Some t) q y
    → Same [] q (Cause.invalid_enum_discriminant (codec_of n) i) y
item_place {n} {items} {added} {t} {i} x is unknown (FailsWith.fails_leaf s t2 b y f blamed) =
    (refl, item-reason (Cause.invalid_enum_discriminant (codec_of n) i) (err_of (sym f ∙ unknown-leaf n items added t i is unknown)) blamed)
item_place {n} x is unknown (FailsWith.fails_free s slot q y f) = absurd (not_other n x f)

-- Whatever a refusal of such a choice is for.
alternative_place : {n : Notation} {alts : Alternatives} {added : AlternativeAdditions} {t u : Tree} {name : List ℕ} {q : Path} {y : Cause} (type_name : List ℕ) → IsText n → as_choice n t ≡ Some (Some (name, u)) → alternative_named same_identifier (all_alternatives alts added) name ≡ None
    → FailsWith n (Shape.choice alts added) (Some t) q y → Same [] q (Cause.no_valid_choice type_name) y
alternative_place type_name x e f (FailsWith.fails_leaf s t2 b y g blamed) = absurd (none_some refl g)
alternative_place type_name x e f (FailsWith.fails_no_choice alts2 added2 t2 y g blamed) = absurd (none_some g e)
alternative_place type_name x e f (FailsWith.fails_no_member alts2 added2 t2 r g) = absurd (empty_named g e)
alternative_place type_name x e f (FailsWith.fails_unnamed alts2 added2 t2 name2 u2 r g i) = (refl, (r, refl))
alternative_place {u = u} {name = name} type_name x e f (FailsWith.fails_payload alts2 added2 t2 name2 u2 id2 s2 q y g i k) =
    let m : ◌≡◌ {A = List ℕ × Tree} (name2, u2) (name, u) = some_member (some_same g e) in
    absurd (none_some f (rw (ap (λ (r : List ℕ × Tree). r.0) m) at i))
alternative_place {n} type_name x e f (FailsWith.fails_free s slot q y k) = absurd (not_other n x k)

payload_place : {n : Notation} {alts : Alternatives} {added : AlternativeAdditions} {t u : Tree} {name id : List ℕ} {s : Shape} {p q : Path} {y : Cause} (w : Cause) → IsText n → as_choice n t ≡ Some (Some (name, u)) → alternative_named same_identifier (all_alternatives alts added) name ≡ Some (id, s)
    → ((r : Path) (z : Cause) → FailsWith n s (Some u) r z → Same p r w z) → FailsWith n (Shape.choice alts added) (Some t) q y → Same p q w y
payload_place w x e f payload (FailsWith.fails_leaf s2 t2 b y g blamed) = absurd (none_some refl g)
payload_place w x e f payload (FailsWith.fails_no_choice alts2 added2 t2 y g blamed) = absurd (none_some g e)
payload_place w x e f payload (FailsWith.fails_no_member alts2 added2 t2 r g) = absurd (empty_named g e)
payload_place {u = u} {name = name} w x e f payload (FailsWith.fails_unnamed alts2 added2 t2 name2 u2 r g i) =
    let m : ◌≡◌ {A = List ℕ × Tree} (name2, u2) (name, u) = some_member (some_same g e) in
    absurd (none_some (rw (ap (λ (r : List ℕ × Tree). r.0) m) at i) f)
payload_place {n} {u = u} {name = name} {id = id} {s = s} w x e f payload (FailsWith.fails_payload alts2 added2 t2 name2 u2 id2 s2 q y g i k) =
    let m : ◌≡◌ {A = List ℕ × Tree} (name2, u2) (name, u) = some_member (some_same g e) in
    let c : ◌≡◌ {A = List ℕ × Shape} (id2, s2) (id, s) = some_same (rw (ap (λ (r : List ℕ × Tree). r.0) m) at i) f in
    payload q y (subst (λ r. FailsWith n r (Some u) q y) (ap (λ (r : List ℕ × Shape). r.1) c) (subst (λ r. FailsWith n s2 (Some r) q y) (ap (λ (r : List ℕ × Tree). r.1) m) k))
payload_place {n} w x e f payload (FailsWith.fails_free s2 slot q y k) = absurd (not_other n x k)

field_place : {n : Notation} {kind : SeqKind} {fs : Fields} {added : FieldAdditions} {t : Tree} {look : List ℕ → Slot} {p q : Path} {y : Cause} (w : Cause) → IsText n → as_members n t ≡ Some look → first_repeated n t (field_names (all_fields fs added)) ≡ None
    → ((r : Path) (z : Cause) → FieldsFailWith n (reading_order kind fs added) (map look (component_names (reading_order kind fs added))) r z → Same p r w z) → FailsWith n (Shape.seq kind fs added) (Some t) q y → Same p q w y
field_place w x e single fields (FailsWith.fails_leaf s2 t2 b y f blamed) = absurd (none_some refl f)
field_place w x e single fields (FailsWith.fails_no_members kind2 fs2 added2 t2 y f blamed) = absurd (none_some f e)
field_place w x e single fields (FailsWith.fails_repeated kind2 fs2 added2 t2 look2 name f g) = absurd (none_some single g)
field_place {n} w x e single fields (FailsWith.fails_seq kind fs added t look2 q y f single2 k) =
    fields q y (subst (λ m. FieldsFailWith n (reading_order kind fs added) (map m (component_names (reading_order kind fs added))) q y) (some_same f e) k)
field_place {n} w x e single fields (FailsWith.fails_free s2 slot q y k) = absurd (not_other n x k)

list_place : {n : Notation} {s : Shape} {t : Tree} {slots : List Slot} {p q : Path} {y : Cause} (w : Cause) → IsText n → as_list n t ≡ Some slots → ((r : Path) (z : Cause) → EachFailsWith n s slots r z → Same p r w z) → FailsWith n (Shape.list_of s) (Some t) q y → Same p q w y
list_place w x e each (FailsWith.fails_leaf s2 t2 b y f blamed) = absurd (none_some refl f)
list_place w x e each (FailsWith.fails_no_list s2 t2 y f blamed) = absurd (none_some f e)
list_place {n} w x e each (FailsWith.fails_list s t slots2 q y f k) = each q y (subst (λ m. EachFailsWith n s m q y) (some_same f e) k)
list_place {n} w x e each (FailsWith.fails_free s2 slot q y k) = absurd (not_other n x k)

set_place : {n : Notation} {s : Shape} {t : Tree} {slots : List Slot} {p q : Path} {y : Cause} (w : Cause) → IsText n → as_list n t ≡ Some slots → ((r : Path) (z : Cause) → EachFailsWith n s slots r z → Same p r w z) → FailsWith n (Shape.set_of s) (Some t) q y → Same p q w y
set_place w x e each (FailsWith.fails_leaf s2 t2 b y f blamed) = absurd (none_some refl f)
set_place w x e each (FailsWith.fails_no_set s2 t2 y f blamed) = absurd (none_some f e)
set_place {n} w x e each (FailsWith.fails_set s t slots2 q y f k) = each q y (subst (λ m. EachFailsWith n s m q y) (some_same f e) k)
set_place {n} w x e each (FailsWith.fails_free s2 slot q y k) = absurd (not_other n x k)

table_place : {n : Notation} {s : Shape} {t : Tree} {p q : Path} {y : Cause} (w : Cause) → IsText n → ((r : Path) (z : Cause) → FailsWith n (Shape.list_of s) (Some t) r z → Same p r w z) → FailsWith n (Shape.table s) (Some t) q y → Same p q w y
table_place w x list (FailsWith.fails_leaf s2 t2 b y f blamed) = absurd (none_some refl f)
table_place w x list (FailsWith.fails_table s2 t2 q y k) = list q y k
table_place {n} w x list (FailsWith.fails_free s2 slot q y k) = absurd (not_other n x k)

loop_place : {n : Notation} {body : Shape} {t : Tree} {p q : Path} {y : Cause} (w : Cause) → IsText n → ((r : Path) (z : Cause) → FailsWith n (unfold_loop body) (Some t) r z → Same p r w z) → FailsWith n (Shape.loop body) (Some t) q y → Same p q w y
loop_place w x turn (FailsWith.fails_leaf s2 t2 b y f blamed) = absurd (none_some refl f)
loop_place w x turn (FailsWith.fails_loop body2 t2 q y k) = turn q y k
loop_place {n} w x turn (FailsWith.fails_free s2 slot q y k) = absurd (not_other n x k)

mutual
  -- It refuses for no other reason.
  pub one_place : {n : Notation} {s : Shape} {t : Tree} {p q : Path} {w y : Cause} → IsText n → ComesUpon n s t p w → FailsWith n s (Some t) q y → Same p q w y
  one_place x (ComesUpon.unknown_item items added t i is unknown) k = item_place x is unknown k
  one_place x (ComesUpon.unknown_alternative alts added t u name type_name e f) k = alternative_place type_name x e f k
  one_place x (ComesUpon.in_payload alts added t u name id s p w e f h) k = payload_place _ x e f (λ r z j. one_place x h j) k
  one_place x (ComesUpon.in_field kind fs added t look p w e single h) k = field_place _ x e single (λ r z j. one_field x h j) k
  one_place x (ComesUpon.in_list s t slots p w e h) k = list_place _ x e (λ r z j. one_element x h j) k
  one_place x (ComesUpon.in_set s t slots p w e h) k = set_place _ x e (λ r z j. one_element x h j) k
  one_place x (ComesUpon.in_table s t p w h) k = table_place _ x (λ r z j. one_place x h j) k
  one_place x (ComesUpon.in_loop body t p w h) k = loop_place _ x (λ r z j. one_place x h j) k

  one_element : {n : Notation} {s : Shape} {slots : List Slot} {p q : Path} {w y : Cause} → IsText n → EachComesUpon n s slots p w → EachFailsWith n s slots q y → Same p q w y
  one_element x (EachComesUpon.upon_here s t rest p w h) (EachFailsWith.fails_here s2 slot rest2 q y k) = one_place x h k
  one_element x (EachComesUpon.upon_here s t rest p w h) (EachFailsWith.fails_later s2 slot rest2 v q y d k) = absurd (apart x d (fails-upon h))
  one_element x (EachComesUpon.upon_later s slot rest v p w d h) (EachFailsWith.fails_here s2 slot2 rest2 q y k) = absurd (apart x d k)
  one_element x (EachComesUpon.upon_later s slot rest v p w d h) (EachFailsWith.fails_later s2 slot2 rest2 v2 q y d2 k) = one_element x h k

  one_field : {n : Notation} {cs : List Component} {slots : List Slot} {p q : Path} {w y : Cause} → IsText n → FieldsComeUpon n cs slots p w → FieldsFailWith n cs slots q y → Same p q w y
  one_field x (FieldsComeUpon.upon_field c cs t rest p w h) (FieldsFailWith.field_fails c2 cs2 t2 rest2 q y k) = let r = one_place x h k in (ap (λ l. c.name ∷ l) r.0, r.1)
  one_field x (FieldsComeUpon.upon_field c cs t rest p w h) (FieldsFailWith.after_present c2 cs2 slot rest2 v q y d k) = absurd (apart x d (fails-upon h))
  one_field x (FieldsComeUpon.upon_missing c cs rest needed at) (FieldsFailWith.field_is_missing c2 cs2 rest2 q y needed2 at2 k) = absurd (not_root (sym at2 ∙ at))
  one_field x (FieldsComeUpon.upon_missing c cs rest needed at) (FieldsFailWith.addition_is_missing c2 cs2 rest2 needed2 at2) = (refl, refl)
  one_field x (FieldsComeUpon.upon_missing c cs rest needed at) (FieldsFailWith.after_present c2 cs2 slot rest2 v q y d k) = absurd (nothing x d)
  one_field x (FieldsComeUpon.upon_missing c cs rest needed at) (FieldsFailWith.after_absent c2 cs2 rest2 q y lack k) = absurd (not_both (may_lack c.presence) lack needed)
  one_field x (FieldsComeUpon.past_present c cs slot rest v p w d h) (FieldsFailWith.field_fails c2 cs2 t rest2 q y k) = absurd (apart x d k)
  one_field x (FieldsComeUpon.past_present c cs slot rest v p w d h) (FieldsFailWith.field_is_missing c2 cs2 rest2 q y needed at k) = absurd (nothing x d)
  one_field x (FieldsComeUpon.past_present c cs slot rest v p w d h) (FieldsFailWith.addition_is_missing c2 cs2 rest2 needed at) = absurd (nothing x d)
  one_field x (FieldsComeUpon.past_present c cs slot rest v p w d h) (FieldsFailWith.after_present c2 cs2 slot2 rest2 v2 q y d2 k) = one_field x h k
  one_field x (FieldsComeUpon.past_present c cs slot rest v p w d h) (FieldsFailWith.after_absent c2 cs2 rest2 q y lack k) = absurd (nothing x d)
  one_field x (FieldsComeUpon.past_absent c cs rest p w lack h) (FieldsFailWith.field_is_missing c2 cs2 rest2 q y needed at k) = absurd (not_both (may_lack c.presence) lack needed)
  one_field x (FieldsComeUpon.past_absent c cs rest p w lack h) (FieldsFailWith.addition_is_missing c2 cs2 rest2 needed at) = absurd (not_both (may_lack c.presence) lack needed)
  one_field x (FieldsComeUpon.past_absent c cs rest p w lack h) (FieldsFailWith.after_present c2 cs2 slot2 rest2 v2 q y d2 k) = absurd (nothing x d2)
  one_field x (FieldsComeUpon.past_absent c cs rest p w lack h) (FieldsFailWith.after_absent c2 cs2 rest2 q y lack2 k) = one_field x h k

-- What a reader refuses, in which it would else come upon a reason of a kind, it refuses there.
pub fails_there : (K : Cause → Type 0) {n : Notation} {s : Shape} {t : Tree} {v : Value} {q : Path} {y : Cause} → IsText n → DecodesTo n s (Some t) v ⊎ ((p : Path) × (w : Cause) × ComesUpon n s t p w × K w) → FailsWith n s (Some t) q y
    → (w : Cause) × ComesUpon n s t q w × K w × IsAsMuch w y
fails_there K x (inl d) k = absurd (apart x d k)
fails_there K {n} {s} {t} x (inr (p, w, u, i)) k = let r = one_place x u k in (w, subst (λ r. ComesUpon n s t r w) (sym r.0) u, i, r.1)

-- A reason that is as much as an absence is that absence.
pub missing_at : {n : Notation} {s : Shape} {t : Tree} {q : Path} {y : Cause} → (w : Cause) × ComesUpon n s t q w × IsMissing w × IsAsMuch w y → ComesUpon n s t q y × IsMissing y
missing_at {n} {s} {t} {q} {y} (w, u, (name, is), same) =
    let e : y ≡ w = by w name is same in (subst (ComesUpon n s t q) (sym e) u, (name, e ∙ is))
  where
    by : (z : Cause) (m : List ℕ) → z ≡ Cause.missing_field m → IsAsMuch z y → y ≡ z
    by z m f a = subst (λ c. IsAsMuch c y → y ≡ c) (sym f) (λ b. b) a
