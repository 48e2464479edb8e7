-- Laws of what slots say, in the two notations.
use Rattle.std.proofs.Common.{List, [], ◌∷◌, ◌++◌, None, Option, Some, Bool, true, false, Result, Ok, Err, ap, refl, subst, sym, map, ℕ, ◌∙◌, ◌≡◌, ◌⊎◌, inl, inr}
use Rattle.std.specs.List.{AllByRecursion}
use Rattle.std.specs.Ordering.{on}
use Rattle.asn_fault.specs.Failure.{Cause}
use Rattle.asn_model.specs.Notation.{Notation, IsText}
use Rattle.asn_model.specs.Components.{Component, Standing, component_names, components, reading_order, root_order, tag_cmp}
use Rattle.asn_model.specs.Shape.{FieldAdditions, Fields, SeqKind, Shape, all_fields, field_names, join_fields}
use Rattle.asn_model.specs.Tree.{Slot, Tree}
use Rattle.asn_model.specs.Value.{Slots, Value, Values, bag_of, may_lack, table_of, with_field}
use Rattle.asn_model.specs.DecodesTo.{DecodesTo, EachDecodesTo, FieldsDecodeTo}
use Rattle.asn_model.specs.FailsWith.{FailsWith, EachFailsWith, FieldsFailWith, Path}
use Rattle.asn_model.proofs.Sorting.{each-sort}

pub not_other : (n : Notation) → IsText n → n ≡ Notation.other → ⊥
not_other Notation.jer h e = cc e
not_other Notation.avn h e = cc e
not_other Notation.other h e = absurd h

-- An absent slot decodes to nothing.
pub nothing : {n : Notation} {s : Shape} {v : Value} → IsText n → DecodesTo n s None v → ⊥
nothing {n} t (DecodesTo.decodes_free s slot v e) = not_other n t e

pub some_same : {A : Type 0} {x y : A} {o : Option A} → o ≡ Some x → o ≡ Some y → x ≡ y
some_same {A} {x} {y} e f = let d : Some x ≡ Some y = sym e ∙ f in cc d

ok_same : {A E : Type 0} {x y : A} {o : Option (Result A E)} → o ≡ Some (Ok x) → o ≡ Some (Ok y) → x ≡ y
ok_same {A} {E} {x} {y} e f = let d : ◌≡◌ {A = Option (Result A E)} (Some (Ok x)) (Some (Ok y)) = sym e ∙ f in cc d

pub none_some : {A : Type 0} {x : A} {o : Option A} → o ≡ None → o ≡ Some x → ⊥
none_some {A} {x} e f = let d : ◌≡◌ {A = Option A} None (Some x) = sym e ∙ f in cc d

ok_err : {A E : Type 0} {x : A} {w : E} {o : Option (Result A E)} → o ≡ Some (Ok x) → o ≡ Some (Err w) → ⊥
ok_err {A} {E} {x} {w} e f = let d : ◌≡◌ {A = Option (Result A E)} (Some (Ok x)) (Some (Err w)) = sym e ∙ f in cc d

abbrev pub Member : Type 0
Member = List ℕ × Tree

pub named : {x y : Member} {o : Option (Option Member)} → o ≡ Some (Some x) → o ≡ Some (Some y) → x ≡ y
named {x} {y} e f = let d : ◌≡◌ {A = Option (Option Member)} (Some (Some x)) (Some (Some y)) = sym e ∙ f in cc d

pub empty_named : {y : Member} {o : Option (Option Member)} → o ≡ Some None → o ≡ Some (Some y) → ⊥
empty_named {y} e f = let d : ◌≡◌ {A = Option (Option Member)} (Some None) (Some (Some y)) = sym e ∙ f in cc d

same_elements : {vs ws : Values} → Value.list vs ≡ Value.list ws → vs ≡ ws
same_elements e = cc e

mutual
  -- A slot decodes to at most one value by a shape.
  pub one : {n : Notation} {s : Shape} {slot : Slot} {v : Value} → IsText n → DecodesTo n s slot v → {w : Value} → DecodesTo n s slot w → v ≡ w
  one {n} x (DecodesTo.decodes_free s slot v e) k = absurd (not_other n x e)
  one {n} x (DecodesTo.decodes_leaf s t v e) (DecodesTo.decodes_free s2 slot w f) = absurd (not_other n x f)
  one {n} x (DecodesTo.decodes_seq kind fs more t look vs e single h) (DecodesTo.decodes_free s2 slot v f) = absurd (not_other n x f)
  one {n} x (DecodesTo.decodes_list s t slots vs e h) (DecodesTo.decodes_free s2 slot v f) = absurd (not_other n x f)
  one {n} x (DecodesTo.decodes_set s t slots vs e h) (DecodesTo.decodes_free s2 slot v f) = absurd (not_other n x f)
  one {n} x (DecodesTo.decodes_table s t vs h) (DecodesTo.decodes_free s2 slot v f) = absurd (not_other n x f)
  one {n} x (DecodesTo.decodes_choice alts added t name u id s v e f h) (DecodesTo.decodes_free s2 slot w g) = absurd (not_other n x g)
  one {n} x (DecodesTo.decodes_loop body t v h) (DecodesTo.decodes_free s2 slot w f) = absurd (not_other n x f)
  one x (DecodesTo.decodes_leaf s t v e) (DecodesTo.decodes_leaf s2 t2 w f) = ok_same e f
  one x (DecodesTo.decodes_leaf s t v e) (DecodesTo.decodes_seq kind fs more t2 look vs f single h) = absurd (none_some refl e)
  one x (DecodesTo.decodes_leaf s t v e) (DecodesTo.decodes_list s2 t2 slots vs f h) = absurd (none_some refl e)
  one x (DecodesTo.decodes_leaf s t v e) (DecodesTo.decodes_set s2 t2 slots vs f h) = absurd (none_some refl e)
  one x (DecodesTo.decodes_leaf s t v e) (DecodesTo.decodes_table s2 t2 vs h) = absurd (none_some refl e)
  one x (DecodesTo.decodes_leaf s t v e) (DecodesTo.decodes_choice alts added t2 name u id s2 w f g h) = absurd (none_some refl e)
  one x (DecodesTo.decodes_leaf s t v e) (DecodesTo.decodes_loop body t2 w h) = absurd (none_some refl e)
  one x (DecodesTo.decodes_seq kind fs more t look vs e single h) (DecodesTo.decodes_leaf s2 t2 v f) = absurd (none_some refl f)
  one x (DecodesTo.decodes_list s t slots vs e h) (DecodesTo.decodes_leaf s2 t2 v f) = absurd (none_some refl f)
  one x (DecodesTo.decodes_set s t slots vs e h) (DecodesTo.decodes_leaf s2 t2 v f) = absurd (none_some refl f)
  one x (DecodesTo.decodes_table s t vs h) (DecodesTo.decodes_leaf s2 t2 v f) = absurd (none_some refl f)
  one x (DecodesTo.decodes_choice alts added t name u id s v e f h) (DecodesTo.decodes_leaf s2 t2 w g) = absurd (none_some refl g)
  one x (DecodesTo.decodes_loop body t v h) (DecodesTo.decodes_leaf s2 t2 w f) = absurd (none_some refl f)
  one {n} x (DecodesTo.decodes_seq kind fs more t look vs e single h) (DecodesTo.decodes_seq kind2 fs2 more2 t2 look2 ws f single2 k) =
      ap Value.members (one_fields x h (subst (λ m. FieldsDecodeTo n (all_fields fs2 more2) (map m (field_names (all_fields fs2 more2))) ws) (some_same f e) k))
  one {n} x (DecodesTo.decodes_list s t slots vs e h) (DecodesTo.decodes_list s2 t2 slots2 ws f k) =
      ap Value.list (one_each x h (subst (λ m. EachDecodesTo n s2 m ws) (some_same f e) k))
  one {n} x (DecodesTo.decodes_set s t slots vs e h) (DecodesTo.decodes_set s2 t2 slots2 ws f k) =
      ap bag_of (one_each x h (subst (λ m. EachDecodesTo n s2 m ws) (some_same f e) k))
  one x (DecodesTo.decodes_table s t vs h) (DecodesTo.decodes_table s2 t2 ws k) = ap (λ es. Value.list (table_of es)) (same_elements (one x h k))
  one {n} x (DecodesTo.decodes_choice alts added t name u id s v e f h) (DecodesTo.decodes_choice alts2 added2 t2 name2 u2 id2 s2 w g i k) =
      let m : ◌≡◌ {A = Member} (name2, u2) (name, u) = named g e in
      let c : ◌≡◌ {A = List ℕ × Shape} (id2, s2) (id, s) = some_same (rw (ap (λ (r : Member). r.0) m) at i) f in
      ap (λ j. Value.choice j v) (sym (ap (λ (r : List ℕ × Shape). r.0) c))
      ∙ ap (Value.choice id2) (one x h (subst (λ r. DecodesTo n r (Some u) w) (ap (λ (r : List ℕ × Shape). r.1) c) (subst (λ r. DecodesTo n s2 (Some r) w) (ap (λ (r : Member). r.1) m) k)))
  one x (DecodesTo.decodes_loop body t v h) (DecodesTo.decodes_loop body2 t2 w k) = one x h k

  pub one_each : {n : Notation} {s : Shape} {slots : List Slot} {vs : Values} → IsText n → EachDecodesTo n s slots vs → {ws : Values} → EachDecodesTo n s slots ws → vs ≡ ws
  one_each x (EachDecodesTo.decodes_none s) (EachDecodesTo.decodes_none s2) = refl
  one_each x (EachDecodesTo.decodes_one s slot rest v vs h hs) (EachDecodesTo.decodes_one s2 slot2 rest2 w ws k ks) =
      ap (λ y. Values.value y vs) (one x h k) ∙ ap (Values.value w) (one_each x hs ks)

  pub one_fields : {n : Notation} {fs : Fields} {slots : List Slot} {vs : Slots} → IsText n → FieldsDecodeTo n fs slots vs → {ws : Slots} → FieldsDecodeTo n fs slots ws → vs ≡ ws
  one_fields x FieldsDecodeTo.decodes_end FieldsDecodeTo.decodes_end = refl
  one_fields x (FieldsDecodeTo.decodes_present m g p s fs slot rest v vs h hs) (FieldsDecodeTo.decodes_present m2 g2 p2 s2 fs2 slot2 rest2 w ws k ks) =
      ap (λ y. with_field p m y vs) (one x h k) ∙ ap (with_field p m w) (one_fields x hs ks)
  one_fields x (FieldsDecodeTo.decodes_present m g p s fs slot rest v vs h hs) (FieldsDecodeTo.decodes_absent m2 g2 p2 s2 fs2 rest2 ws lack2 ks) = absurd (nothing x h)
  one_fields x (FieldsDecodeTo.decodes_absent m g p s fs rest vs lack hs) (FieldsDecodeTo.decodes_present m2 g2 p2 s2 fs2 slot2 rest2 w ws k ks) = absurd (nothing x k)
  one_fields x (FieldsDecodeTo.decodes_absent m g p s fs rest vs lack hs) (FieldsDecodeTo.decodes_absent m2 g2 p2 s2 fs2 rest2 ws lack2 ks) = ap (Slots.absent m) (one_fields x hs ks)

-- The slot decodes to a value of the component, or it is absent and may be.
abbrev IsFine : Notation → Component → Slot → Type 0
IsFine n c slot = ((v : Value) × DecodesTo n c.shape slot v) ⊎ ((slot ≡ None) × (may_lack c.presence ≡ true))

-- So is each slot.
abbrev AreFine : Notation → List Component → List Slot → Type 0
AreFine n [] slots = Unit {0}
AreFine n (c ∷ cs) [] = Unit {0}
AreFine n (c ∷ cs) (slot ∷ rest) = IsFine n c slot × AreFine n cs rest

-- So is the slot at the component's name.
abbrev IsFound : Notation → (List ℕ → Slot) → Component → Type 0
IsFound n look c = IsFine n c (look c.name)

same_head : {x y : Slot} {xs ys : List Slot} → x ∷ xs ≡ y ∷ ys → x ≡ y
same_head e = cc e

same_tail : {x y : Slot} {xs ys : List Slot} → x ∷ xs ≡ y ∷ ys → xs ≡ ys
same_tail e = cc e

module _ (n : Notation) (look : List ℕ → Slot) where
  fields-found : {fs : Fields} {slots : List Slot} {vs : Slots} → FieldsDecodeTo n fs slots vs → slots ≡ map look (field_names fs) → AllByRecursion (IsFound n look) (components Standing.root fs)
  fields-found FieldsDecodeTo.decodes_end e = tt
  fields-found (FieldsDecodeTo.decodes_present name g p s fs slot rest v vs h hs) e = (inl (v, subst (λ x. DecodesTo n s x v) (same_head e) h), fields-found hs (same_tail e))
  fields-found (FieldsDecodeTo.decodes_absent name g p s fs rest vs lack hs) e = (inr (sym (same_head e), lack), fields-found hs (same_tail e))

  additions-found : (fs : Fields) → AllByRecursion (IsFound n look) (components Standing.root fs) → AllByRecursion (IsFound n look) (components Standing.addition fs)
  additions-found Fields.no_fields h = tt
  additions-found (Fields.field name g p s fs) h = (h.0, additions-found fs h.1)

  root-found : (fs more : Fields) → AllByRecursion (IsFound n look) (components Standing.root (join_fields fs more)) → AllByRecursion (IsFound n look) (components Standing.root fs)
  root-found Fields.no_fields more h = tt
  root-found (Fields.field name g p s fs) more h = (h.0, root-found fs more h.1)

  later-found : (fs more : Fields) → AllByRecursion (IsFound n look) (components Standing.root (join_fields fs more)) → AllByRecursion (IsFound n look) (components Standing.root more)
  later-found Fields.no_fields more h = h
  later-found (Fields.field name g p s fs) more h = later-found fs more h.1

  joined-found : (cs ds : List Component) → AllByRecursion (IsFound n look) cs → AllByRecursion (IsFound n look) ds → AllByRecursion (IsFound n look) (cs ++ ds)
  joined-found [] ds h k = k
  joined-found (c ∷ cs) ds h k = (h.0, joined-found cs ds h.1 k)

  -- What a SET reads in another order is what it reads.
  order-found : (kind : SeqKind) (fs : Fields) → AllByRecursion (IsFound n look) (components Standing.root fs) → AllByRecursion (IsFound n look) (root_order kind fs)
  order-found SeqKind.sequence fs h = h
  order-found SeqKind.set fs h = each-sort (on (λ (c : Component). c.tag) tag_cmp) (IsFound n look) (components Standing.root fs) h

  all-found : (kind : SeqKind) (fs : Fields) (added : FieldAdditions) → AllByRecursion (IsFound n look) (components Standing.root (all_fields fs added)) → AllByRecursion (IsFound n look) (reading_order kind fs added)
  all-found kind fs FieldAdditions.closed_fields h = order-found kind fs h
  all-found kind fs (FieldAdditions.extended_fields more) h = joined-found (root_order kind fs) (components Standing.addition more) (order-found kind fs (root-found fs more h)) (additions-found more (later-found fs more h))

  found-fine : (cs : List Component) → AllByRecursion (IsFound n look) cs → AreFine n cs (map look (component_names cs))
  found-fine [] h = tt
  found-fine (c ∷ cs) h = (h.0, found-fine cs h.1)

-- Where the members decode, no slot fails in the order of reading.
members-fine : (n : Notation) (look : List ℕ → Slot) (kind : SeqKind) (fs : Fields) (added : FieldAdditions) (vs : Slots) → FieldsDecodeTo n (all_fields fs added) (map look (field_names (all_fields fs added))) vs → AreFine n (reading_order kind fs added) (map look (component_names (reading_order kind fs added)))
members-fine n look kind fs added vs h = found-fine n look (reading_order kind fs added) (all-found n look kind fs added (fields-found n look h refl))

-- A present slot that is fine decodes to a value.
present-value : (n : Notation) (c : Component) (t : Tree) → IsFine n c (Some t) → (v : Value) × DecodesTo n c.shape (Some t) v
present-value n c t (inl d) = d
present-value n c t (inr a) = let e : ◌≡◌ {A = Slot} (Some t) None = a.0 in cc e

-- An absent slot that is fine may be absent.
absent-lacks : (n : Notation) (c : Component) → IsText n → IsFine n c None → may_lack c.presence ≡ true
absent-lacks n c x (inl d) = absurd (nothing x d.1)
absent-lacks n c x (inr a) = a.1

pub not_both : (b : Bool) → b ≡ true → b ≡ false → ⊥
not_both b e f = let d : true ≡ false = sym e ∙ f in cc d

mutual
  -- What decodes to a value has no reason to fail.
  pub apart : {n : Notation} {s : Shape} {slot : Slot} {v : Value} → IsText n → DecodesTo n s slot v → {p : Path} {w : Cause} → FailsWith n s slot p w → ⊥
  apart {n} x (DecodesTo.decodes_free s slot v e) k = not_other n x e
  apart {n} x (DecodesTo.decodes_leaf s t v e) (FailsWith.fails_free s2 slot p w f) = not_other n x f
  apart {n} x (DecodesTo.decodes_seq kind fs more t look vs e single h) (FailsWith.fails_free s2 slot p y f) = not_other n x f
  apart {n} x (DecodesTo.decodes_list s t slots vs e h) (FailsWith.fails_free s2 slot p y f) = not_other n x f
  apart {n} x (DecodesTo.decodes_set s t slots vs e h) (FailsWith.fails_free s2 slot p y f) = not_other n x f
  apart {n} x (DecodesTo.decodes_table s t vs h) (FailsWith.fails_free s2 slot p y f) = not_other n x f
  apart {n} x (DecodesTo.decodes_choice alts added t name u id s v e f h) (FailsWith.fails_free s2 slot p y g) = not_other n x g
  apart {n} x (DecodesTo.decodes_loop body t v h) (FailsWith.fails_free s2 slot p y f) = not_other n x f
  apart x (DecodesTo.decodes_leaf s t v e) (FailsWith.fails_leaf s2 t2 blame w f blamed) = ok_err e f
  apart x (DecodesTo.decodes_leaf s t v e) (FailsWith.fails_no_members kind fs more t2 w f blamed) = none_some refl e
  apart x (DecodesTo.decodes_leaf s t v e) (FailsWith.fails_repeated kind fs more t2 look name f g) = none_some refl e
  apart x (DecodesTo.decodes_leaf s t v e) (FailsWith.fails_seq kind fs more t2 look p w f single h) = none_some refl e
  apart x (DecodesTo.decodes_leaf s t v e) (FailsWith.fails_no_list s2 t2 w f blamed) = none_some refl e
  apart x (DecodesTo.decodes_leaf s t v e) (FailsWith.fails_list s2 t2 slots p w f h) = none_some refl e
  apart x (DecodesTo.decodes_leaf s t v e) (FailsWith.fails_no_set s2 t2 w f blamed) = none_some refl e
  apart x (DecodesTo.decodes_leaf s t v e) (FailsWith.fails_set s2 t2 slots p w f h) = none_some refl e
  apart x (DecodesTo.decodes_leaf s t v e) (FailsWith.fails_table s2 t2 p w h) = none_some refl e
  apart x (DecodesTo.decodes_leaf s t v e) (FailsWith.fails_no_choice alts added t2 w f blamed) = none_some refl e
  apart x (DecodesTo.decodes_leaf s t v e) (FailsWith.fails_no_member alts added t2 r f) = none_some refl e
  apart x (DecodesTo.decodes_leaf s t v e) (FailsWith.fails_unnamed alts added t2 name u r f g) = none_some refl e
  apart x (DecodesTo.decodes_leaf s t v e) (FailsWith.fails_payload alts added t2 name u id s2 p w f g h) = none_some refl e
  apart x (DecodesTo.decodes_leaf s t v e) (FailsWith.fails_loop body t2 p w h) = none_some refl e
  apart x (DecodesTo.decodes_seq kind fs more t look vs e single h) (FailsWith.fails_leaf s2 t2 blame y f blamed) = none_some refl f
  apart x (DecodesTo.decodes_seq kind fs more t look vs e single h) (FailsWith.fails_no_members kind2 fs2 more2 t2 w f blamed) = none_some f e
  apart x (DecodesTo.decodes_seq kind fs more t look vs e single h) (FailsWith.fails_repeated kind2 fs2 more2 t2 look2 name f g) = none_some single g
  apart {n} x (DecodesTo.decodes_seq kind fs more t look vs e single h) (FailsWith.fails_seq kind2 fs2 more2 t2 look2 p w f single2 k) = apart_fields x (members-fine n look2 kind fs more vs (subst (λ m. FieldsDecodeTo n (all_fields fs more) (map m (field_names (all_fields fs more))) vs) (some_same e f) h)) k
  apart x (DecodesTo.decodes_list s t slots vs e h) (FailsWith.fails_leaf s2 t2 blame y f blamed) = none_some refl f
  apart x (DecodesTo.decodes_list s t slots vs e h) (FailsWith.fails_no_list s2 t2 w f blamed) = none_some f e
  apart {n} x (DecodesTo.decodes_list s t slots vs e h) (FailsWith.fails_list s2 t2 slots2 p w f k) = apart_each x (subst (λ m. EachDecodesTo n s m vs) (some_same e f) h) k
  apart x (DecodesTo.decodes_set s t slots vs e h) (FailsWith.fails_leaf s2 t2 blame y f blamed) = none_some refl f
  apart x (DecodesTo.decodes_set s t slots vs e h) (FailsWith.fails_no_set s2 t2 w f blamed) = none_some f e
  apart {n} x (DecodesTo.decodes_set s t slots vs e h) (FailsWith.fails_set s2 t2 slots2 p w f k) = apart_each x (subst (λ m. EachDecodesTo n s m vs) (some_same e f) h) k
  apart x (DecodesTo.decodes_table s t vs h) (FailsWith.fails_leaf s2 t2 blame y f blamed) = none_some refl f
  apart x (DecodesTo.decodes_table s t vs h) (FailsWith.fails_table s2 t2 p w k) = apart x h k
  apart x (DecodesTo.decodes_choice alts added t name u id s v e f h) (FailsWith.fails_leaf s2 t2 blame y g blamed) = none_some refl g
  apart x (DecodesTo.decodes_choice alts added t name u id s v e f h) (FailsWith.fails_no_choice alts2 added2 t2 w g blamed) = none_some g e
  apart x (DecodesTo.decodes_choice alts added t name u id s v e f h) (FailsWith.fails_no_member alts2 added2 t2 r g) = empty_named g e
  apart x (DecodesTo.decodes_choice alts added t name u id s v e f h) (FailsWith.fails_unnamed alts2 added2 t2 name2 u2 r g i) =
      let m : ◌≡◌ {A = Member} (name2, u2) (name, u) = named g e in
      none_some (rw (ap (λ (r : Member). r.0) m) at i) f
  apart {n} x (DecodesTo.decodes_choice alts added t name u id s v e f h) (FailsWith.fails_payload alts2 added2 t2 name2 u2 id2 s2 p w g i k) =
      let m : ◌≡◌ {A = Member} (name2, u2) (name, u) = named g e in
      let c : ◌≡◌ {A = List ℕ × Shape} (id2, s2) (id, s) = some_same (rw (ap (λ (r : Member). r.0) m) at i) f in
      apart x (subst (λ r. DecodesTo n s2 (Some r) v) (sym (ap (λ (r : Member). r.1) m)) (subst (λ r. DecodesTo n r (Some u) v) (sym (ap (λ (r : List ℕ × Shape). r.1) c)) h)) k
  apart x (DecodesTo.decodes_loop body t v h) (FailsWith.fails_leaf s2 t2 blame y f blamed) = none_some refl f
  apart x (DecodesTo.decodes_loop body t v h) (FailsWith.fails_loop body2 t2 p w k) = apart x h k

  pub apart_each : {n : Notation} {s : Shape} {slots : List Slot} {vs : Values} → IsText n → EachDecodesTo n s slots vs → {p : Path} {w : Cause} → EachFailsWith n s slots p w → ⊥
  apart_each x (EachDecodesTo.decodes_one s slot rest v vs h hs) (EachFailsWith.fails_here s2 slot2 rest2 p w k) = apart x h k
  apart_each x (EachDecodesTo.decodes_one s slot rest v vs h hs) (EachFailsWith.fails_later s2 slot2 rest2 v2 p w k ks) = apart_each x hs ks
  apart_each x (EachDecodesTo.decodes_none s) k = elim k [ ]

  apart_fields : {n : Notation} {cs : List Component} {slots : List Slot} → IsText n → AreFine n cs slots → {p : Path} {w : Cause} → FieldsFailWith n cs slots p w → ⊥
  apart_fields {n} x fine (FieldsFailWith.field_fails c cs t rest p w k) = let d = present-value n c t fine.0 in apart x d.1 k
  apart_fields {n} x fine (FieldsFailWith.field_is_missing c cs rest p w needed at k) = not_both (may_lack c.presence) (absent-lacks n c x fine.0) needed
  apart_fields {n} x fine (FieldsFailWith.addition_is_missing c cs rest needed at) = not_both (may_lack c.presence) (absent-lacks n c x fine.0) needed
  apart_fields x fine (FieldsFailWith.after_present c cs slot rest v p w h k) = apart_fields x fine.1 k
  apart_fields x fine (FieldsFailWith.after_absent c cs rest p w lack k) = apart_fields x fine.1 k
