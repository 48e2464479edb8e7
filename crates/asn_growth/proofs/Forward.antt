-- What an older reader makes of a text of a newer version.
use Rattle.std.proofs.Common.{◌≡◌, refl, ap, sym, ◌∙◌, subst, ℕ, Bool, true, false, ◌&&◌, if◌then◌else◌, List, [], ◌∷◌, ◌++◌, map, Option, Some, None, Result, Ok, Err, ◌⊎◌, inl, inr}
use Rattle.std.specs.List.{AllByRecursion}
use Rattle.serde_json.specs.Data.{Data}
use Rattle.avn_grammar.specs.Tree.{Tree as AvnTree}
use Rattle.asn_core.specs.declared.tag.Tag.{Tag}
use Rattle.asn_fault.specs.Failure.{Cause}
use Rattle.asn_model.specs.Components.{Component, Standing, components, reading_order, with_additions}
use Rattle.asn_model.specs.DecodesTo.{DecodesTo, EachDecodesTo, FieldsDecodeTo}
use Rattle.asn_model.specs.FailsWith.{Path}
use Rattle.asn_model.specs.Leaf.{LeafFailure, as_leaf, codec_of, leaf, refined}
use Rattle.asn_model.specs.Notation.{Notation, IsText}
use Rattle.asn_model.specs.Readable.{is_entry, is_readable, are_fields_readable, suits}
use Rattle.asn_model.specs.Shape.{Shape, SeqKind, Fields, FieldAdditions, Alternatives, AlternativeAdditions, Presence, all_alternatives, all_fields, all_items, field_names, is_item, join_fields, unfold_loop, alternative_named}
use Rattle.asn_model.specs.Tree.{Tree, Slot, as_choice, as_list, as_members, first_repeated, same_identifier}
use Rattle.asn_model.specs.Value.{Value, Values, Slots, bag_of, may_lack, table_of, with_field}
use Rattle.asn_model.specs.declared.leaves.LeafKind.TheVariants.{Item}
use Rattle.asn_model.proofs.Meanings.{not_other}
use Rattle.asn_model.proofs.Readables.{and-left, and-right, fields_read, unfolded-readable}
use Rattle.asn_growth.specs.Adapted.{adapted, adapted_each, adapted_slots}
use Rattle.asn_growth.specs.Grows.{Grows, BeginsFields}
use Rattle.asn_growth.specs.ComesUpon.{ComesUpon, EachComesUpon, IsUnknown}
use Rattle.asn_growth.proofs.Adapting.{adapted-loop, adapted-same, field-adapted, no-slots, set-adapted, table-adapted}
use Rattle.asn_growth.proofs.FirstFailures.{IsRead, SomeComponent, FailsHere, Upon, all-read, first-failure, some-read}
use Rattle.asn_growth.proofs.Unfolding.{grows-unfolded}
use Rattle.asn_growth.proofs.Versions.{alternatives-begin, alternatives-joined, Found, choice-adapted, fields-begin, find, found-again, joined-begin, none_some, readable-alternatives, readable-named, single-begin}

-- The slot decodes to the adapted value, or a reader comes upon an unknown name in it.
abbrev pub Met : Notation → Shape → Slot → Value → Type 0
Met n s slot v = DecodesTo n s slot (adapted s v) ⊎ Upon IsUnknown n s slot

same_head : {x y : Slot} {xs ys : List Slot} → x ∷ xs ≡ y ∷ ys → x ≡ y
same_head e = cc e

same_tail : {x y : Slot} {xs ys : List Slot} → x ∷ xs ≡ y ∷ ys → xs ≡ ys
same_tail e = cc e

-- What an older reader makes of the slots of fields, of which the newer version has these values.
data FieldsMet (n : Notation) (look : List ℕ → Slot) : Fields → Slots → Type 0 where
  met_end : (vs : Slots) → FieldsMet n look Fields.no_fields vs
  met_present : (name : List ℕ) (t : Tag) (p : Presence) (s : Shape) (fs : Fields) (v : Value) (vs : Slots) → Met n s (look name) v → FieldsMet n look fs vs → FieldsMet n look (Fields.field name t p s fs) (with_field p name v vs)
  met_absent : (name : List ℕ) (t : Tag) (p : Presence) (s : Shape) (fs : Fields) (vs : Slots) → look name ≡ None → may_lack p ≡ true → FieldsMet n look fs vs → FieldsMet n look (Fields.field name t p s fs) (Slots.absent name vs)

module _ (n : Notation) (look : List ℕ → Slot) where
  abbrev fails : Component → Type 0
  fails c = FailsHere IsUnknown n look c

  read-met : (c : Component) (v : Value) → Met n c.shape (look c.name) v → IsRead IsUnknown n look c
  read-met c v (inl d) = inl (inl (adapted c.shape v, d))
  read-met c v (inr u) = inr (inl u)

  -- The fields as components: the first ones of the root, the others as additions.
  each-read : (at : Standing) (fs : Fields) {vs : Slots} → FieldsMet n look fs vs → AllByRecursion (IsRead IsUnknown n look) (components at fs)
  each-read at Fields.no_fields m = tt
  each-read at (Fields.field name t p s fs) (FieldsMet.met_present name2 t2 p2 s2 fs2 v vs m ms) = (read-met (record { name = name; tag = t; presence = p; shape = s; standing = at }) v m, each-read at fs ms)
  each-read at (Fields.field name t p s fs) (FieldsMet.met_absent name2 t2 p2 s2 fs2 vs e lack ms) = (inl (inr (e, lack)), each-read at fs ms)

  each-joined : (fs more : Fields) {vs : Slots} → FieldsMet n look (join_fields fs more) vs → AllByRecursion (IsRead IsUnknown n look) (components Standing.root fs ++ components Standing.addition more)
  each-joined Fields.no_fields more m = each-read Standing.addition more m
  each-joined (Fields.field name t p s fs) more (FieldsMet.met_present name2 t2 p2 s2 fs2 v vs m ms) = (read-met (record { name = name; tag = t; presence = p; shape = s; standing = Standing.root }) v m, each-joined fs more ms)
  each-joined (Fields.field name t p s fs) more (FieldsMet.met_absent name2 t2 p2 s2 fs2 vs e lack ms) = (inl (inr (e, lack)), each-joined fs more ms)

  each-met : (fs : Fields) (added : FieldAdditions) {vs : Slots} → FieldsMet n look (all_fields fs added) vs → AllByRecursion (IsRead IsUnknown n look) (with_additions (components Standing.root fs) added)
  each-met fs FieldAdditions.closed_fields m = each-read Standing.root fs m
  each-met fs (FieldAdditions.extended_fields more) m = each-joined fs more m

  -- Some field fails, as a component wherever it stands.
  abbrev SomeField : Fields → Type 0
  SomeField Fields.no_fields = ⊥
  SomeField (Fields.field name t p s fs) = Upon IsUnknown n s (look name) ⊎ SomeField fs

  some-fields : (at : Standing) (fs : Fields) → SomeField fs → SomeComponent fails (components at fs)
  some-fields at Fields.no_fields h = elim h [ ]
  some-fields at (Fields.field name t p s fs) (inl u) = inl (inl u)
  some-fields at (Fields.field name t p s fs) (inr h) = inr (some-fields at fs h)

  some-joined : (fs more : Fields) → SomeField (join_fields fs more) → SomeComponent fails (components Standing.root fs ++ components Standing.addition more)
  some-joined Fields.no_fields more h = some-fields Standing.addition more h
  some-joined (Fields.field name t p s fs) more (inl u) = inl (inl u)
  some-joined (Fields.field name t p s fs) more (inr h) = inr (some-joined fs more h)

  some-met : (fs : Fields) (added : FieldAdditions) → SomeField (all_fields fs added) → SomeComponent fails (with_additions (components Standing.root fs) added)
  some-met fs FieldAdditions.closed_fields h = some-fields Standing.root fs h
  some-met fs (FieldAdditions.extended_fields more) h = some-joined fs more h

  -- All are read, or one fails.
  all-or-some : {fs : Fields} {vs : Slots} → FieldsMet n look fs vs → FieldsDecodeTo n fs (map look (field_names fs)) (adapted_slots fs vs) ⊎ SomeField fs
  all-or-some (FieldsMet.met_end vs) = inl (subst (FieldsDecodeTo n Fields.no_fields []) (sym (no-slots vs)) FieldsDecodeTo.decodes_end)
  all-or-some (FieldsMet.met_present name t p s fs v vs m ms) = by m (all-or-some ms)
    where
      by : Met n s (look name) v → FieldsDecodeTo n fs (map look (field_names fs)) (adapted_slots fs vs) ⊎ SomeField fs
          → FieldsDecodeTo n (Fields.field name t p s fs) (look name ∷ map look (field_names fs)) (adapted_slots (Fields.field name t p s fs) (with_field p name v vs)) ⊎ SomeField (Fields.field name t p s fs)
      by (inl d) (inl ds) = inl (subst (FieldsDecodeTo n (Fields.field name t p s fs) (look name ∷ map look (field_names fs))) (sym (field-adapted name t p s fs v vs)) (FieldsDecodeTo.decodes_present name t p s fs (look name) (map look (field_names fs)) (adapted s v) (adapted_slots fs vs) d ds))
      by (inl d) (inr u) = inr (inr u)
      by (inr u) ds = inr (inl u)
  all-or-some (FieldsMet.met_absent name t p s fs vs e lack ms) = by (all-or-some ms)
    where
      by : FieldsDecodeTo n fs (map look (field_names fs)) (adapted_slots fs vs) ⊎ SomeField fs → FieldsDecodeTo n (Fields.field name t p s fs) (look name ∷ map look (field_names fs)) (Slots.absent name (adapted_slots fs vs)) ⊎ SomeField (Fields.field name t p s fs)
      by (inl ds) = inl (subst (λ slot. FieldsDecodeTo n (Fields.field name t p s fs) (slot ∷ map look (field_names fs)) (Slots.absent name (adapted_slots fs vs))) (sym e) (FieldsDecodeTo.decodes_absent name t p s fs (map look (field_names fs)) (adapted_slots fs vs) lack ds))
      by (inr u) = inr (inr u)

  seq-met : (kind : SeqKind) (fs : Fields) (added : FieldAdditions) (t : Tree) (vs : Slots) → as_members n t ≡ Some look → first_repeated n t (field_names (all_fields fs added)) ≡ None → FieldsMet n look (all_fields fs added) vs → Met n (Shape.seq kind fs added) (Some t) (Value.members vs)
  seq-met kind fs added t vs e single m = by (all-or-some m)
    where
      by : FieldsDecodeTo n (all_fields fs added) (map look (field_names (all_fields fs added))) (adapted_slots (all_fields fs added) vs) ⊎ SomeField (all_fields fs added) → Met n (Shape.seq kind fs added) (Some t) (Value.members vs)
      by (inl d) = inl (DecodesTo.decodes_seq kind fs added t look (adapted_slots (all_fields fs added) vs) e single d)
      by (inr u) =
          let r = first-failure IsUnknown n look (reading_order kind fs added) (all-read (IsRead IsUnknown n look) kind fs added (each-met fs added m)) (some-read fails kind fs added (some-met fs added u)) in
          inr (t, refl, r.0, r.1, ComesUpon.in_field kind fs added t look r.0 r.1 e single r.2, r.3)

-- An item, or why there is none.
item_of : (n : Notation) (t : Tree) → ((i : List ℕ) × (as_leaf n Item t ≡ Ok (Value.item i))) ⊎ ((b : LeafFailure) × (as_leaf n Item t ≡ Err b))
item_of Notation.jer (Tree.json (Data.string x)) = inl (x, refl)
item_of Notation.avn (Tree.avn (AvnTree.enumerated x)) = inl (x, refl)
item_of n t = inr (_, refl)

no_err : {v : Value} {b : LeafFailure} → ◌≡◌ {A = Option (Result Value LeafFailure)} (Some (Err b)) (Some (Ok v)) → ⊥
no_err e = cc e

same_ok : {v w : Value} → ◌≡◌ {A = Option (Result Value LeafFailure)} (Some (Ok v)) (Some (Ok w)) → v ≡ w
same_ok e = cc e

item-met : (n : Notation) (items added more : List (List ℕ)) (t : Tree) (v : Value) → leaf n (Shape.enum items (Some (added ++ more))) t ≡ Some (Ok v) → Met n (Shape.enum items (Some added)) (Some t) v
item-met n items added more t v e = by (item_of n t)
  where
    newer : Shape
    newer = Shape.enum items (Some (added ++ more))

    older : Shape
    older = Shape.enum items (Some added)

    of_item : (i : List ℕ) → as_leaf n Item t ≡ Ok (Value.item i) → v ≡ Value.item i → (b : Bool) → is_item (all_items items (Some added)) i ≡ b → Met n older (Some t) v
    of_item i is same true known =
        inl (DecodesTo.decodes_leaf older t v (ap (λ r. Some (refined (codec_of n) older r)) is
        ∙ ap (λ b. Some (if b then Ok (Value.item i) else Err (LeafFailure.because (Cause.invalid_enum_discriminant (codec_of n) i)))) known ∙ ap (λ w. Some (Ok w)) (sym same)))
    of_item i is same false unknown = inr (t, refl, [], Cause.invalid_enum_discriminant (codec_of n) i, ComesUpon.unknown_item items (Some added) t i is unknown, tt)

    tested : (i : List ℕ) (b : Bool) → Some (if b then Ok (Value.item i) else Err (LeafFailure.because (Cause.invalid_enum_discriminant (codec_of n) i))) ≡ Some (Ok v) → v ≡ Value.item i
    tested i true f = sym (same_ok f)
    tested i false f = absurd (no_err f)

    by : ((i : List ℕ) × (as_leaf n Item t ≡ Ok (Value.item i))) ⊎ ((b : LeafFailure) × (as_leaf n Item t ≡ Err b)) → Met n older (Some t) v
    by (inl (i, is)) = of_item i is (tested i (is_item (all_items items (Some (added ++ more))) i) (sym (ap (λ r. Some (refined (codec_of n) newer r)) is) ∙ e)) (is_item (all_items items (Some added)) i) refl
    by (inr (b, is)) = absurd (no_err (sym (ap (λ r. Some (refined (codec_of n) newer r)) is) ∙ e))

-- Of elements, all decode or there is a first in which a reader comes upon an unknown name.
abbrev EachMet : Notation → Shape → List Slot → Values → Type 0
EachMet n s slots vs = EachDecodesTo n s slots (adapted_each s vs) ⊎ ((p : Path) × (w : Cause) × EachComesUpon n s slots p w × IsUnknown w)

one-met : (n : Notation) (s : Shape) (slot : Slot) (rest : List Slot) (v : Value) (vs : Values) → Met n s slot v → EachMet n s rest vs → EachMet n s (slot ∷ rest) (Values.value v vs)
one-met n s slot rest v vs (inl d) (inl ds) = inl (EachDecodesTo.decodes_one s slot rest (adapted s v) (adapted_each s vs) d ds)
one-met n s slot rest v vs (inl d) (inr (p, w, u, k)) = inr (p, w, EachComesUpon.upon_later s slot rest (adapted s v) p w d u, k)
one-met n s slot rest v vs (inr (t, e, p, w, u, k)) r = inr (p, w, subst (λ c. EachComesUpon n s (c ∷ rest) p w) (sym e) (EachComesUpon.upon_here s t rest p w u), k)

list-met : (n : Notation) (s : Shape) (t : Tree) (slots : List Slot) (vs : Values) → as_list n t ≡ Some slots → EachMet n s slots vs → Met n (Shape.list_of s) (Some t) (Value.list vs)
list-met n s t slots vs e (inl ds) = inl (DecodesTo.decodes_list s t slots (adapted_each s vs) e ds)
list-met n s t slots vs e (inr (p, w, u, k)) = inr (t, refl, p, w, ComesUpon.in_list s t slots p w e u, k)

set-met : (n : Notation) (s : Shape) (t : Tree) (slots : List Slot) (vs : Values) → as_list n t ≡ Some slots → EachMet n s slots vs → Met n (Shape.set_of s) (Some t) (bag_of vs)
set-met n s t slots vs e (inl ds) = inl (subst (DecodesTo n (Shape.set_of s) (Some t)) (sym (set-adapted s vs)) (DecodesTo.decodes_set s t slots (adapted_each s vs) e ds))
set-met n s t slots vs e (inr (p, w, u, k)) = inr (t, refl, p, w, ComesUpon.in_set s t slots p w e u, k)

some_tree : {x y : Tree} → ◌≡◌ {A = Slot} (Some x) (Some y) → x ≡ y
some_tree f = cc f

loop-met : (n : Notation) (b : Shape) (t : Tree) (v : Value) → is_readable (Shape.loop b) ≡ true → Met n (unfold_loop b) (Some t) v → Met n (Shape.loop b) (Some t) v
loop-met n b t v a (inl d) = inl (DecodesTo.decodes_loop b t (adapted (Shape.loop b) v) (subst (DecodesTo n (unfold_loop b) (Some t)) (sym (adapted-loop b v a)) d))
loop-met n b t v a (inr (u, e, p, w, h, k)) = inr (t, refl, p, w, ComesUpon.in_loop b t p w (subst (λ x. ComesUpon n (unfold_loop b) x p w) (sym (some_tree e)) h), k)

table-met : (n : Notation) (s : Shape) (t : Tree) (vs : Values) → is_entry s ≡ true → Met n (Shape.list_of s) (Some t) (Value.list vs) → Met n (Shape.table s) (Some t) (Value.list (table_of vs))
table-met n s t vs e (inl d) = inl (subst (λ es. DecodesTo n (Shape.table s) (Some t) (Value.list es)) (sym (table-adapted s vs e)) (DecodesTo.decodes_table s t (adapted_each s vs) d))
table-met n s t vs e (inr (u, same, p, w, h, k)) = inr (t, refl, p, w, ComesUpon.in_table s t p w (subst (λ x. ComesUpon n (Shape.list_of s) x p w) (sym (some_tree same)) h), k)

payload-met : (n : Notation) (alts : Alternatives) (added : AlternativeAdditions) (t u : Tree) (name id : List ℕ) (s : Shape) (v : Value) → as_choice n t ≡ Some (Some (name, u)) → alternative_named same_identifier (all_alternatives alts added) name ≡ Some (id, s) → Met n s (Some u) v
    → Met n (Shape.choice alts added) (Some t) (Value.choice id v)
payload-met n alts added t u name id s v e f (inl d) =
    inl (subst (DecodesTo n (Shape.choice alts added) (Some t)) (sym (choice-adapted alts added id s v (found-again (all_alternatives alts added) name id s f))) (DecodesTo.decodes_choice alts added t name u id s (adapted s v) e f d))
payload-met n alts added t u name id s v e f (inr (x, same, p, w, h, k)) = inr (t, refl, p, w, ComesUpon.in_payload alts added t u name id s p w e f (subst (λ y. ComesUpon n s y p w) (sym (some_tree same)) h), k)

chosen : {n : Notation} (alts : Alternatives) (added : AlternativeAdditions) (t u : Tree) (name id : List ℕ) (s : Shape) (v : Value) → is_readable (Shape.choice alts added) ≡ true → as_choice n t ≡ Some (Some (name, u))
    → Found (all_alternatives alts added) name id s → ((r : Shape) → is_readable r ≡ true → Grows r s → Met n r (Some u) v) → Met n (Shape.choice alts added) (Some t) (Value.choice id v)
chosen {n} alts added t u name id s v a e (inl (r, f, g)) payload =
    payload-met n alts added t u name id r v e f (payload r (readable-named (all_alternatives alts added) name id r (readable-alternatives alts added a) f) g)
chosen {n} alts added t u name id s v a e (inr f) payload = inr (t, refl, [], Cause.no_valid_choice [], ComesUpon.unknown_alternative alts added t u name [] e f, tt)

mutual
  -- An older reader reads what a newer one reads as the value without what it lacks, or comes upon a name that it lacks.
  pub forward : {n : Notation} {old new : Shape} {slot : Slot} {v : Value} → IsText n → is_readable old ≡ true → Grows old new → DecodesTo n new slot v → Met n old slot v
  forward {n} {slot = slot} {v = v} x a (Grows.grows_same {s} e) h = inl (subst (DecodesTo n s slot) (sym (adapted-same s v e)) h)
  forward {n} x a g (DecodesTo.decodes_free s slot v e) = absurd (not_other n x e)
  forward {n} x a (Grows.grows_enum items added more) (DecodesTo.decodes_leaf s t v e) = item-met n items added more t v e
  forward {n} x a (Grows.grows_closed_seq {kind} {fs} m) (DecodesTo.decodes_seq kind2 gs added t look vs e single hs) =
      let read = fields_read kind fs FieldAdditions.closed_fields a in
      seq-met n look kind fs FieldAdditions.closed_fields t vs e (single-begin n t (fields-begin m) single) (fields-forward look x (fields-begin m) read.parts hs refl)
  forward {n} x a (Grows.grows_seq {kind} {fs} {gs} {added} {more} m k) (DecodesTo.decodes_seq kind2 gs2 added2 t look vs e single hs) =
      let read = fields_read kind fs (FieldAdditions.extended_fields added) a in
      seq-met n look kind fs (FieldAdditions.extended_fields added) t vs e (single-begin n t (joined-begin m k) single) (fields-forward look x (joined-begin m k) read.parts hs refl)
  forward {n} x a (Grows.grows_list {s} g) (DecodesTo.decodes_list r t slots vs e hs) = list-met n s t slots vs e (each-forward x a g hs)
  forward {n} x a (Grows.grows_set {s} g) (DecodesTo.decodes_set r t slots vs e hs) = set-met n s t slots vs e (each-forward x a g hs)
  forward {n} x a (Grows.grows_closed_choice {alts} {bs} m) (DecodesTo.decodes_choice bs2 added t name u id s v e f h) = chosen alts AlternativeAdditions.closed_alternatives t u name id s v a e (find name id s (alternatives-begin m) f) (λ r b g. forward x b g h)
  forward {n} x a (Grows.grows_choice {alts} {bs} {added} {more} m k) (DecodesTo.decodes_choice bs2 added2 t name u id s v e f h) = chosen alts (AlternativeAdditions.extended_alternatives added) t u name id s v a e (find name id s (alternatives-joined m k) f) (λ r b g. forward x b g h)
  forward {n} x a (Grows.grows_loop {b} g) (DecodesTo.decodes_loop c t v h) = loop-met n b t v a (forward x (unfolded-readable b a) (grows-unfolded (Grows.grows_loop g)) h)
  forward {n} x a (Grows.grows_table {s} g) (DecodesTo.decodes_table r t vs h) =
      table-met n s t vs (and-left (is_entry s) (is_readable s) a) (forward x (and-right (is_entry s) (is_readable s) a) (Grows.grows_list g) h)
  forward x a (Grows.grows_closed_seq m) (DecodesTo.decodes_leaf s t v e) = absurd (none_some refl e)
  forward x a (Grows.grows_seq m k) (DecodesTo.decodes_leaf s t v e) = absurd (none_some refl e)
  forward x a (Grows.grows_list g) (DecodesTo.decodes_leaf s t v e) = absurd (none_some refl e)
  forward x a (Grows.grows_set g) (DecodesTo.decodes_leaf s t v e) = absurd (none_some refl e)
  forward x a (Grows.grows_table g) (DecodesTo.decodes_leaf s t v e) = absurd (none_some refl e)
  forward x a (Grows.grows_closed_choice m) (DecodesTo.decodes_leaf s t v e) = absurd (none_some refl e)
  forward x a (Grows.grows_choice m k) (DecodesTo.decodes_leaf s t v e) = absurd (none_some refl e)
  forward x a (Grows.grows_loop g) (DecodesTo.decodes_leaf s t v e) = absurd (none_some refl e)

  each-forward : {n : Notation} {old new : Shape} {slots : List Slot} {vs : Values} → IsText n → is_readable old ≡ true → Grows old new → EachDecodesTo n new slots vs → EachMet n old slots vs
  each-forward {old = old} x a g (EachDecodesTo.decodes_none s) = inl (EachDecodesTo.decodes_none old)
  each-forward {n} {old = old} x a g (EachDecodesTo.decodes_one s slot rest v vs h hs) = one-met n old slot rest v vs (forward x a g h) (each-forward x a g hs)

  fields-forward : {n : Notation} {old new : Fields} {slots : List Slot} {vs : Slots} (look : List ℕ → Slot) → IsText n → BeginsFields old new → are_fields_readable 0 old ≡ true → FieldsDecodeTo n new slots vs → slots ≡ map look (field_names new) → FieldsMet n look old vs
  fields-forward {vs = vs} look x BeginsFields.begins_fields a h e = FieldsMet.met_end vs
  fields-forward {n} look x (BeginsFields.begins_field {n = name} {t} {p} {s} {r} {fs} {gs} g m) a (FieldsDecodeTo.decodes_present name2 t2 p2 r2 gs2 slot rest v vs h hs) e =
      let first = and-right (suits p s) (is_readable s) (and-left (suits p s && is_readable s) (are_fields_readable 0 fs) a) in
      FieldsMet.met_present name t p s fs v vs (subst (λ c. Met n s c v) (same_head e) (forward x first g h)) (fields-forward look x m (and-right (suits p s && is_readable s) (are_fields_readable 0 fs) a) hs (same_tail e))
  fields-forward {n} look x (BeginsFields.begins_field {n = name} {t} {p} {s} {r} {fs} {gs} g m) a (FieldsDecodeTo.decodes_absent name2 t2 p2 r2 gs2 rest vs lack hs) e =
      FieldsMet.met_absent name t p s fs vs (sym (same_head e)) lack (fields-forward look x m (and-right (suits p s && is_readable s) (are_fields_readable 0 fs) a) hs (same_tail e))

-- The same of a tree.
pub read-or-upon : {n : Notation} {s : Shape} {t : Tree} (v : Value) → Met n s (Some t) v → DecodesTo n s (Some t) (adapted s v) ⊎ ((p : Path) × (w : Cause) × ComesUpon n s t p w × IsUnknown w)
read-or-upon v (inl d) = inl d
read-or-upon {n} {s} v (inr (u, e, p, w, h, k)) = inr (p, w, subst (λ x. ComesUpon n s x p w) (sym (some_tree e)) h, k)
