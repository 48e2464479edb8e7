-- A shape of which there is no example has no values.
use Rattle.std.proofs.Common.{◌≡◌, refl, ap, sym, subst, ◌∙◌, arith, ℕ, zero, suc, ◌+◌, ◌≤◌, ◌<◌, ℤ, pos, negsuc, ◌+ℤ◌, ◌≤ℤ◌, List, [], ◌∷◌, get_or, length, Bool, true, false, ◌&&◌, if◌then◌else◌, ◌⊎◌, inl, inr, Option, Some, None}
use Rattle.std.proofs.Math.Path.{path_j, subst_refl}
use Rattle.std.proofs.lemmas.Int.{ints}
use Rattle.std.specs.Prelude.{option_map}
use Rattle.asn_core.specs.declared.tag.Tag.{Tag}
use Rattle.asn_dynamic_values.specs.DynView.{members_named}
use Rattle.asn_example_values.specs.Examples.{added_alternatives_example, added_members_example, alternatives_example, example, item_at, joined, leaf_example, member_example, members_example, number_example, or_else, with_member}
use Rattle.asn_model.specs.Range.{is_between}
use Rattle.asn_model.specs.Readable.{all_field_names, are_added_alternatives_readable, are_added_fields_readable, are_alternatives_readable, are_distinguishable, are_fields_readable, are_identifiers, has_alternative, is_readable, suits}
use Rattle.asn_model.specs.Shape.{Shape, SeqKind, Fields, FieldAdditions, Alternatives, AlternativeAdditions, Presence, all_alternatives, all_items, are_distinct, is_item, join_alternatives, join_fields}
use Rattle.asn_model.specs.Value.{Fits, FitsAlternative, FitsFields, Slots, Value, is_leaf_of, may_lack}
use Rattle.asn_model.proofs.Ranges.{between, inside}
use Rattle.asn_model.proofs.Readables.{and-left, and-right}
use Rattle.asn_parts.specs.Closed.{AreReadable, IsPart, closed, closed_alternatives, closed_fields, closed_in}
use Rattle.asn_parts.proofs.Closing.{back-is, back-meant, body-closed, closed-none, part-body}

-- There is something, and there is nothing.
some : {A P : Type 0} {a : A} → ◌≡◌ {A = Option A} (Some a) None → P
some e = cc e

untrue : {P : Type 0} → false ≡ true → P
untrue e = cc e

-- How many steps show that a value is one of a shape.
abbrev mutual
  height : {s : Shape} {v : Value} → Fits s v → ℕ
  height (Fits.fits_leaf e) = 0
  height (Fits.fits_members h) = suc (fields_height h)
  height (Fits.fits_list h) = 0
  height (Fits.fits_set h k) = 0
  height (Fits.fits_table h k) = 0
  height (Fits.fits_choice h) = suc (alternative_height h)
  height (Fits.fits_loop h) = suc (height h)

  fields_height : {fs : Fields} {ms : Slots} → FitsFields fs ms → ℕ
  fields_height FitsFields.fits_end = 0
  fields_height (FitsFields.fits_present d e h) = suc (height d + fields_height h)
  fields_height (FitsFields.fits_absent e h) = suc (fields_height h)

  alternative_height : {alts : Alternatives} {i : List ℕ} {v : Value} → FitsAlternative alts i v → ℕ
  alternative_height (FitsAlternative.fits_here d) = suc (height d)
  alternative_height (FitsAlternative.fits_later h) = suc (alternative_height h)

-- The same shape takes as many.
height-same : {s t : Shape} {v : Value} (p : s ≡ t) (d : Fits s v) → height (subst (λ x. Fits x v) p d) ≡ height d
height-same {s} {t} {v} p d = path_j (λ t q. height (subst (λ x. Fits x v) q d) ≡ height d) (ap height (subst_refl (λ x. Fits x v) d)) p

-- No loop around has a value in so few steps.
abbrev Void : ℕ → List Shape → Type 0
Void n env = (k : ℕ) → k < length env → (w : Value) (d : Fits (get_or env k Shape.null) w) → height d ≤ n → ⊥

void-less : (n : ℕ) (env : List Shape) → Void (suc n) env → Void n env
void-less n env void k below w d few = void k below w d (omega (arith, few))

void-more : (n : ℕ) (r : Shape) (env : List Shape) → ((w : Value) (d : Fits r w) → height d ≤ n → ⊥) → Void n env → Void n (r ∷ env)
void-more n r env none void zero below w d few = none w d few
void-more n r env none void (suc k) below w d few = void k (omega (arith, below)) w d few

same-default : (env : List Shape) (k : ℕ) (a b : Shape) → k < length env → get_or env k a ≡ get_or env k b
same-default [] k a b below = absurd (omega (arith, below))
same-default (s ∷ env) zero a b below = refl
same-default (s ∷ env) (suc k) a b below = same-default env k a b (omega (arith, below))

split : {A B P : Type 0} → A ⊎ B → (A → P) → (B → P) → P
split (inl a) f g = f a
split (inr b) f g = g b

-- Numbers.
within-none : (least greatest n x : ℤ) (b : Bool) → is_between least greatest n ≡ b → ◌≡◌ {A = Option Value} (if b then Some (Value.int n) else None) None → least ≤ℤ n → n ≤ℤ greatest → ⊥
within-none least greatest n x true h e low high = some e
within-none least greatest n x false h e low high = let c = between least greatest n low high in untrue (sym h ∙ c)

number-none : (least greatest x : ℤ) → number_example false least greatest ≡ None → least ≤ℤ x → x ≤ℤ greatest → ⊥
number-none (pos m) (pos g) x e low high = within-none (pos m) (pos g) (pos (m + 0)) x (is_between (pos m) (pos g) (pos (m + 0))) refl e (omega (arith, ints)) (omega (arith, ints))
number-none (negsuc m) (pos g) x e low high = within-none (negsuc m) (pos g) (pos 0) x (is_between (negsuc m) (pos g) (pos 0)) refl e (omega (arith, ints)) (omega (arith, ints))
number-none least (negsuc g) x e low high = within-none least (negsuc g) (negsuc g +ℤ pos 0) x (is_between least (negsuc g) (negsuc g +ℤ pos 0)) refl e (omega (arith, ints)) (omega (arith, ints))

-- Items.
item-none : (items : List (List ℕ)) (added : Option (List (List ℕ))) (i : List ℕ) → option_map Value.item (item_at items added 0) ≡ None → is_item (all_items items added) i ≡ true → ⊥
item-none (n ∷ items) added i e h = some e
item-none [] None i e h = untrue h
item-none [] (Some []) i e h = untrue h
item-none [] (Some (n ∷ more)) i e h = some e

leaf-none : (s : Shape) (v : Value) → leaf_example false s ≡ None → is_leaf_of s v ≡ true → ⊥
leaf-none (Shape.int least greatest width) (Value.int x) e h = let at = inside least greatest x h in number-none least greatest x e at.0 at.1
leaf-none (Shape.enum items added) (Value.item i) e h = item-none items added i e h
leaf-none Shape.null v e h = some e
leaf-none Shape.boolean v e h = some e
leaf-none (Shape.bits size) v e h = some e
leaf-none Shape.octets v e h = some e
leaf-none Shape.any v e h = some e
leaf-none Shape.oid v e h = some e
leaf-none (Shape.text a) v e h = some e
leaf-none Shape.bmp v e h = some e
leaf-none Shape.utc v e h = some e
leaf-none Shape.gen v e h = some e
leaf-none Shape.day v e h = some e
leaf-none Shape.decimal v e h = some e
leaf-none s v e h = untrue h

-- Of both lists of members one isn't there.
joined-none : (a b : Option (List (List ℕ × Option Value))) → joined a b ≡ None → (a ≡ None) ⊎ (b ≡ None)
joined-none None b e = inl refl
joined-none (Some l) None e = inr refl
joined-none (Some l) (Some k) e = some e

as_value-none : (o : Option (List (List ℕ × Option Value))) → option_map (λ ms. Value.members (members_named ms)) o ≡ None → o ≡ None
as_value-none None e = refl
as_value-none (Some ms) e = some e

-- A component has to be present and has no value, or members behind it aren't there.
required-none : (n : List ℕ) (b : Bool) (more : Option (List (List ℕ × Option Value))) → (if b then option_map (λ l. (n, None) ∷ l) more else None) ≡ None → (b ≡ false) ⊎ (more ≡ None)
required-none n false more e = inl refl
required-none n true None e = inr refl
required-none n true (Some l) e = some e

with-none : (n : List ℕ) (p : Presence) (o : Option Value) (more : Option (List (List ℕ × Option Value))) → with_member n p o more ≡ None → ((o ≡ None) × may_lack p ≡ false) ⊎ (more ≡ None)
with-none n p (Some v) None e = inr refl
with-none n p (Some v) (Some l) e = some e
with-none n p None more e = first-none (required-none n (may_lack p) more e)
  where
    first-none : (may_lack p ≡ false) ⊎ (more ≡ None) → ((◌≡◌ {A = Option Value} None None) × may_lack p ≡ false) ⊎ (more ≡ None)
    first-none (inl f) = inl (refl, f)
    first-none (inr f) = inr f

lacking-none : (p : Presence) (a b : Option Value) → member_example false p a b ≡ None → may_lack p ≡ false → (a ≡ None)
lacking-none Presence.required a b e f = e
lacking-none Presence.optional a b e f = let d : true ≡ false = f in cc d
lacking-none (Presence.default d) a b e f = let c : true ≡ false = f in cc c

either-none : (a b : Option Value) → or_else a b ≡ None → (a ≡ None) × (b ≡ None)
either-none None b e = (refl, e)
either-none (Some v) b e = some e

choice-none : (i : List ℕ) (o : Option Value) → option_map (Value.choice i) o ≡ None → o ≡ None
choice-none i None e = refl
choice-none i (Some v) e = some e

both : {P : Type 0} → true ≡ false → P
both e = cc e

-- Fields with values in at most so many steps.
record FitsFew (gs : Fields) (n : ℕ) : Type 0 where
  slots : Slots
  fits : FitsFields gs slots
  few : fields_height fits ≤ n

-- Of fields of both kinds each kind has values.
front : (fs gs : Fields) (ms : Slots) (h : FitsFields (join_fields fs gs) ms) → FitsFew fs (fields_height h)
front Fields.no_fields gs ms h = record { slots = Slots.no_slots; fits = FitsFields.fits_end; few = omega arith }
front (Fields.field m t p s fs) gs ms (FitsFields.fits_present {v = v} {ms = rest} d e h) =
    let f = front fs gs rest h in record { slots = Slots.present m v f.slots; fits = FitsFields.fits_present d e f.fits; few = omega (arith, f.few) }
front (Fields.field m t p s fs) gs ms (FitsFields.fits_absent {ms = rest} e h) =
    let f = front fs gs rest h in record { slots = Slots.absent m f.slots; fits = FitsFields.fits_absent e f.fits; few = omega (arith, f.few) }

past : (fs gs : Fields) (ms : Slots) (h : FitsFields (join_fields fs gs) ms) → FitsFew gs (fields_height h)
past Fields.no_fields gs ms h = record { slots = ms; fits = h; few = omega arith }
past (Fields.field m t p s fs) gs ms (FitsFields.fits_present {ms = rest} d e h) = let f = past fs gs rest h in record { slots = f.slots; fits = f.fits; few = omega (arith, f.few) }
past (Fields.field m t p s fs) gs ms (FitsFields.fits_absent {ms = rest} e h) = let f = past fs gs rest h in record { slots = f.slots; fits = f.fits; few = omega (arith, f.few) }

-- An alternative with a value in at most so many steps.
record FitsChosen (alts : Alternatives) (n : ℕ) : Type 0 where
  identifier : List ℕ
  payload : Value
  fits : FitsAlternative alts identifier payload
  few : alternative_height fits ≤ n

later : (j : List ℕ) (t : Tag) (s : Shape) (alts more : Alternatives) (n : ℕ) → FitsChosen alts n ⊎ FitsChosen more n → FitsChosen (Alternatives.alternative j t s alts) (suc n) ⊎ FitsChosen more (suc n)
later j t s alts more n (inl c) = inl (record { identifier = c.identifier; payload = c.payload; fits = FitsAlternative.fits_later c.fits; few = omega (arith, c.few) })
later j t s alts more n (inr c) = inr (record { identifier = c.identifier; payload = c.payload; fits = c.fits; few = omega (arith, c.few) })

-- An alternative of both kinds is one of either.
chosen : (alts more : Alternatives) (i : List ℕ) (v : Value) (h : FitsAlternative (join_alternatives alts more) i v) → FitsChosen alts (alternative_height h) ⊎ FitsChosen more (alternative_height h)
chosen Alternatives.no_alternatives more i v h = inr (record { identifier = i; payload = v; fits = h; few = omega arith })
chosen (Alternatives.alternative j t s alts) more i v (FitsAlternative.fits_here d) = inl (record { identifier = j; payload = v; fits = FitsAlternative.fits_here d; few = omega arith })
chosen (Alternatives.alternative j t s alts) more i v (FitsAlternative.fits_later h) = later j t s alts more (alternative_height h) (chosen alts more i v h)

-- What can be read of a SEQUENCE or SET.
seq-parts : (kind : SeqKind) (fs : Fields) (added : FieldAdditions) → is_readable (Shape.seq kind fs added) ≡ true → (are_fields_readable 0 fs ≡ true) × (are_added_fields_readable 0 added ≡ true)
seq-parts kind fs added e =
    let parts = and-right (are_identifiers (all_field_names fs added) && are_distinct (all_field_names fs added)) (are_fields_readable 0 fs && are_added_fields_readable 0 added) e in
    (and-left (are_fields_readable 0 fs) (are_added_fields_readable 0 added) parts, and-right (are_fields_readable 0 fs) (are_added_fields_readable 0 added) parts)

choice-parts : (alts : Alternatives) (added : AlternativeAdditions) → is_readable (Shape.choice alts added) ≡ true → (are_alternatives_readable 0 alts ≡ true) × (are_added_alternatives_readable 0 added ≡ true)
choice-parts alts added e =
    let parts = and-right (has_alternative (all_alternatives alts added) && are_distinguishable (all_alternatives alts added)) (are_alternatives_readable 0 alts && are_added_alternatives_readable 0 added) e in
    (and-left (are_alternatives_readable 0 alts) (are_added_alternatives_readable 0 added) parts, and-right (are_alternatives_readable 0 alts) (are_added_alternatives_readable 0 added) parts)

field-parts : (p : Presence) (s : Shape) (fs : Fields) → ((suits p s && is_readable s) && are_fields_readable 0 fs) ≡ true → (is_readable s ≡ true) × (are_fields_readable 0 fs ≡ true)
field-parts p s fs e = (and-right (suits p s) (is_readable s) (and-left (suits p s && is_readable s) (are_fields_readable 0 fs) e), and-right (suits p s && is_readable s) (are_fields_readable 0 fs) e)

mutual
  no-value : (n : ℕ) (s : Shape) (env : List Shape) (v : Value) (d : Fits (closed env s) v) → IsPart env s → height d ≤ n → Void n env → example false false s ≡ None → ⊥
  no-value n (Shape.seq kind fs added) env v (Fits.fits_leaf h) part few void e = untrue h
  no-value zero (Shape.seq kind fs added) env v (Fits.fits_members h) part few void e = absurd (omega (arith, few))
  no-value (suc n) (Shape.seq kind fs FieldAdditions.closed_fields) env v (Fits.fits_members {ms = ms} h) part few void e =
      split (joined-none (members_example false fs) (Some []) (as_value-none (joined (members_example false fs) (Some [])) e))
      (λ f. no-fields n fs env ms h part.0 (seq-parts kind (closed_fields 0 env fs) FieldAdditions.closed_fields part.1).0 (omega (arith, few)) (void-less n env void) f) (λ f. some f)
  no-value (suc n) (Shape.seq kind fs (FieldAdditions.extended_fields gs)) env v (Fits.fits_members {ms = ms} h) part few void e =
      let read = seq-parts kind (closed_fields 0 env fs) (FieldAdditions.extended_fields (closed_fields 0 env gs)) part.1 in
      let a = front (closed_fields 0 env fs) (closed_fields 0 env gs) ms h in
      let b = past (closed_fields 0 env fs) (closed_fields 0 env gs) ms h in
      split (joined-none (members_example false fs) (members_example false gs) (as_value-none (joined (members_example false fs) (members_example false gs)) e))
      (λ f. no-fields n fs env a.slots a.fits part.0 read.0 (omega (arith, few, a.few)) (void-less n env void) f)
      (λ f. no-fields n gs env b.slots b.fits part.0 read.1 (omega (arith, few, b.few)) (void-less n env void) f)
  no-value n (Shape.choice alts added) env v (Fits.fits_leaf h) part few void e = untrue h
  no-value zero (Shape.choice alts added) env v (Fits.fits_choice h) part few void e = absurd (omega (arith, few))
  no-value (suc n) (Shape.choice alts AlternativeAdditions.closed_alternatives) env v (Fits.fits_choice {i = i} {v = w} h) part few void e =
      no-alternative n alts env i w h part.0 (choice-parts (closed_alternatives 0 env alts) AlternativeAdditions.closed_alternatives part.1).0 (omega (arith, few)) (void-less n env void) (either-none (alternatives_example false alts) None e).0
  no-value (suc n) (Shape.choice alts (AlternativeAdditions.extended_alternatives more)) env v (Fits.fits_choice {i = i} {v = w} h) part few void e =
      let read = choice-parts (closed_alternatives 0 env alts) (AlternativeAdditions.extended_alternatives (closed_alternatives 0 env more)) part.1 in
      let none = either-none (alternatives_example false alts) (alternatives_example false more) e in
      split (chosen (closed_alternatives 0 env alts) (closed_alternatives 0 env more) i w h)
      (λ c. no-alternative n alts env c.identifier c.payload c.fits part.0 read.0 (omega (arith, few, c.few)) (void-less n env void) none.0)
      (λ c. no-alternative n more env c.identifier c.payload c.fits part.0 read.1 (omega (arith, few, c.few)) (void-less n env void) none.1)
  no-value n (Shape.loop s) env v (Fits.fits_leaf h) part few void e = untrue h
  no-value zero (Shape.loop s) env v (Fits.fits_loop h) part few void e = absurd (omega (arith, few))
  no-value (suc n) (Shape.loop s) env v (Fits.fits_loop h) part few void e =
      let r = Shape.loop (closed_in 1 env s) in
      let same = sym (body-closed s env part.0) in
      no-value n s (r ∷ env) v (subst (λ x. Fits x v) same h) (part-body s env part.0 part.1) (omega (arith, few, height-same same h))
      (void-more n r env (λ w d less. no-value n (Shape.loop s) env w d part less (void-less n env void) e) (void-less n env void)) e
  no-value n (Shape.back k) env v d part few void e =
      let below = back-meant env k part.1 in
      let same = back-is env k ∙ same-default env k (Shape.back k) Shape.null below in
      void k below v (subst (λ x. Fits x v) same d) (omega (arith, few, height-same same d))
  no-value n (Shape.list_of s) env v d part few void e = some e
  no-value n (Shape.set_of s) env v d part few void e = some e
  no-value n (Shape.table s) env v d part few void e = some e
  no-value n Shape.null env v d part few void e = some e
  no-value n Shape.boolean env v d part few void e = some e
  no-value n (Shape.int least greatest width) env v (Fits.fits_leaf h) part few void e = leaf-none (Shape.int least greatest width) v e h
  no-value n (Shape.bits size) env v d part few void e = some e
  no-value n Shape.octets env v d part few void e = some e
  no-value n Shape.any env v d part few void e = some e
  no-value n Shape.oid env v d part few void e = some e
  no-value n (Shape.text a) env v d part few void e = some e
  no-value n Shape.bmp env v d part few void e = some e
  no-value n Shape.utc env v d part few void e = some e
  no-value n Shape.gen env v d part few void e = some e
  no-value n Shape.day env v d part few void e = some e
  no-value n Shape.decimal env v d part few void e = some e
  no-value n (Shape.enum items added) env v (Fits.fits_leaf h) part few void e = leaf-none (Shape.enum items added) v e h

  no-fields : (n : ℕ) (fs : Fields) (env : List Shape) (ms : Slots) (h : FitsFields (closed_fields 0 env fs) ms) → AreReadable env → are_fields_readable 0 (closed_fields 0 env fs) ≡ true → fields_height h ≤ n → Void n env → members_example false fs ≡ None → ⊥
  no-fields n Fields.no_fields env ms h all read few void e = some e
  no-fields zero (Fields.field m t p s fs) env ms (FitsFields.fits_present d k h) all read few void e = absurd (omega (arith, few))
  no-fields zero (Fields.field m t p s fs) env ms (FitsFields.fits_absent k h) all read few void e = absurd (omega (arith, few))
  no-fields (suc n) (Fields.field m t p s fs) env ms (FitsFields.fits_present {v = v} {ms = rest} d k h) all read few void e =
      let parts = field-parts p (closed env s) (closed_fields 0 env fs) read in
      let a = example false false s in
      let b = example false true s in
      split (with-none m p (member_example false p a b) (members_example false fs) e)
      (λ f. no-value n s env v d (all, parts.0) (omega (arith, few)) (void-less n env void) (lacking-none p a b f.0 f.1))
      (λ f. no-fields n fs env rest h all parts.1 (omega (arith, few)) (void-less n env void) f)
  no-fields (suc n) (Fields.field m t p s fs) env ms (FitsFields.fits_absent {ms = rest} k h) all read few void e =
      let parts = field-parts p (closed env s) (closed_fields 0 env fs) read in
      split (with-none m p (member_example false p (example false false s) (example false true s)) (members_example false fs) e)
      (λ f. both (sym k ∙ f.1)) (λ f. no-fields n fs env rest h all parts.1 (omega (arith, few)) (void-less n env void) f)

  no-alternative : (n : ℕ) (alts : Alternatives) (env : List Shape) (i : List ℕ) (v : Value) (h : FitsAlternative (closed_alternatives 0 env alts) i v) → AreReadable env → are_alternatives_readable 0 (closed_alternatives 0 env alts) ≡ true → alternative_height h ≤ n → Void n env → alternatives_example false alts ≡ None → ⊥
  no-alternative n Alternatives.no_alternatives env i v h all read few void e = elim h [ ]
  no-alternative zero (Alternatives.alternative j t s alts) env i v (FitsAlternative.fits_here d) all read few void e = absurd (omega (arith, few))
  no-alternative zero (Alternatives.alternative j t s alts) env i v (FitsAlternative.fits_later h) all read few void e = absurd (omega (arith, few))
  no-alternative (suc n) (Alternatives.alternative j t s alts) env i v (FitsAlternative.fits_here d) all read few void e =
      let none = either-none (option_map (Value.choice j) (example false false s)) (alternatives_example false alts) e in
      no-value n s env v d (all, and-left (is_readable (closed env s)) (are_alternatives_readable 0 (closed_alternatives 0 env alts)) read) (omega (arith, few)) (void-less n env void) (choice-none j (example false false s) none.0)
  no-alternative (suc n) (Alternatives.alternative j t s alts) env i v (FitsAlternative.fits_later h) all read few void e =
      let none = either-none (option_map (Value.choice j) (example false false s)) (alternatives_example false alts) e in
      no-alternative n alts env i v h all (and-right (is_readable (closed env s)) (are_alternatives_readable 0 (closed_alternatives 0 env alts)) read) (omega (arith, few)) (void-less n env void) none.1

-- A shape without a smallest value has none.
none-smallest : (s : Shape) → is_readable s ≡ true → example false false s ≡ None → (v : Value) → Fits s v → ⊥
none-smallest s read e v d =
    let same = sym (closed-none s 0) in
    let f = subst (λ x. Fits x v) same d in
    no-value (height f) s [] v f (tt, ap is_readable (closed-none s 0) ∙ read) (omega arith) (λ k below w g few. absurd (omega (arith, below))) e

-- Where there is no full value either, there is no smallest one.
joined-last : (a : Option (List (List ℕ × Option Value))) → joined a None ≡ None
joined-last None = refl
joined-last (Some l) = refl

if-none : {A : Type 0} (b : Bool) → ◌≡◌ {A = Option A} (if b then None else None) None
if-none true = refl
if-none false = refl

with-last : (n : List ℕ) (p : Presence) (o : Option Value) → with_member n p o None ≡ None
with-last n p (Some v) = refl
with-last n p None = if-none (may_lack p)

with-lacking : (n : List ℕ) (p : Presence) (a b : Option Value) (more : Option (List (List ℕ × Option Value))) → may_lack p ≡ false → a ≡ None → with_member n p (member_example false p a b) more ≡ None
with-lacking n Presence.required a b more f e = ap (λ o. with_member n Presence.required o more) e
with-lacking n Presence.optional a b more f e = both f
with-lacking n (Presence.default d) a b more f e = both f

full-lacking : (p : Presence) (a b : Option Value) → member_example true p a b ≡ None → may_lack p ≡ false → a ≡ None
full-lacking Presence.required a b e f = e
full-lacking Presence.optional a b e f = both f
full-lacking (Presence.default d) a b e f = both f

mutual
  full-none : (s : Shape) (other : Bool) → example true other s ≡ None → example false other s ≡ None
  full-none (Shape.seq kind fs added) other e =
      split (joined-none (members_example true fs) (added_members_example true added) (as_value-none (joined (members_example true fs) (added_members_example true added)) e))
      (λ f. ap (λ m. option_map (λ ms. Value.members (members_named ms)) (joined m (added_members_example false added))) (members-none fs f))
      (λ f. ap (option_map (λ ms. Value.members (members_named ms))) (ap (joined (members_example false fs)) (added_members-none added f) ∙ joined-last (members_example false fs)))
  full-none (Shape.choice alts added) other e =
      let none = either-none (alternatives_example true alts) (added_alternatives_example true added) e in
      ap (λ a. or_else a (added_alternatives_example false added)) (alternatives-none alts none.0) ∙ added_alternatives-none added none.1
  full-none (Shape.loop s) other e = full-none s other e
  full-none (Shape.list_of s) other e = some e
  full-none (Shape.set_of s) other e = some e
  full-none (Shape.table s) other e = some e
  full-none s other e = e

  members-none : (fs : Fields) → members_example true fs ≡ None → members_example false fs ≡ None
  members-none Fields.no_fields e = some e
  members-none (Fields.field n t p s fs) e =
      let a = example false false s in
      let b = example false true s in
      split (with-none n p (member_example true p (example true false s) (example true true s)) (members_example true fs) e)
      (λ f. with-lacking n p a b (members_example false fs) f.1 (full-none s false (full-lacking p (example true false s) (example true true s) f.0 f.1)))
      (λ f. ap (with_member n p (member_example false p a b)) (members-none fs f) ∙ with-last n p (member_example false p a b))

  added_members-none : (added : FieldAdditions) → added_members_example true added ≡ None → added_members_example false added ≡ None
  added_members-none FieldAdditions.closed_fields e = some e
  added_members-none (FieldAdditions.extended_fields fs) e = members-none fs e

  alternatives-none : (alts : Alternatives) → alternatives_example true alts ≡ None → alternatives_example false alts ≡ None
  alternatives-none Alternatives.no_alternatives e = refl
  alternatives-none (Alternatives.alternative i t s alts) e =
      let none = either-none (option_map (Value.choice i) (example true false s)) (alternatives_example true alts) e in
      ap (λ o. or_else (option_map (Value.choice i) o) (alternatives_example false alts)) (full-none s false (choice-none i (example true false s) none.0)) ∙ alternatives-none alts none.1

  added_alternatives-none : (added : AlternativeAdditions) → added_alternatives_example true added ≡ None → added_alternatives_example false added ≡ None
  added_alternatives-none AlternativeAdditions.closed_alternatives e = refl
  added_alternatives-none (AlternativeAdditions.extended_alternatives alts) e = alternatives-none alts e

-- A shape without an example has no values.
pub no_example : (full : Bool) (s : Shape) → is_readable s ≡ true → example full false s ≡ None → (v : Value) → Fits s v → ⊥
no_example false s read e = none-smallest s read e
no_example true s read e = none-smallest s read (full-none s false e)
