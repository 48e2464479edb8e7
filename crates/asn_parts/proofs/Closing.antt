-- What a part within loops is, where one of them is opened.
use Rattle.std.proofs.Common.{◌&&◌, ◌≡◌, refl, ap, sym, ◌∙◌, arith, ℕ, zero, suc, ◌-◌, ◌≤◌, ◌<◌, nat_eq, nat_lt, nat_le, Bool, true, false, if◌then◌else◌, List, [], ◌∷◌, length, get_or, drop, Option, Some, None}
use Rattle.std.proofs.lemmas.Bool.{ltb-true, ltb-false, le-ltb, eqb-true, eq-eqb}
use Rattle.asn_model.specs.Leaf.{kind_of}
use Rattle.asn_model.specs.Readable.{is_readable, is_readable_in, are_fields_readable, are_added_fields_readable, are_alternatives_readable, are_added_alternatives_readable, all_field_names, are_identifiers, suits, is_entry, has_alternative, are_distinguishable}
use Rattle.asn_model.specs.Shape.{Shape, Fields, FieldAdditions, Alternatives, AlternativeAdditions, fill, fill_fields, fill_added_fields, fill_alternatives, fill_added_alternatives, unfold_loop, are_distinct, all_alternatives}
use Rattle.asn_model.specs.declared.leaves.LeafKind.{LeafKind}
use Rattle.asn_model.proofs.Readables.{and-left, and-right, unfolded-readable}
use Rattle.asn_parts.specs.Closed.{closed_in, closed_fields, closed_added_fields, closed_alternatives, closed_added_alternatives, closed, AreReadable, IsPart}

other-back : (b : Bool) (j k : ℕ) (r : Shape) → nat_eq j k ≡ b → j < k → (if b then r else Shape.back j) ≡ Shape.back j
other-back true j k r e h = let same = eqb-true j k e in absurd (omega (arith, same, h))
other-back false j k r e h = refl

-- A shape that can be read within so many loops has no `back` beyond them.
mutual
  pub fill-beyond : (s : Shape) (loops bare k : ℕ) (r : Shape) → is_readable_in loops bare s ≡ true → loops ≤ k → fill s k r ≡ s
  fill-beyond (Shape.seq kind fs added) loops bare k r e h =
      let names = are_identifiers (all_field_names fs added) && are_distinct (all_field_names fs added) in
      let parts = and-right names (are_fields_readable loops fs && are_added_fields_readable loops added) e in
      let f = fields-beyond fs loops k r (and-left (are_fields_readable loops fs) (are_added_fields_readable loops added) parts) h in
      let g = added_fields-beyond added loops k r (and-right (are_fields_readable loops fs) (are_added_fields_readable loops added) parts) h in
      (λ i. Shape.seq kind (f i) (g i))
  fill-beyond (Shape.list_of s) loops bare k r e h = ap Shape.list_of (fill-beyond s loops 0 k r e h)
  fill-beyond (Shape.set_of s) loops bare k r e h = ap Shape.set_of (fill-beyond s loops 0 k r e h)
  fill-beyond (Shape.table s) loops bare k r e h = ap Shape.table (fill-beyond s loops 0 k r (and-right (is_entry s) (is_readable_in loops 0 s) e) h)
  fill-beyond (Shape.choice alts added) loops bare k r e h =
      let names = has_alternative (all_alternatives alts added) && are_distinguishable (all_alternatives alts added) in
      let parts = and-right names (are_alternatives_readable loops alts && are_added_alternatives_readable loops added) e in
      let f = alternatives-beyond alts loops k r (and-left (are_alternatives_readable loops alts) (are_added_alternatives_readable loops added) parts) h in
      let g = added_alternatives-beyond added loops k r (and-right (are_alternatives_readable loops alts) (are_added_alternatives_readable loops added) parts) h in
      (λ i. Shape.choice (f i) (g i))
  fill-beyond (Shape.loop s) loops bare k r e h = ap Shape.loop (fill-beyond s (suc loops) (suc bare) (suc k) r e (omega (arith, h)))
  fill-beyond (Shape.back j) loops bare k r e h =
      let below = ltb-true j loops (and-right (nat_le bare j) (nat_lt j loops) e) in
      other-back (nat_eq j k) j k r refl (omega (arith, below, h))
  fill-beyond s loops bare k r e h = refl

  fields-beyond : (fs : Fields) (loops k : ℕ) (r : Shape) → are_fields_readable loops fs ≡ true → loops ≤ k → fill_fields fs k r ≡ fs
  fields-beyond Fields.no_fields loops k r e h = refl
  fields-beyond (Fields.field n t p s fs) loops k r e h =
      let first = and-left (suits p s && is_readable_in loops 0 s) (are_fields_readable loops fs) e in
      let f = fill-beyond s loops 0 k r (and-right (suits p s) (is_readable_in loops 0 s) first) h in
      let g = fields-beyond fs loops k r (and-right (suits p s && is_readable_in loops 0 s) (are_fields_readable loops fs) e) h in
      (λ i. Fields.field n t p (f i) (g i))

  added_fields-beyond : (added : FieldAdditions) (loops k : ℕ) (r : Shape) → are_added_fields_readable loops added ≡ true → loops ≤ k → fill_added_fields added k r ≡ added
  added_fields-beyond FieldAdditions.closed_fields loops k r e h = refl
  added_fields-beyond (FieldAdditions.extended_fields fs) loops k r e h = ap FieldAdditions.extended_fields (fields-beyond fs loops k r e h)

  alternatives-beyond : (alts : Alternatives) (loops k : ℕ) (r : Shape) → are_alternatives_readable loops alts ≡ true → loops ≤ k → fill_alternatives alts k r ≡ alts
  alternatives-beyond Alternatives.no_alternatives loops k r e h = refl
  alternatives-beyond (Alternatives.alternative n t s alts) loops k r e h =
      let f = fill-beyond s loops 0 k r (and-left (is_readable_in loops 0 s) (are_alternatives_readable loops alts) e) h in
      let g = alternatives-beyond alts loops k r (and-right (is_readable_in loops 0 s) (are_alternatives_readable loops alts) e) h in
      (λ i. Alternatives.alternative n t (f i) (g i))

  added_alternatives-beyond : (added : AlternativeAdditions) (loops k : ℕ) (r : Shape) → are_added_alternatives_readable loops added ≡ true → loops ≤ k → fill_added_alternatives added k r ≡ added
  added_alternatives-beyond AlternativeAdditions.closed_alternatives loops k r e h = refl
  added_alternatives-beyond (AlternativeAdditions.extended_alternatives alts) loops k r e h = ap AlternativeAdditions.extended_alternatives (alternatives-beyond alts loops k r e h)

-- The loop at a place can be read, and any other default can't be told apart.
get-beyond : (env : List Shape) (i k : ℕ) (r d : Shape) → AreReadable env → i < length env → fill (get_or env i d) k r ≡ get_or env i d
get-beyond [] i k r d all h = absurd (omega (arith, h))
get-beyond (s ∷ env) zero k r d all h = fill-beyond s 0 0 k r all.0 (omega arith)
get-beyond (s ∷ env) (suc i) k r d all h = get-beyond env i k r d all.1 (omega (arith, h))

get-past : (env : List Shape) (i : ℕ) (d : Shape) → length env ≤ i → get_or env i d ≡ d
get-past [] i d h = refl
get-past (s ∷ env) zero d h = absurd (omega (arith, h))
get-past (s ∷ env) (suc i) d h = get-past env i d (omega (arith, h))

same-back : (b : Bool) (j k : ℕ) (r d : Shape) → nat_eq j k ≡ b → j ≡ k → (if b then r else d) ≡ r
same-back true j k r d e h = refl
same-back false j k r d e h = absurd (grind (arith, eq-eqb))

not-eq : (j k : ℕ) → k < j → nat_eq j k ≡ false
not-eq j k h = by (nat_eq j k) refl
  where
    by : (b : Bool) → nat_eq j k ≡ b → nat_eq j k ≡ false
    by true e = let same = eqb-true j k e in absurd (omega (arith, same, h))
    by false e = e

past-back : (env : List Shape) (i j k : ℕ) (r : Shape) → AreReadable env → k < j → fill (get_or env i (Shape.back j)) k r ≡ get_or env i (Shape.back j)
past-back [] i j k r all h = ap (λ b. if b then r else Shape.back j) (not-eq j k h)
past-back (s ∷ env) zero j k r all h = fill-beyond s 0 0 k r all.0 (omega arith)
past-back (s ∷ env) (suc i) j k r all h = past-back env i j k r all.1 h

back-closed : (j k : ℕ) (env : List Shape) (r : Shape) (a b : Bool) → AreReadable env → nat_lt j (suc k) ≡ a → nat_lt j k ≡ b
    → fill (if a then Shape.back j else get_or env (j - suc k) (Shape.back j)) k r ≡ (if b then Shape.back j else get_or (r ∷ env) (j - k) (Shape.back j))
back-closed j k env r true true all e f = let h = ltb-true j k f in other-back (nat_eq j k) j k r refl h
back-closed j k env r true false all e f =
    let h = ltb-true j (suc k) e in
    let l = ltb-false j k f in
    let z : j - k ≡ 0 = omega (arith, h, l) in
    same-back (nat_eq j k) j k r (Shape.back j) refl (omega (arith, h, l)) ∙ ap (λ i. get_or (r ∷ env) i (Shape.back j)) (sym z)
back-closed j k env r false true all e f = let h = ltb-true j k f in let l = ltb-false j (suc k) e in absurd (omega (arith, h, l))
back-closed j k env r false false all e f =
    let l = ltb-false j (suc k) e in
    let z : j - k ≡ suc (j - suc k) = omega (arith, l) in
    past-back env (j - suc k) j k r all (omega (arith, l)) ∙ ap (λ i. get_or (r ∷ env) i (Shape.back j)) (sym z)

-- A part within one loop more is the part within the others, with that loop filled in.
mutual
  pub fill-closed : (s : Shape) (k : ℕ) (env : List Shape) (r : Shape) → AreReadable env → fill (closed_in (suc k) env s) k r ≡ closed_in k (r ∷ env) s
  fill-closed (Shape.seq kind fs added) k env r all = let f = fields-closed fs k env r all in let g = added_fields-closed added k env r all in (λ i. Shape.seq kind (f i) (g i))
  fill-closed (Shape.list_of s) k env r all = ap Shape.list_of (fill-closed s k env r all)
  fill-closed (Shape.set_of s) k env r all = ap Shape.set_of (fill-closed s k env r all)
  fill-closed (Shape.table s) k env r all = ap Shape.table (fill-closed s k env r all)
  fill-closed (Shape.choice alts added) k env r all = let f = alternatives-closed alts k env r all in let g = added_alternatives-closed added k env r all in (λ i. Shape.choice (f i) (g i))
  fill-closed (Shape.loop s) k env r all = ap Shape.loop (fill-closed s (suc k) env r all)
  fill-closed (Shape.back j) k env r all = back-closed j k env r (nat_lt j (suc k)) (nat_lt j k) all refl refl
  fill-closed s k env r all = refl

  fields-closed : (fs : Fields) (k : ℕ) (env : List Shape) (r : Shape) → AreReadable env → fill_fields (closed_fields (suc k) env fs) k r ≡ closed_fields k (r ∷ env) fs
  fields-closed Fields.no_fields k env r all = refl
  fields-closed (Fields.field n t p s fs) k env r all = let f = fill-closed s k env r all in let g = fields-closed fs k env r all in (λ i. Fields.field n t p (f i) (g i))

  added_fields-closed : (added : FieldAdditions) (k : ℕ) (env : List Shape) (r : Shape) → AreReadable env → fill_added_fields (closed_added_fields (suc k) env added) k r ≡ closed_added_fields k (r ∷ env) added
  added_fields-closed FieldAdditions.closed_fields k env r all = refl
  added_fields-closed (FieldAdditions.extended_fields fs) k env r all = ap FieldAdditions.extended_fields (fields-closed fs k env r all)

  alternatives-closed : (alts : Alternatives) (k : ℕ) (env : List Shape) (r : Shape) → AreReadable env → fill_alternatives (closed_alternatives (suc k) env alts) k r ≡ closed_alternatives k (r ∷ env) alts
  alternatives-closed Alternatives.no_alternatives k env r all = refl
  alternatives-closed (Alternatives.alternative n t s alts) k env r all = let f = fill-closed s k env r all in let g = alternatives-closed alts k env r all in (λ i. Alternatives.alternative n t (f i) (g i))

  added_alternatives-closed : (added : AlternativeAdditions) (k : ℕ) (env : List Shape) (r : Shape) → AreReadable env → fill_added_alternatives (closed_added_alternatives (suc k) env added) k r ≡ closed_added_alternatives k (r ∷ env) added
  added_alternatives-closed AlternativeAdditions.closed_alternatives k env r all = refl
  added_alternatives-closed (AlternativeAdditions.extended_alternatives alts) k env r all = ap AlternativeAdditions.extended_alternatives (alternatives-closed alts k env r all)

-- The body of a loop within that loop and the others is the loop, opened.
pub body-closed : (body : Shape) (env : List Shape) → AreReadable env → closed (Shape.loop (closed_in 1 env body) ∷ env) body ≡ unfold_loop (closed_in 1 env body)
body-closed body env all = sym (fill-closed body 0 env (Shape.loop (closed_in 1 env body)) all)

back-none : (j k : ℕ) (b : Bool) → (if b then Shape.back j else get_or [] (j - k) (Shape.back j)) ≡ Shape.back j
back-none j k true = refl
back-none j k false = refl

-- A part within no loop is itself.
mutual
  pub closed-none : (s : Shape) (k : ℕ) → closed_in k [] s ≡ s
  closed-none (Shape.seq kind fs added) k = let f = fields-none fs k in let g = added_fields-none added k in (λ i. Shape.seq kind (f i) (g i))
  closed-none (Shape.list_of s) k = ap Shape.list_of (closed-none s k)
  closed-none (Shape.set_of s) k = ap Shape.set_of (closed-none s k)
  closed-none (Shape.table s) k = ap Shape.table (closed-none s k)
  closed-none (Shape.choice alts added) k = let f = alternatives-none alts k in let g = added_alternatives-none added k in (λ i. Shape.choice (f i) (g i))
  closed-none (Shape.loop s) k = ap Shape.loop (closed-none s (suc k))
  closed-none (Shape.back j) k = back-none j k (nat_lt j k)
  closed-none s k = refl

  fields-none : (fs : Fields) (k : ℕ) → closed_fields k [] fs ≡ fs
  fields-none Fields.no_fields k = refl
  fields-none (Fields.field n t p s fs) k = let f = closed-none s k in let g = fields-none fs k in (λ i. Fields.field n t p (f i) (g i))

  added_fields-none : (added : FieldAdditions) (k : ℕ) → closed_added_fields k [] added ≡ added
  added_fields-none FieldAdditions.closed_fields k = refl
  added_fields-none (FieldAdditions.extended_fields fs) k = ap FieldAdditions.extended_fields (fields-none fs k)

  alternatives-none : (alts : Alternatives) (k : ℕ) → closed_alternatives k [] alts ≡ alts
  alternatives-none Alternatives.no_alternatives k = refl
  alternatives-none (Alternatives.alternative n t s alts) k = let f = closed-none s k in let g = alternatives-none alts k in (λ i. Alternatives.alternative n t (f i) (g i))

  added_alternatives-none : (added : AlternativeAdditions) (k : ℕ) → closed_added_alternatives k [] added ≡ added
  added_alternatives-none AlternativeAdditions.closed_alternatives k = refl
  added_alternatives-none (AlternativeAdditions.extended_alternatives alts) k = ap AlternativeAdditions.extended_alternatives (alternatives-none alts k)

-- The body of a loop is a part within that loop.
pub part-body : (body : Shape) (env : List Shape) → AreReadable env → is_readable (Shape.loop (closed_in 1 env body)) ≡ true → IsPart (Shape.loop (closed_in 1 env body) ∷ env) body
part-body body env all e = ((e, all), ap is_readable (body-closed body env all) ∙ unfolded-readable (closed_in 1 env body) e)

no-below : (j : ℕ) → nat_lt j 0 ≡ false
no-below j = le-ltb j 0 (omega arith)

-- A `back` within loops is the loop that it means.
pub back-is : (env : List Shape) (k : ℕ) → closed env (Shape.back k) ≡ get_or env k (Shape.back k)
back-is env k = ap (λ b. if b then Shape.back k else get_or env (k - 0) (Shape.back k)) (no-below k) ∙ ap (λ i. get_or env i (Shape.back k)) (omega arith)

and-false : (a b : Bool) → b ≡ false → (a && b) ≡ true → ⊥
and-false true true e h = let d : true ≡ false = e in cc d
and-false true false e h = let d : false ≡ true = h in cc d
and-false false b e h = let d : false ≡ true = h in cc d

meant : (env : List Shape) (k j : ℕ) → is_readable (get_or env k (Shape.back j)) ≡ true → k < length env
meant [] k j e = absurd (and-false (nat_le 0 j) (nat_lt j 0) (no-below j) e)
meant (s ∷ env) zero j e = omega arith
meant (s ∷ env) (suc k) j e = omega (arith, meant env k j e)

-- It means one of them.
pub back-meant : (env : List Shape) (k : ℕ) → is_readable (closed env (Shape.back k)) ≡ true → k < length env
back-meant env k e = meant env k k (ap is_readable (sym (back-is env k)) ∙ e)

pub readable-drop : (env : List Shape) (k : ℕ) → AreReadable env → AreReadable (drop k env)
readable-drop env zero all = all
readable-drop [] (suc k) all = tt
readable-drop (s ∷ env) (suc k) all = readable-drop env k all.1

pub head-drop : (env : List Shape) (k : ℕ) (r d : Shape) (rest : List Shape) → drop k env ≡ r ∷ rest → get_or env k d ≡ r
head-drop [] zero r d rest e = let x : [] ≡ r ∷ rest = e in cc x
head-drop [] (suc k) r d rest e = let x : [] ≡ r ∷ rest = e in cc x
head-drop (s ∷ env) zero r d rest e = cc e
head-drop (s ∷ env) (suc k) r d rest e = head-drop env k r d rest e

pub none-drop : (env : List Shape) (k : ℕ) → k < length env → [] ≡ drop k env → ⊥
none-drop [] k h e = omega (arith, h)
none-drop (s ∷ env) zero h e = let x : [] ≡ s ∷ env = e in cc x
none-drop (s ∷ env) (suc k) h e = none-drop env k (omega (arith, h)) e

-- A shape without parts is itself within any loops.
pub leaf-closed : (s : Shape) (k : LeafKind) (env : List Shape) → kind_of s ≡ Some k → closed env s ≡ s
leaf-closed (Shape.seq kind fs added) k env e = let d : ◌≡◌ {A = Option LeafKind} None (Some k) = e in cc d
leaf-closed (Shape.list_of s) k env e = let d : ◌≡◌ {A = Option LeafKind} None (Some k) = e in cc d
leaf-closed (Shape.set_of s) k env e = let d : ◌≡◌ {A = Option LeafKind} None (Some k) = e in cc d
leaf-closed (Shape.table s) k env e = let d : ◌≡◌ {A = Option LeafKind} None (Some k) = e in cc d
leaf-closed (Shape.choice alts added) k env e = let d : ◌≡◌ {A = Option LeafKind} None (Some k) = e in cc d
leaf-closed (Shape.loop s) k env e = let d : ◌≡◌ {A = Option LeafKind} None (Some k) = e in cc d
leaf-closed (Shape.back j) k env e = let d : ◌≡◌ {A = Option LeafKind} None (Some k) = e in cc d
leaf-closed s k env e = refl
