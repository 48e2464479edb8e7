-- The places of names.
use Rattle.std.proofs.Common.{◌≡◌, ℕ, suc, List, [], ◌∷◌, ◌++◌, Bool, true, false, if◌then◌else◌, Option, Some, None, refl, sym, ap, subst, ◌∙◌, length, is_some, inl, inr, option_map}
use Rattle.std.proofs.lemmas.Bool.{cases_Bool}
use Rattle.std.proofs.lemmas.Map.Text.{hash_map_updates_str}
use Rattle.std.proofs.lemmas.Slice.Eq.{bytes_eq-Decides}
use Rattle.std.specs.Borrow.{Bor}
use Rattle.std.specs.HashMap.{HashMap, UpdatesBy}
use Rattle.std.specs.Str.{bytes_eq}
use Rattle.asn_model.specs.Shape.{is_item, place_named}
use Rattle.asn_notation.specs.Names.{assigned_names, first_failing, first_unassigned, module_references}
use Rattle.asn_notation.specs.Notation.{Assignment}
use Rattle.asn_expansion.specs.Places.{ArePlaces, place_in, is_placed}

placed_if : (b : Bool) (o : Option ℕ) (p : Bool) → is_some o ≡ p → is_some (if b then Some 0 else option_map suc o) ≡ (if b then true else p)
placed_if true o p e = refl
placed_if false None p e = e
placed_if false (Some k) p e = e

-- A name has a place where it is one of the names.
pub placed-item : (ns : List (List ℕ)) (n : List ℕ) → is_some (place_named bytes_eq ns n) ≡ is_item ns n
placed-item [] n = refl
placed-item (m ∷ ns) n = placed_if (bytes_eq n m) (place_named bytes_eq ns n) (is_item ns n) (placed-item ns n)

-- The place of a name with one more behind the others.
or_last : Option ℕ → Bool → ℕ → Option ℕ
or_last (Some k) b n = Some k
or_last None b n = if b then Some n else None

or_last-suc : (c b : Bool) (o : Option ℕ) (n : ℕ) → (if c then Some 0 else option_map suc (or_last o b n)) ≡ or_last (if c then Some 0 else option_map suc o) b (suc n)
unfolding or_last
or_last-suc true b o n = refl
or_last-suc false b (Some k) n = refl
or_last-suc false true None n = refl
or_last-suc false false None n = refl

place_named-last : (ns : List (List ℕ)) (n q : List ℕ) → place_named bytes_eq (ns ++ n ∷ []) q ≡ or_last (place_named bytes_eq ns q) (bytes_eq q n) (length ns)
unfolding or_last
place_named-last [] n q = refl
place_named-last (m ∷ ns) n q = ap (λ o. if bytes_eq q m then Some 0 else option_map suc o) (place_named-last ns n q) ∙ or_last-suc (bytes_eq q m) (bytes_eq q n) (place_named bytes_eq ns q) (length ns)

none_placed : (o : Option ℕ) → is_some o ≡ false → o ≡ None
none_placed None e = refl
none_placed (Some k) e = let n : ⊥ = cc in absurd n

last_at : (o : Option ℕ) (b c : Bool) (i : ℕ) → (b ≡ true → o ≡ None) → c ≡ b → (if b then Some i else o) ≡ or_last o c i
unfolding or_last
last_at None true c i h e = rw e refl
last_at None false c i h e = rw e refl
last_at (Some k) true c i h e = let z : Some k ≡ None = h refl in let n : ⊥ = cc in absurd n
last_at (Some k) false c i h e = refl

same_bytes : (a b : List ℕ) → bytes_eq a b ≡ bytes_eq b a
same_bytes a b = elim (cases_Bool (bytes_eq a b)) [
  | inl e ↦ let f : a ≡ b = (bytes_eq-Decides a b).0 e in e ∙ sym (subst (λ x. bytes_eq b x ≡ true) (sym f) (subst (λ x. bytes_eq x b ≡ true) f e))
  | inr e ↦ elim (cases_Bool (bytes_eq b a)) [
    | inl g ↦ let f : b ≡ a = (bytes_eq-Decides b a).0 g in let t : bytes_eq a b ≡ true = subst (λ x. bytes_eq a x ≡ true) (sym f) (subst (λ x. bytes_eq x a ≡ true) f g) in let z : true ≡ false = sym t ∙ e in absurd (let n : ⊥ = cc in n)
    | inr g ↦ e ∙ sym g
  ]
]

-- Another name with its place.
pub places_more : {S : Type 0} (old new : HashMap (Bor (List ℕ)) ℕ S) (ns : List (List ℕ)) (n : List ℕ) (i : ℕ) → ArePlaces old ns → is_item ns n ≡ false → i ≡ length ns
    → UpdatesBy (λ x y. bytes_eq x.now y.now) (λ k. bytes_eq n k.now) old new (Some i) → ArePlaces new (ns ++ n ∷ [])
places_more old new ns n i places absent at updates = λ q.
    hash_map_updates_str n old new (Some i) updates q
    ∙ ap (λ o. if bytes_eq n q then Some i else o) (places q)
    ∙ last_at (place_named bytes_eq ns q) (bytes_eq n q) (bytes_eq q n) i
    (λ e. let f : n ≡ q = (bytes_eq-Decides n q).0 e in none_placed (place_named bytes_eq ns q) (subst (λ x. is_some (place_named bytes_eq ns x) ≡ false) f (placed-item ns n ∙ absent)))
    (same_bytes q n)
    ∙ ap (λ k. or_last (place_named bytes_eq ns q) (bytes_eq q n) k) at
    ∙ sym (place_named-last ns n q)

-- Whether a name is among others, by what its place is.
pub placed_before : {S : Type 0} (places : HashMap (Bor (List ℕ)) ℕ S) (ns : List (List ℕ)) (n key : List ℕ) (found : Option ℕ) (b : Bool) → ArePlaces places ns → key ≡ n → found ≡ place_in places key → is_some found ≡ b → is_item ns n ≡ b
placed_before places ns n key found b are k f s =
    sym (placed-item ns n) ∙ ap is_some (sym (are n)) ∙ ap (λ q. is_some (place_in places q)) (sym k) ∙ ap is_some (sym f) ∙ s

failing_same : (p q : List ℕ → Bool) → ((n : List ℕ) → p n ≡ q n) → (ns : List (List ℕ)) → first_failing p ns ≡ first_failing q ns
failing_same p q h [] = refl
failing_same p q h (n ∷ ns) = ap (λ b. if b then first_failing p ns else Some n) (h n) ∙ ap (λ o. if q n then o else Some n) (failing_same p q h ns)

-- The first name that isn't assigned is the first one without a place.
pub unassigned_by : {S : Type 0} (places : HashMap (Bor (List ℕ)) ℕ S) (assignments : List Assignment) → ArePlaces places (assigned_names assignments) → first_failing (λ n. is_placed places n) (module_references assignments) ≡ first_unassigned assignments
unassigned_by places assignments are =
    failing_same (λ n. is_placed places n) (λ n. is_item (assigned_names assignments) n) (λ n. ap is_some (are n) ∙ placed-item (assigned_names assignments) n) (module_references assignments)
