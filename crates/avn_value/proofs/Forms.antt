-- Well-formed rows, a row at a time.
use Rattle.std.proofs.Common.{◌≡◌, ℕ, zero, suc, ◌+◌, ◌<◌, List, [], ◌∷◌, ◌++◌, Bool, true, false, ◌&&◌, Option, Some, None, String, string_bytes, refl, sym, ap, ◌∙◌, take, get_or, length, arith}
use Rattle.std.specs.Prelude.{map, option_map}
use Rattle.std.proofs.lemmas.Bool.{and_parts}
use Rattle.std.proofs.lemmas.List.{take_more}
use Rattle.avn_grammar.specs.Chars.{all}
use Rattle.avn_grammar.specs.Tree.{Tree, no_trees, no_fields}
use Rattle.avn_grammar.specs.WellFormed.{is_identifier, is_well_formed, are_well_formed, are_fields_well_formed}
use Rattle.avn_nodes.specs.TreeLists.{trees_in, fields_in}

and_true : (a b : Bool) → a ≡ true → b ≡ true → (a && b) ≡ true
and_true a b h k = ap (λ x. x && b) h ∙ k

and_false : (a b : Bool) → b ≡ false → (a && b) ≡ false
and_false a b h = elim a as (λ x. (x && b) ≡ false) [ true ↦ h | false ↦ refl ]

-- Every number of a list passes where each place does.
pub every-at : (p : ℕ → Bool) (xs : List ℕ) → ((i : ℕ) → i < length xs → p (get_or xs i 0) ≡ true) → all p xs ≡ true
every-at p [] h = refl
every-at p (x ∷ xs) h = and_true (p x) (all p xs) (h 0 (omega arith)) (every-at p xs (λ i l. h (suc i) (omega arith)))

module _ {A : Type 0} (see : A → Tree) where
  forms-push : (xs : List A) (x : A) → are_well_formed (trees_in (map see xs)) ≡ true → is_well_formed (see x) ≡ true → are_well_formed (trees_in (map see (xs ++ (x ∷ [])))) ≡ true
  unfolding is_well_formed
  forms-push [] x h k = and_true (is_well_formed (see x)) true k refl
  forms-push (y ∷ xs) x h k =
      let q = and_parts (is_well_formed (see y)) (are_well_formed (trees_in (map see xs))) h in
      and_true (is_well_formed (see y)) (are_well_formed (trees_in (map see (xs ++ (x ∷ []))))) q.0 (forms-push xs x q.1 k)

  pub forms-more : (xs : List A) (i : ℕ) (x : A) → i < length xs → are_well_formed (trees_in (map see (take i xs))) ≡ true → is_well_formed (see (get_or xs i x)) ≡ true
      → are_well_formed (trees_in (map see (take (i + 1) xs))) ≡ true
  forms-more xs i x l h k = ap (λ v. are_well_formed (trees_in (map see v))) (take_more xs i x l) ∙ forms-push (take i xs) (get_or xs i x) h k

  pub forms-other : (xs : List A) (i : ℕ) (x : A) → i < length xs → is_well_formed (see (get_or xs i x)) ≡ false → are_well_formed (trees_in (map see xs)) ≡ false
  unfolding is_well_formed
  forms-other [] i x l k = absurd (omega arith)
  forms-other (y ∷ xs) zero x l k = ap (λ b. b && are_well_formed (trees_in (map see xs))) k
  forms-other (y ∷ xs) (suc i) x l k = and_false (is_well_formed (see y)) (are_well_formed (trees_in (map see xs))) (forms-other xs i x (omega arith) k)

  -- A field's name is an identifier, and its value, if it has one, is well formed.
  abbrev pub field_form : {S : Type 0} → String S × Option A → Bool
  field_form (name, Some v) = is_identifier (string_bytes name) && is_well_formed (see v)
  field_form (name, None) = is_identifier (string_bytes name)

  pub form-some : {S : Type 0} (f : String S × Option A) (v : A) → f.1 ≡ Some v → field_form f ≡ (is_identifier (string_bytes (f.0)) && is_well_formed (see v))
  form-some (name, o) v e = ap (λ x. field_form (name, x)) e

  pub form-none : {S : Type 0} (f : String S × Option A) → f.1 ≡ None → field_form f ≡ is_identifier (string_bytes (f.0))
  form-none (name, o) e = ap (λ x. field_form (name, x)) e

  pub form-name : {S : Type 0} (f : String S × Option A) → is_identifier (string_bytes (f.0)) ≡ false → field_form f ≡ false
  form-name (name, Some v) h = ap (λ b. b && is_well_formed (see v)) h
  form-name (name, None) h = h

  abbrev fields_form : {S : Type 0} → List (String S × Option A) → Bool
  fields_form xs = are_fields_well_formed (fields_in (map (λ f. (f.0, option_map see f.1)) xs))

  form-first : {S : Type 0} (f : String S × Option A) (xs : List (String S × Option A)) → fields_form (f ∷ xs) ≡ (field_form f && fields_form xs)
  unfolding is_well_formed
  form-first (name, Some v) xs = elim (is_identifier (string_bytes name)) as (λ b. (b && (is_well_formed (see v) && fields_form xs)) ≡ ((b && is_well_formed (see v)) && fields_form xs)) [ true ↦ refl | false ↦ refl ]
  form-first (name, None) xs = refl

  fields-push : {S : Type 0} (xs : List (String S × Option A)) (f : String S × Option A) → fields_form xs ≡ true → field_form f ≡ true → fields_form (xs ++ (f ∷ [])) ≡ true
  unfolding is_well_formed
  fields-push [] f h k = form-first f [] ∙ and_true (field_form f) true k refl
  fields-push (y ∷ xs) f h k =
      let q = and_parts (field_form y) (fields_form xs) (sym (form-first y xs) ∙ h) in
      form-first y (xs ++ (f ∷ [])) ∙ and_true (field_form y) (fields_form (xs ++ (f ∷ []))) q.0 (fields-push xs f q.1 k)

  pub fields_form-more : {S : Type 0} (xs : List (String S × Option A)) (i : ℕ) (f : String S × Option A) → i < length xs → fields_form (take i xs) ≡ true → field_form (get_or xs i f) ≡ true → fields_form (take (i + 1) xs) ≡ true
  fields_form-more xs i f l h k = ap fields_form (take_more xs i f l) ∙ fields-push (take i xs) (get_or xs i f) h k

  pub fields_form-other : {S : Type 0} (xs : List (String S × Option A)) (i : ℕ) (f : String S × Option A) → i < length xs → field_form (get_or xs i f) ≡ false → fields_form xs ≡ false
  fields_form-other [] i f l k = absurd (omega arith)
  fields_form-other (y ∷ xs) zero f l k = form-first y xs ∙ ap (λ b. b && fields_form xs) k
  fields_form-other (y ∷ xs) (suc i) f l k = form-first y xs ∙ and_false (field_form y) (fields_form xs) (fields_form-other xs i f (omega arith) k)

pub no-forms : are_well_formed no_trees ≡ true
unfolding is_well_formed
no-forms = refl

pub no-field_forms : are_fields_well_formed no_fields ≡ true
unfolding is_well_formed
no-field_forms = refl
