-- What a name is expanded to.
use Rattle.std.proofs.Common.{◌≡◌, ◌<◌, ℕ, zero, suc, ◌+◌, List, [], ◌∷◌, map, Bool, true, false, if◌then◌else◌, Option, Some, None, option_map, refl, ap, ◌∙◌, get_or, length, string_bytes, arith}
use Rattle.std.proofs.lemmas.List.{length-map}
use Rattle.std.specs.Str.{bytes_eq}
use Rattle.asn_growth.specs.Parts.{node_count}
use Rattle.asn_model.specs.Shape.{Shape, place_named}
use Rattle.asn_notation.specs.Names.{assigned_names}
use Rattle.asn_notation.specs.Notation.{Notation, Assignment}
use Rattle.asn_notation.specs.View.{assignment_view, notation_view}
use Rattle.asn_notation.specs.declared.notation.Assignment as code
use Rattle.asn_expansion.specs.Expansion.{back_or_loop, expansion, notation_named, notation_shape, shape_of_found}
use Rattle.asn_expansion.specs.Large.{HasMore}

-- A place is below the number of names.
place_if : (b : Bool) (o : Option ℕ) (n k : ℕ) → ((j : ℕ) → o ≡ Some j → j < n) → (if b then Some 0 else option_map suc o) ≡ Some k → k < suc n
place_if true o n k h e = let z : 0 ≡ k = cc in omega (arith, z)
place_if false None n k h e = let z : ⊥ = cc in absurd z
place_if false (Some j) n k h e = let z : suc j ≡ k = cc in omega (arith, z, h j refl)

pub place_below : (names : List (List ℕ)) (name : List ℕ) (k : ℕ) → place_named bytes_eq names name ≡ Some k → k < length names
place_below [] name k e = let z : ⊥ = cc in absurd z
place_below (n ∷ names) name k e = place_if (bytes_eq name n) (place_named bytes_eq names name) (length names) k (λ j h. place_below names name j h) e

abbrev pred_of : Option ℕ → Option ℕ
pred_of None = None
pred_of (Some zero) = None
pred_of (Some (suc n)) = Some n

-- The assignment at the place of a name is its own.
pub record IsAt (xs : List code.Assignment) (name : List ℕ) (k : ℕ) (d : code.Assignment) : Type 0 where
  pub within : k < length xs
  pub found : notation_named (map assignment_view xs) name ≡ Some (notation_view (get_or xs k d).notation)

at_if : (b : Bool) (o : Option ℕ) (x : code.Assignment) (xs : List code.Assignment) (name : List ℕ) (k : ℕ) (d : code.Assignment) → bytes_eq name (string_bytes x.name) ≡ b → ((j : ℕ) → o ≡ Some j → IsAt xs name j d)
    → (if b then Some 0 else option_map suc o) ≡ Some k → IsAt (x ∷ xs) name k d
at_if true o x xs name zero d t h e = record { within = omega arith; found = ap (λ b. if b then Some (notation_view x.notation) else notation_named (map assignment_view xs) name) t }
at_if true o x xs name (suc k) d t h e = let z : ⊥ = cc in absurd z
at_if false None x xs name k d t h e = let z : ⊥ = cc in absurd z
at_if false (Some j) x xs name zero d t h e = let z : ⊥ = cc in absurd z
at_if false (Some j) x xs name (suc k) d t h e =
    let z : Some j ≡ Some k = ap (λ o. pred_of o) e in
    let i = h k z in
    record { within = omega (arith, i.within); found = ap (λ b. if b then Some (notation_view x.notation) else notation_named (map assignment_view xs) name) t ∙ i.found }

pub found_at : (xs : List code.Assignment) (name : List ℕ) (k : ℕ) (d : code.Assignment) → place_named bytes_eq (assigned_names (map assignment_view xs)) name ≡ Some k → IsAt xs name k d
found_at [] name k d e = let z : ⊥ = cc in absurd z
found_at (x ∷ xs) name k d e = at_if (bytes_eq name (string_bytes x.name)) (place_named bytes_eq (assigned_names (map assignment_view xs)) name) x xs name k d refl (λ j h. found_at xs name j d h) e

pub place_within : (xs : List code.Assignment) (name : List ℕ) (k : ℕ) → place_named bytes_eq (assigned_names (map assignment_view xs)) name ≡ Some k → k < length xs
place_within xs name k e = omega (arith, place_below (assigned_names (map assignment_view xs)) name k e, length-map (map assignment_view xs) (λ x. x.name), length-map xs assignment_view)

-- A name without a place is not assigned.
none_if : (b : Bool) (o : Option ℕ) (n m : Option Notation) → (o ≡ None → m ≡ None) → (if b then Some 0 else option_map suc o) ≡ None → (if b then n else m) ≡ None
none_if true o n m h e = let z : ⊥ = cc in absurd z
none_if false None n m h e = h refl
none_if false (Some j) n m h e = let z : ⊥ = cc in absurd z

pub found_nowhere : (xs : List Assignment) (name : List ℕ) → place_named bytes_eq (assigned_names xs) name ≡ None → notation_named xs name ≡ None
found_nowhere [] name e = refl
found_nowhere (x ∷ xs) name e = none_if (bytes_eq name x.name) (place_named bytes_eq (assigned_names xs) name) (Some x.notation) (notation_named xs name) (λ h. found_nowhere xs name h) e

-- A name that is open.
pub expands_back : (assignments : List Assignment) (more : ℕ) (names : List (List ℕ)) (name : List ℕ) (k : ℕ) → place_named bytes_eq names name ≡ Some k → expansion assignments more names name ≡ Some (Shape.back k)
unfolding expansion
expands_back assignments zero names name k e = ap (λ o. back_or_loop o None) e
expands_back assignments (suc more) names name k e = ap (λ o. back_or_loop o (shape_of_found (expansion assignments more (name ∷ names)) (notation_named assignments name))) e

-- One that is not, where no more may be, or that is not assigned.
pub expands_not : (assignments : List Assignment) (more : ℕ) (names : List (List ℕ)) (name : List ℕ) → place_named bytes_eq names name ≡ None → more ≡ 0 → expansion assignments more names name ≡ None
unfolding expansion
expands_not assignments zero names name e z = ap (λ o. back_or_loop o None) e
expands_not assignments (suc more) names name e z = absurd (omega (arith, z))

pub expands_nothing : (assignments : List Assignment) (more : ℕ) (names : List (List ℕ)) (name : List ℕ) → place_named bytes_eq names name ≡ None → notation_named assignments name ≡ None → expansion assignments more names name ≡ None
unfolding expansion
expands_nothing assignments zero names name e n = ap (λ o. back_or_loop o None) e
expands_nothing assignments (suc more) names name e n =
    ap (λ o. back_or_loop o (shape_of_found (expansion assignments more (name ∷ names)) (notation_named assignments name))) e ∙ ap (λ o. back_or_loop None (shape_of_found (expansion assignments more (name ∷ names)) o)) n

-- One that is not open and is assigned.
pub expands_loop : (assignments : List Assignment) (more less : ℕ) (names : List (List ℕ)) (name : List ℕ) (n : Notation) → place_named bytes_eq names name ≡ None → notation_named assignments name ≡ Some n → more ≡ less + 1
    → expansion assignments more names name ≡ option_map (λ x. Shape.loop x) (notation_shape (expansion assignments less (name ∷ names)) n)
unfolding expansion
expands_loop assignments zero less names name n e f z = absurd (omega (arith, z))
expands_loop assignments (suc more) less names name n e f z =
    let s : more ≡ less = omega (arith, z) in
    ap (λ o. back_or_loop o (shape_of_found (expansion assignments more (name ∷ names)) (notation_named assignments name))) e ∙ ap (λ o. back_or_loop None (shape_of_found (expansion assignments more (name ∷ names)) o)) f
    ∙ ap (λ k. option_map (λ x. Shape.loop x) (notation_shape (expansion assignments k (name ∷ names)) n)) s

-- A shape with one more node around it.
pub more_loop : (left : ℕ) (o : Option Shape) → HasMore node_count left o → HasMore node_count (left + 1) (option_map (λ x. Shape.loop x) o)
more_loop left None h = tt
more_loop left (Some s) h = omega (arith, h)
