-- Which name of assignments comes again.
use Rattle.std.proofs.Common.{◌≡◌, ℕ, suc, ◌+◌, ◌<◌, ◌≤◌, List, [], ◌∷◌, ◌++◌, Bool, true, false, if◌then◌else◌, Option, Some, None, refl, sym, ap, ◌∙◌, length, map, take, drop, get_or, string_bytes, arith}
use Rattle.std.proofs.lemmas.List.{take_more, map-append, length-map, length-take-le}
use Rattle.asn_model.specs.Shape.{is_item}
use Rattle.asn_notation.specs.Names.{assigned_names, first_repeated_in}
use Rattle.asn_notation.specs.View.{assignment_view}
use Rattle.asn_notation.specs.declared.notation.Assignment as code
use Rattle.asn_module_text.proofs.References.{drop_at}

-- The names of assignments up to a place, with one more.
pub names_more : (xs : List code.Assignment) (i : ℕ) (a : code.Assignment) → i < length xs → a ≡ get_or xs i a → assigned_names (map assignment_view (take (i + 1) xs)) ≡ assigned_names (map assignment_view (take i xs)) ++ string_bytes a.name ∷ []
names_more xs i a h e =
    ap (λ l. assigned_names (map assignment_view l)) (take_more xs i a h ∙ ap (λ y. take i xs ++ y ∷ []) (sym e))
    ∙ ap assigned_names (map-append assignment_view (take i xs) (a ∷ [])) ∙ map-append (λ x. x.name) (map assignment_view (take i xs)) (assignment_view a ∷ [])

pub names_count : (xs : List code.Assignment) (i : ℕ) → i < length xs → i ≡ length (assigned_names (map assignment_view (take i xs)))
names_count xs i h =
    let k : i ≤ length xs = omega arith in
    sym (length-map (map assignment_view (take i xs)) (λ x. x.name) ∙ length-map (take i xs) assignment_view ∙ length-take-le i xs k)

repeated_if : (b : Bool) (x y : Option (List ℕ)) → b ≡ true → (if b then x else y) ≡ x
repeated_if b x y e = rw e refl

distinct_if : (b : Bool) (x y : Option (List ℕ)) → b ≡ false → (if b then x else y) ≡ y
distinct_if b x y e = rw e refl

-- The name at the place was assigned before.
pub repeated_here : (xs : List code.Assignment) (i : ℕ) (a : code.Assignment) → i < length xs → a ≡ get_or xs i a → is_item (assigned_names (map assignment_view (take i xs))) (string_bytes a.name) ≡ true
    → first_repeated_in (assigned_names (map assignment_view (take i xs))) (assigned_names (map assignment_view (drop i xs))) ≡ Some (string_bytes a.name)
repeated_here xs i a h e t =
    ap (λ l. first_repeated_in (assigned_names (map assignment_view (take i xs))) (assigned_names (map assignment_view l))) (drop_at xs i a h e) ∙ repeated_if _ _ _ t

-- It was not.
pub repeated_behind : (xs : List code.Assignment) (i : ℕ) (a : code.Assignment) → i < length xs → a ≡ get_or xs i a → is_item (assigned_names (map assignment_view (take i xs))) (string_bytes a.name) ≡ false
    → first_repeated_in (assigned_names (map assignment_view (take i xs))) (assigned_names (map assignment_view (drop i xs)))
    ≡ first_repeated_in (assigned_names (map assignment_view (take (i + 1) xs))) (assigned_names (map assignment_view (drop (i + 1) xs)))
repeated_behind xs i a h e f =
    ap (λ l. first_repeated_in (assigned_names (map assignment_view (take i xs))) (assigned_names (map assignment_view l))) (drop_at xs i a h e) ∙ distinct_if _ _ _ f
    ∙ ap (λ ns. first_repeated_in ns (assigned_names (map assignment_view (drop (i + 1) xs)))) (sym (names_more xs i a h e))
