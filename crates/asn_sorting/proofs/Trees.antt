-- The trees of sorted values, and slots of equal trees.
use Rattle.std.proofs.Common.{◌≡◌, ℕ, List, [], ◌∷◌, ◌++◌, map, Option, Some, refl, sym, ap, ◌∙◌}
use Rattle.std.specs.List.{AllByRecursion}
use Rattle.std.specs.Ordering.{on, nat_cmp}
use Rattle.std.specs.Cmp.Lexicographic.{slice_cmp}
use Rattle.std.specs.Prelude.{option_map}
use Rattle.std.proofs.lemmas.List.{map_push}
use Rattle.asn_model.specs.Sorting.{sort, by_text}
use Rattle.asn_model.proofs.Sorting.{sort-map, sort-alike}
use Rattle.asn_slots.specs.Frames.{push}
use Rattle.asn_slots.specs.Trees.{trees_of, SameTrees}
use Rattle.asn_sorting.specs.Entries.{text_of, value_of}

map-map : {A B C : Type 0} (f : B → C) (g : A → B) (xs : List A) → map f (map g xs) ≡ map (λ x. f (g x)) xs
map-map f g [] = refl
map-map f g (x ∷ xs) = ap (λ l. f (g x) ∷ l) (map-map f g xs)

-- Values that are sorted by the texts of their trees have the sorted trees.
pub trees-sorted : {V T : Type 0} (text : T → List ℕ) (tree : V → T) (entries : List (List ℕ × V)) (values sorted : List V) → map value_of entries ≡ values → AllByRecursion (λ p. text_of p ≡ text (tree (value_of p))) entries
    → sorted ≡ map value_of (sort (by_text text_of) entries) → map tree sorted ≡ sort (by_text text) (map tree values)
trees-sorted text tree entries values sorted all texts e =
    ap (map tree) e
    ∙ map-map tree value_of (sort (by_text text_of) entries)
    ∙ ap (map (λ p. tree (value_of p))) (sort-alike (by_text text_of) (on (λ p. tree (value_of p)) (by_text text)) (λ p. text_of p ≡ text (tree (value_of p))) (λ p q a b. λ i. slice_cmp nat_cmp (a i) (b i)) entries texts)
    ∙ sym (sort-map (by_text text) (λ p. tree (value_of p)) entries)
    ∙ ap (sort (by_text text)) (sym (map-map tree value_of entries) ∙ ap (map tree) all)

-- Frames that take a slot may as well take one whose value has the same tree.
pub same_slot : {A V T : Type 0} (written : A → T) (kept : V → T) (v w : A) → written w ≡ written v → (fs : List (List (Option A))) (frames : List (List (Option V))) → SameTrees written kept (push (Some v) fs) frames → SameTrees written kept (push (Some w) fs) frames
same_slot written kept v w e [] frames h = ap (λ t. (Some t ∷ []) ∷ []) e ∙ h
same_slot written kept v w e (slots ∷ fs) frames h =
    ap (λ l. l ∷ map (trees_of written) fs) (map_push (option_map written) slots (Some w) ∙ ap (λ s. trees_of written slots ++ Some s ∷ []) e ∙ sym (map_push (option_map written) slots (Some v))) ∙ h
