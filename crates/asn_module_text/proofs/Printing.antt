-- Lists that are written entry by entry.
use Rattle.std.proofs.Common.{◌≡◌, ℕ, suc, ◌+◌, ◌<◌, ◌≤◌, List, [], ◌∷◌, ◌++◌, map, Bool, true, false, Option, Some, None, refl, sym, ap, ◌∙◌, get_or, drop, length, append-nil, String, string_bytes, ◌==◌, arith}
use Rattle.std.proofs.lemmas.Bool.{eqb-true, false_from_ne_true}
use Rattle.std.proofs.lemmas.List.{drop_all}
use Rattle.std.specs.Global.{Global}
use Rattle.asn_module_text.specs.Appending.{Appends}
use Rattle.asn_module_text.proofs.References.{drop_at}
use Rattle.asn_notation.specs.Notation.{Element, Elements, elements_of, marker}
use Rattle.asn_notation.specs.Printed.{word_text, comma_text, item_text, item_run, element_text, element_run, assignment_text, module_text}
use Rattle.asn_notation.specs.View.{marked, component_view, components_view, assignment_view}
use Rattle.asn_notation.specs.declared.notation.Assignment as code
use Rattle.asn_notation.specs.declared.notation.Component.{Component}
use Rattle.asn_notation.specs.declared.notation.Components.{Components, out-Components}
use Rattle.asn_notation.proofs.Viewing.{components_out}

-- Items as the definitions see them.
abbrev pub seen : List (String Global) → List (Option (List ℕ))
seen items = map (λ i. Some (string_bytes i)) items

-- The old text and all items are the new text and those that are left.
abbrev pub ItemsLeft : List ℕ → List ℕ → Bool → Bool → List (String Global) → ℕ → Type 0
ItemsLeft old now first next items i = (rest : List ℕ) → now ++ item_run next (seen (drop i items)) rest ≡ old ++ item_run first (seen items) rest

pub items_step : (old now mid new : List ℕ) (first next : Bool) (items : List (String Global)) (i : ℕ) (item : String Global) (word : List ℕ) → i < length items → item ≡ get_or items i item → word ≡ string_bytes item
    → ItemsLeft old now first next items i → Appends now mid (λ rest. comma_text next rest) → Appends mid new (λ rest. word_text word rest) → ItemsLeft old new first false items (i + 1)
items_step old now mid new first next items i item word h e w left a b = λ rest.
    let tail = item_run false (seen (drop (i + 1) items)) rest in
    b tail ∙ a (word_text word tail) ∙ ap (λ x. now ++ comma_text next (word_text x tail)) w ∙ ap (λ l. now ++ item_run next (seen l) rest) (sym (drop_at items i item h e)) ∙ left rest

pub items_end : (old now : List ℕ) (first next : Bool) (items : List (String Global)) (i : ℕ) → length items ≤ i → ItemsLeft old now first next items i → Appends old now (λ rest. item_run first (seen items) rest)
items_end old now first next items i h left = λ rest. ap (λ l. now ++ item_run next (seen l) rest) (sym (drop_all i items h)) ∙ left rest

behind_items : (xs ys : List (Option (List ℕ))) (rest : List ℕ) → item_run false (xs ++ ys) rest ≡ item_run false xs (item_run false ys rest)
behind_items [] ys rest = refl
behind_items (x ∷ xs) ys rest = ap (λ t. comma_text false (item_text x t)) (behind_items xs ys rest)

some_length : (n : ℕ) → (suc n == 0) ≡ false
some_length n = false_from_ne_true (suc n == 0) (λ e. let z = eqb-true (suc n) 0 e in absurd (omega (arith, z)))

-- Items and others behind them.
pub items_then : (items : List (String Global)) (ys : List (Option (List ℕ))) (rest : List ℕ) → item_run true (seen items ++ ys) rest ≡ item_run true (seen items) (item_run (length items == 0) ys rest)
items_then [] ys rest = refl
items_then (x ∷ items) ys rest =
    ap (λ t. word_text (string_bytes x) t) (behind_items (seen items) ys rest) ∙ ap (λ b. word_text (string_bytes x) (item_run false (seen items) (item_run b ys rest))) (sym (some_length (length items)))

-- Components as the definitions see them.
abbrev pub elements_seen : List Component → Elements
elements_seen cs = elements_of (map component_view cs)

-- The old text and all components are the new text and those that are left.
abbrev pub ElementsLeft : List ℕ → List ℕ → Bool → Bool → List Component → ℕ → Type 0
ElementsLeft old now first next cs i = (rest : List ℕ) → now ++ element_run next (elements_seen (drop i cs)) rest ≡ old ++ element_run first (elements_seen cs) rest

pub elements_step : (old now mid new : List ℕ) (first next : Bool) (cs : List Component) (i : ℕ) (c : Component) → i < length cs → c ≡ get_or cs i c
    → ElementsLeft old now first next cs i → Appends now mid (λ rest. comma_text next rest) → Appends mid new (λ rest. element_text (component_view c) rest) → ElementsLeft old new first false cs (i + 1)
elements_step old now mid new first next cs i c h e left a b = λ rest.
    let tail = element_run false (elements_seen (drop (i + 1) cs)) rest in
    b tail ∙ a (element_text (component_view c) tail) ∙ ap (λ l. now ++ element_run next (elements_seen l) rest) (sym (drop_at cs i c h e)) ∙ left rest

pub elements_end : (old now : List ℕ) (first next : Bool) (cs : List Component) (i : ℕ) → length cs ≤ i → ElementsLeft old now first next cs i → Appends old now (λ rest. element_run first (elements_seen cs) rest)
elements_end old now first next cs i h left = λ rest. ap (λ l. now ++ element_run next (elements_seen l) rest) (sym (drop_all i cs h)) ∙ left rest

behind_elements : (xs : List Component) (ys : List Element) (rest : List ℕ) → element_run false (elements_of (map component_view xs ++ ys)) rest ≡ element_run false (elements_seen xs) (element_run false (elements_of ys) rest)
behind_elements [] ys rest = refl
behind_elements (x ∷ xs) ys rest = ap (λ t. comma_text false (element_text (component_view x) t)) (behind_elements xs ys rest)

elements_then : (xs : List Component) (ys : List Element) (rest : List ℕ) → element_run true (elements_of (map component_view xs ++ ys)) rest ≡ element_run true (elements_seen xs) (element_run (length xs == 0) (elements_of ys) rest)
elements_then [] ys rest = refl
elements_then (x ∷ xs) ys rest =
    ap (λ t. element_text (component_view x) t) (behind_elements xs ys rest) ∙ ap (λ b. element_text (component_view x) (element_run false (elements_seen xs) (element_run b (elements_of ys) rest))) (sym (some_length (length xs)))

-- Components, by those of the root and the additions.
components_run : (c : Components) (rest : List ℕ) → element_run true (elements_of (components_view c)) rest
    ≡ element_run true (elements_seen (out-Components c).root.items) (element_run (length (out-Components c).root.items == 0) (elements_of (marked component_view marker (out-Components c).added)) rest)
components_run c rest = ap (λ es. element_run true (elements_of es) rest) (components_out c) ∙ elements_then (out-Components c).root.items (marked component_view marker (out-Components c).added) rest

pub components_written : (c : Components) (root : List Component) (b : Bool) (rest : List ℕ) → root ≡ (out-Components c).root.items → b ≡ (length root == 0)
    → element_run true (elements_seen root) (element_run b (elements_of (marked component_view marker (out-Components c).added)) rest) ≡ element_run true (elements_of (components_view c)) rest
components_written c root b rest e f =
    let added = elements_of (marked component_view marker (out-Components c).added) in
    ap (λ x. element_run true (elements_seen root) (element_run x added rest)) f ∙ ap (λ xs. element_run true (elements_seen xs) (element_run (length xs == 0) added rest)) e ∙ sym (components_run c rest)

-- The old text and all lines are the new text and those that are left.
abbrev pub LinesLeft : List ℕ → List ℕ → List code.Assignment → ℕ → Type 0
LinesLeft old now xs i = now ++ module_text (map assignment_view (drop i xs)) ≡ old ++ module_text (map assignment_view xs)

pub lines_step : (old now new : List ℕ) (xs : List code.Assignment) (i : ℕ) (a : code.Assignment) → i < length xs → a ≡ get_or xs i a → LinesLeft old now xs i → Appends now new (λ rest. assignment_text (assignment_view a) rest) → LinesLeft old new xs (i + 1)
lines_step old now new xs i a h e left b = b (module_text (map assignment_view (drop (i + 1) xs))) ∙ ap (λ l. now ++ module_text (map assignment_view l)) (sym (drop_at xs i a h e)) ∙ left

pub lines_end : (old now : List ℕ) (xs : List code.Assignment) (i : ℕ) → length xs ≤ i → LinesLeft old now xs i → now ≡ old ++ module_text (map assignment_view xs)
lines_end old now xs i h left = sym (append-nil now) ∙ ap (λ l. now ++ module_text (map assignment_view l)) (sym (drop_all i xs h)) ∙ left
