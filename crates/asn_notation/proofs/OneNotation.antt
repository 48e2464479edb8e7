-- A text stands for at most one notation, and at most one rest follows it.
use Rattle.std.proofs.Common.{◌≡◌, inl, inr, ℕ, List, [], ◌∷◌, Bool, true, false, Option, Some, refl, sym, ap, subst, ◌∙◌}
use Rattle.asn_notation.specs.Notation.{Notation, Element, Assignment, members, list_of, choice, enumerated, component, elements_of}
use Rattle.asn_notation.specs.Tokens.{Token, first_token, past_token}
use Rattle.asn_notation.specs.Starts.{Start}
use Rattle.asn_notation.specs.Grammar.{separator_of, is_optional, past_optional, ItemParses, item_parses, item_marker_parses, ItemsParse, last_item, next_item, ItemListParses, no_items, some_items, NotationParses, whole_parses, pair_parses, members_parse, list_parses, choice_parses, enumerated_parses, ElementParses, component_parses, marker_parses, ElementsParse, last_element, next_element, ListParses, no_elements_parse, some_elements_parse, ModuleParses, no_assignments, assignment_parses}
use Rattle.asn_notation.proofs.Inverted.{inverted, brace_keyword, token_word}

some_same : {A : Type 0} {x y : A} {o : Option A} → o ≡ Some x → o ≡ Some y → x ≡ y
some_same {x = x} {y = y} a b = let e : Some x ≡ Some y = sym a ∙ b in cc

true_false : true ≡ false → ⊥
true_false e = cc

pub same_item : {u r s : List ℕ} {i j : Option (List ℕ)} {a b : Bool} → ItemParses u i a r → ItemParses u j b s → (i ≡ j) × (a ≡ b) × (r ≡ s)
same_item (item_parses w m) (item_parses x n) = (ap (λ y. Some y) (some_same w x), some_same m n, refl)
same_item (item_parses w m) (item_marker_parses x n) = absurd (token_word _ _ Token.ellipsis x refl w)
same_item (item_marker_parses w m) (item_parses x n) = absurd (token_word _ _ Token.ellipsis w refl x)
same_item (item_marker_parses w m) (item_marker_parses x n) = (refl, some_same m n, refl)

items_along : {u v r : List ℕ} {is : List (Option (List ℕ))} → u ≡ v → ItemsParse u is r → ItemsParse v is r
items_along {r = r} {is = is} e p = subst (λ x. ItemsParse x is r) e p

pub same_items : {u r s : List ℕ} {is js : List (Option (List ℕ))} → ItemsParse u is r → ItemsParse u js s → (is ≡ js) × (r ≡ s)
same_items (last_item p) (last_item q) = let e = same_item p q in (ap (λ x. x ∷ []) e.0, e.2)
same_items (last_item p) (next_item q qs) = absurd (true_false (sym (same_item p q).1))
same_items (next_item p ps) (last_item q) = absurd (true_false (same_item p q).1)
same_items (next_item {items = is} p ps) (next_item {i = j} q qs) =
    let e = same_item p q in
    let f = same_items ps (items_along (sym e.2) qs) in (ap (λ x. x ∷ is) e.0 ∙ ap (λ x. j ∷ x) f.0, f.1)

pub item_brace : {u r : List ℕ} {i : Option (List ℕ)} {more : Bool} → ItemParses u i more r → first_token u ≡ Token.close_brace → ⊥
item_brace (item_parses w m) o = token_word _ _ Token.close_brace o refl w
item_brace (item_marker_parses w m) o = let e : Token.ellipsis ≡ Token.close_brace = sym w ∙ o in cc

pub items_brace : {u r : List ℕ} {is : List (Option (List ℕ))} → ItemsParse u is r → first_token u ≡ Token.close_brace → ⊥
items_brace (last_item p) o = item_brace p o
items_brace (next_item p ps) o = item_brace p o

pub same_item_list : {u r s : List ℕ} {is js : List (Option (List ℕ))} → ItemListParses u is r → ItemListParses u js s → (is ≡ js) × (r ≡ s)
same_item_list (no_items o) (no_items p) = (refl, refl)
same_item_list (no_items o) (some_items p m) = absurd (items_brace p o)
same_item_list (some_items p m) (no_items o) = absurd (items_brace p o)
same_item_list (some_items p m) (some_items q n) = same_items p q

elements_along : {limit level : ℕ} {allowed : Bool} {u v r : List ℕ} {es : List Element} → u ≡ v → ElementsParse limit level allowed u es r → ElementsParse limit level allowed v es r
elements_along {limit = limit} {level = level} {allowed = allowed} {r = r} {es = es} e p = subst (λ x. ElementsParse limit level allowed x es r) e p

pub element_brace : {limit level : ℕ} {allowed : Bool} {u r : List ℕ} {e : Element} {more : Bool} → ElementParses limit level allowed u e more r → first_token u ≡ Token.close_brace → ⊥
element_brace (component_parses w d m) o = token_word _ _ Token.close_brace o refl w
element_brace (marker_parses w m) o = let e : Token.ellipsis ≡ Token.close_brace = sym w ∙ o in cc

pub elements_brace : {limit level : ℕ} {allowed : Bool} {u r : List ℕ} {es : List Element} → ElementsParse limit level allowed u es r → first_token u ≡ Token.close_brace → ⊥
elements_brace (last_element p) o = element_brace p o
elements_brace (next_element p ps) o = element_brace p o

mutual
  pub same_notation : {limit level : ℕ} {u r s : List ℕ} {n m : Notation} → NotationParses limit level u n r → NotationParses limit level u m s → (n ≡ m) × (r ≡ s)
  same_notation (whole_parses {n = n} l e) q = let b = inverted (Start.whole n) e q in (sym b.made, sym b.left)
  same_notation (pair_parses {k = k} {n = n} l e f) q = let b = inverted (Start.pair k n) e q in (sym b.made, sym b.left)
  same_notation (members_parse {kind = kind} l e o d) q = elim (inverted (Start.members kind) e q) [
    | inl b ↦ let p = same_list d b.list in (ap (λ xs. members kind (elements_of xs)) p.0 ∙ sym b.made, p.1)
    | inr b ↦ absurd (brace_keyword _ _ o b.of_word)
  ]
  same_notation (list_parses {kind = kind} l e o d) q = elim (inverted (Start.members kind) e q) [
    | inl b ↦ absurd (brace_keyword _ _ b.open_brace o)
    | inr b ↦ let p = same_notation d b.parses in (ap (λ x. list_of kind x) p.0 ∙ sym b.made, p.1)
  ]
  same_notation (choice_parses l e o d) q = let b = inverted Start.choice e q in let p = same_list d b.list in (ap (λ xs. choice (elements_of xs)) p.0 ∙ sym b.made, p.1)
  same_notation (enumerated_parses l e o d) q = let b = inverted Start.enumerated e q in let p = same_item_list d b.list in (ap (λ xs. enumerated xs) p.0 ∙ sym b.made, p.1)

  pub same_element : {limit level : ℕ} {allowed : Bool} {u r s : List ℕ} {e f : Element} {a b : Bool} → ElementParses limit level allowed u e a r → ElementParses limit level allowed u f b s → (e ≡ f) × (a ≡ b) × (r ≡ s)
  same_element {allowed = allowed} (component_parses {name = name} {v = v} {n = n} w d m) (component_parses {name = other} {v = v'} {n = n'} x c k) =
      let p = same_notation d c in (
        ap (λ y. component y n (is_optional allowed v)) (some_same w x) ∙ ap (λ y. component other y (is_optional allowed v)) p.0 ∙ ap (λ y. component other n' (is_optional allowed y)) p.1,
        some_same (sym (ap (λ y. separator_of (first_token (past_optional allowed y))) p.1) ∙ m) k,
        ap (λ y. past_token (past_optional allowed y)) p.1,
      )
  same_element (component_parses w d m) (marker_parses x k) = absurd (token_word _ _ Token.ellipsis x refl w)
  same_element (marker_parses w m) (component_parses x c k) = absurd (token_word _ _ Token.ellipsis w refl x)
  same_element (marker_parses w m) (marker_parses x k) = (refl, some_same m k, refl)

  pub same_elements : {limit level : ℕ} {allowed : Bool} {u r s : List ℕ} {es fs : List Element} → ElementsParse limit level allowed u es r → ElementsParse limit level allowed u fs s → (es ≡ fs) × (r ≡ s)
  same_elements (last_element p) (last_element q) = let e = same_element p q in (ap (λ x. x ∷ []) e.0, e.2)
  same_elements (last_element p) (next_element q qs) = absurd (true_false (sym (same_element p q).1))
  same_elements (next_element p ps) (last_element q) = absurd (true_false (same_element p q).1)
  same_elements (next_element {es = es} p ps) (next_element {e = f} q qs) =
      let e = same_element p q in
      let g = same_elements ps (elements_along (sym e.2) qs) in (ap (λ x. x ∷ es) e.0 ∙ ap (λ x. f ∷ x) g.0, g.1)

  pub same_list : {limit level : ℕ} {allowed : Bool} {u r s : List ℕ} {es fs : List Element} → ListParses limit level allowed u es r → ListParses limit level allowed u fs s → (es ≡ fs) × (r ≡ s)
  same_list (no_elements_parse o) (no_elements_parse p) = (refl, refl)
  same_list (no_elements_parse o) (some_elements_parse p m) = absurd (elements_brace p o)
  same_list (some_elements_parse p m) (no_elements_parse o) = absurd (elements_brace p o)
  same_list (some_elements_parse p m) (some_elements_parse q n) = same_elements p q

module_along : {limit : ℕ} {u v : List ℕ} {xs : List Assignment} → u ≡ v → ModuleParses limit u xs → ModuleParses limit v xs
module_along {limit = limit} {xs = xs} e p = subst (λ x. ModuleParses limit x xs) e p

-- A whole text is at most one list of assignments.
pub same_module : {limit : ℕ} {u : List ℕ} {xs ys : List Assignment} → ModuleParses limit u xs → ModuleParses limit u ys → xs ≡ ys
same_module (no_assignments o) (no_assignments p) = refl
same_module (no_assignments o) (assignment_parses w c s d rest) = absurd (token_word _ _ Token.end o refl w)
same_module (assignment_parses w c s d rest) (no_assignments o) = absurd (token_word _ _ Token.end o refl w)
same_module (assignment_parses {name = name} {n = n} {more = xs} w c s d rest) (assignment_parses {name = other} {n = m} {more = ys} x b t e more) =
    let p = same_notation d e in
    let q = same_module rest (module_along (sym p.1) more) in
    ap (λ y. record { name = y; notation = n } ∷ xs) (some_same w x) ∙ ap (λ y. record { name = other; notation = y } ∷ xs) p.0 ∙ ap (λ y. record { name = other; notation = m } ∷ y) q
