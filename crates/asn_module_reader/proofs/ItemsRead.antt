-- The items of an ENUMERATED that a reader goes over.
use Rattle.std.proofs.Common.{◌≡◌, ℕ, List, [], ◌∷◌, ◌++◌, Bool, true, false, Option, Some, None, refl, sym, ap, subst, ◌∙◌}
use Rattle.asn_notation.specs.Grammar.{separator_of, ItemParses, item_parses, item_marker_parses, ItemsParse, last_item, next_item, ItemListParses, no_items, some_items}
use Rattle.asn_notation.specs.Notation.{any, is_item_marker}
use Rattle.asn_notation.specs.Tokens.{Token, first_token, past_token, word_of}
use Rattle.asn_notation.proofs.Inverted.{token_word}
use Rattle.asn_notation.proofs.OneNotation.{same_item}
use Rattle.asn_module_reader.specs.EntryLists.{Allows}
use Rattle.asn_module_reader.proofs.Markers.{single_last}
use Rattle.asn_module_reader.proofs.Runs.{First, Others, IsRun, Going, going_none, going_last}

true_false : true ≡ false → ⊥
true_false e = cc

items_first : (u rest : List ℕ) (xs : List (Option (List ℕ))) → ItemsParse u xs rest → First ItemParses u xs
items_first u rest xs (last_item {i = i} p) = record { entry = i; more = false; left = rest; others = []; parses = p; made = refl }
items_first u rest xs (next_item {v = v} {i = i} {items = items} p q) = record { entry = i; more = true; left = v; others = items; parses = p; made = refl }

items_behind : (u v rest : List ℕ) (x : Option (List ℕ)) (xs : List (Option (List ℕ))) → ItemParses u x true v → ItemsParse u xs rest → Others ItemsParse v rest x xs
items_behind u v rest x xs p (last_item q) = absurd (true_false (same_item p q).1)
items_behind u v rest x xs p (next_item {items = items} q qs) =
    let e = same_item p q in
    record { others = items; parses = subst (λ y. ItemsParse y items rest) (sym e.2) qs; made = ap (λ y. y ∷ items) (sym e.0) }

pub items_run : IsRun ItemParses ItemsParse
items_run = record { last = λ u rest x p. last_item p; next = λ u v rest x xs p q. next_item p q; first = items_first; behind = items_behind }

-- An item's name and what ends it.
pub item_named : (u v rest name : List ℕ) (more : Bool) → Token.word name ≡ first_token u → v ≡ past_token u → separator_of (first_token v) ≡ Some more → rest ≡ past_token v → ItemParses u (Some name) more rest
item_named u v rest name more e m s k =
    subst (λ x. ItemParses u (Some name) more x) (sym (k ∙ ap past_token m)) (item_parses (sym (ap word_of e)) (subst (λ x. separator_of (first_token x) ≡ Some more) m s))

-- The extension marker and what ends it.
pub item_marked : (u v rest : List ℕ) (more : Bool) → Token.ellipsis ≡ first_token u → v ≡ past_token u → separator_of (first_token v) ≡ Some more → rest ≡ past_token v → ItemParses u None more rest
item_marked u v rest more e m s k =
    subst (λ x. ItemParses u None more x) (sym (k ∙ ap past_token m)) (item_marker_parses (sym e) (subst (λ x. separator_of (first_token x) ≡ Some more) m s))

-- Nothing ends the item.
pub item_unended : (u v : List ℕ) → v ≡ past_token u → separator_of (first_token v) ≡ None → (i : Option (List ℕ)) (more : Bool) (rest : List ℕ) → ItemParses u i more rest → ⊥
item_unended u v m s i more rest (item_parses w h) = let e : None ≡ Some more = sym s ∙ ap (λ x. separator_of (first_token x)) m ∙ h in cc
item_unended u v m s i more rest (item_marker_parses w h) = let e : None ≡ Some more = sym s ∙ ap (λ x. separator_of (first_token x)) m ∙ h in cc

-- The extension marker stands again.
pub item_repeated : (u : List ℕ) (seen : List (Option (List ℕ))) → Token.ellipsis ≡ first_token u → any is_item_marker seen ≡ true → (i : Option (List ℕ)) (more : Bool) (rest : List ℕ) → ItemParses u i more rest → Allows is_item_marker seen i → ⊥
item_repeated u seen e t i more rest (item_parses w h) allows = token_word _ _ Token.ellipsis (sym e) refl w
item_repeated u seen e t i more rest (item_marker_parses w h) allows = true_false (sym t ∙ allows refl)

-- Another token begins no item.
pub item_other : (u : List ℕ) (t : Token) → t ≡ first_token u → word_of t ≡ None → (t ≡ Token.ellipsis → ⊥) → (i : Option (List ℕ)) (more : Bool) (rest : List ℕ) → ItemParses u i more rest → ⊥
item_other u t e n k i more rest (item_parses w h) = token_word _ _ t (sym e) n w
item_other u t e n k i more rest (item_marker_parses w h) = k (e ∙ w)

-- No items that go on here are a list.
pub no_item_list : {first start here : List ℕ} {seen : List (Option (List ℕ))} → (first_token first ≡ Token.close_brace → ⊥) → start ≡ first → Going is_item_marker ItemsParse start here seen
    → ((i : Option (List ℕ)) (more : Bool) (rest : List ℕ) → ItemParses here i more rest → Allows is_item_marker seen i → ⊥) → (xs : List (Option (List ℕ))) (rest : List ℕ) → ItemListParses first xs rest → ⊥
no_item_list closes same g none xs rest (no_items o) = closes o
no_item_list closes same g none xs rest (some_items p m) = going_none items_run g none xs rest (subst (λ x. ItemsParse x xs rest) (sym same) p) m

-- No items.
pub empty_item_list : (u rest : List ℕ) (items : List (Option (List ℕ))) → first_token u ≡ Token.close_brace → rest ≡ past_token u → items ≡ [] → ItemListParses u items rest
empty_item_list u rest items o k n = subst (λ x. ItemListParses u x rest) (sym n) (subst (λ x. ItemListParses u [] x) (sym k) (no_items o))

-- All items, with the last one.
pub item_list : {first start here rest : List ℕ} {seen all : List (Option (List ℕ))} {more : Bool} (i : Option (List ℕ)) → start ≡ first → Going is_item_marker ItemsParse start here seen → ItemParses here i more rest → more ≡ false
    → Allows is_item_marker seen i → all ≡ seen ++ i ∷ [] → ItemListParses first all rest
item_list {first = first} {here = here} {rest = rest} {seen = seen} i same g p last allows n =
    subst (λ x. ItemListParses first x rest) (sym n)
    (some_items (subst (λ x. ItemsParse x (seen ++ i ∷ []) rest) same (going_last items_run g (subst (λ x. ItemParses here i x rest) last p))) (single_last is_item_marker seen i g.single allows))
