-- The items that a reader goes over.
use Rattle.std.proofs.Common.{◌≡◌, ◌≢◌, ◌≤◌, ◌+◌, ℕ, List, [], ◌∷◌, ◌++◌, drop, Bool, true, false, nat_le, cond, Option, Some, None, refl, sym, ap, subst, ◌∙◌, append_assoc, arith}
use Rattle.std.proofs.lemmas.Bool.{leb-true, leb-false, le-leb}
use Rattle.std.proofs.lemmas.List.Sums.{sum_by-append}
use Rattle.std.specs.List.{count_by}
use Rattle.asn_lexer.specs.declared.kind.Kind.TheVariants as kind
use Rattle.asn_lexer.specs.declared.token.Token.{Token}
use Rattle.asn_modules_grammar.specs.notation.Kinds.{first_kind}
use Rattle.asn_modules_grammar.specs.notation.Lists.{Listed, last_entry, next_entry}
use Rattle.asn_modules_grammar.specs.notation.Numbers.{ItemsParse, no_items, some_items, item_at, is_item_marker}
use Rattle.asn_modules_grammar.specs.declared.notation.number.Item.{Item}
use Rattle.asn_modules_grammar.proofs.notation.OneText.{same_items}
use Rattle.asn_modules_reader.specs.parts.EntryLists.{is_marker}
use Rattle.asn_modules_reader.proofs.parts.Repeats.{true_false, some_same}
use Rattle.asn_modules_reader.proofs.parts.Runs.{Going, going_last, going_none}

-- Both say the same of items.
marker_is : (i : Option Item) → is_item_marker i ≡ is_marker i
marker_is None = refl
marker_is (Some i) = refl

pub counted_alike : (xs : List (Option Item)) → count_by is_item_marker xs ≡ count_by is_marker xs
counted_alike xs = refl

-- A list that goes on with more than this has as many markers.
over : (seen : List (Option Item)) (xs : List (Option Item)) (n : ℕ) → nat_le (count_by is_marker seen) n ≡ false → nat_le (count_by is_item_marker (seen ++ xs)) n ≡ true → ⊥
over seen xs n a b =
    let c = counted_alike (seen ++ xs) in
    let d = sum_by-append (λ x. cond (is_marker x) 1 0) seen xs in
    let e = leb-false (count_by is_marker seen) n a in
    let f = leb-true (count_by is_item_marker (seen ++ xs)) n b in
    let y : ⊥ = omega arith in y

-- No items.
pub no_items_read : (u v : List Token) (xs : List (Option Item)) → first_kind u ≡ Some kind.CloseBrace → v ≡ drop 1 u → xs ≡ [] → ItemsParse u xs v
no_items_read u v xs h e n = subst (λ z. ItemsParse u z v) (sym n) (subst (λ z. ItemsParse u [] z) (sym e) (no_items h))

-- All items.
pub all_items_read : (u v : List Token) (xs : List (Option Item)) → Listed item_at u xs v → nat_le (count_by is_marker xs) 1 ≡ true → ItemsParse u xs v
all_items_read u v xs p m = some_items p (ap (λ n. nat_le n 1) (counted_alike xs) ∙ m)

-- None are a list where none stand from here on.
pub items_none : (u here : List Token) (seen : List (Option Item)) → first_kind u ≢ Some kind.CloseBrace → Going (Listed item_at) u here seen → ((xs : List (Option Item)) (rest : List Token) → Listed item_at here xs rest → ⊥)
    → (ys : List (Option Item)) (rest : List Token) → ItemsParse u ys rest → ⊥
items_none u here seen c g none ys rest (no_items h) = c h
items_none u here seen c g none ys rest (some_items p m) = going_none (Listed item_at) u here seen g none ys rest p

listed_first : {A : Type 0} {f : List Token → Option (A × List Token)} {u v rest : List Token} {x : A} {ys : List A} → f u ≡ Some (x, v) → Listed f u ys rest → (xs : List A) × (ys ≡ x ∷ xs)
listed_first e (last_entry h d) = ([], ap (λ z. z.0 ∷ []) (some_same h e))
listed_first e (next_entry {xs = xs} h d p) = (xs, ap (λ z. z.0 ∷ xs) (some_same h e))

-- With this item there are too many markers.
pub items_over : (u here behind : List Token) (seen : List (Option Item)) (i : Option Item) → first_kind u ≢ Some kind.CloseBrace → Going (Listed item_at) u here seen → item_at here ≡ Some (i, behind)
    → nat_le (count_by is_marker (seen ++ i ∷ [])) 1 ≡ false → (ys : List (Option Item)) (rest : List Token) → ItemsParse u ys rest → ⊥
items_over u here behind seen i c g e m ys rest (no_items h) = c h
items_over u here behind seen i c g e m ys rest (some_items p n) =
    let b = g.backward ys rest p in
    let f = listed_first e b.1 in
    over (seen ++ i ∷ []) f.0 1 m
    (subst (λ z. nat_le (count_by is_item_marker z) 1 ≡ true) (b.2 ∙ ap (λ z. seen ++ z) f.1 ∙ sym (append_assoc seen (i ∷ []) f.0)) n)

pub two_of_one : (n : ℕ) → nat_le n 1 ≡ true → nat_le n 2 ≡ true
two_of_one n e = le-leb n 2 (let f = leb-true n 1 e in omega arith)
