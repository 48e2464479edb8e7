-- Items that were given their numbers so far.
use Rattle.std.proofs.Common.{◌≡◌, ℕ, ℤ, pos, ◌+◌, ◌<◌, ◌^◌, ◌-◌, int_lt, List, [], ◌∷◌, ◌++◌, Bool, true, false, ◌&&◌, if◌then◌else◌, Option, Some, None, refl, sym, ap, ◌∙◌, get_or, drop, length, append_assoc, arith}
use Rattle.std.proofs.lemmas.Int.{ints}
use Rattle.std.proofs.lemmas.List.{drop_more}
use Rattle.std.proofs.lemmas.List.Folds.{list_all-append}
use Rattle.std.specs.List.{list_all}
use Rattle.asn_modules_grammar.specs.declared.notation.number.Item.{Item}
use Rattle.asn_modules_rules.specs.numbers.Numbered.{if_small, next_behind, number_or_free, numbered_from}
use Rattle.asn_modules_rules.specs.numbers.Stated.{item_number}
use Rattle.asn_modules_rules.specs.declared.numbers.numbered.Numbered.{Numbered}

abbrev is_small : Numbered → Bool
is_small x = int_lt x.number (pos (2 ^ 64))

pub below_limit : (n : ℤ) → int_lt (pos (2 ^ 64 - 1)) n ≡ false → int_lt n (pos (2 ^ 64)) ≡ true
below_limit n h = grind (arith, ints)

all_small : (b : Bool) (xs : List Numbered) → (if b then Some xs else None) ≡ Some xs → b ≡ true
all_small true xs e = refl
all_small false xs e = let x : ⊥ = cc in absurd x

-- One more number that is small.
pub small_more : (xs new : List Numbered) (x : Numbered) → if_small xs ≡ Some xs → int_lt x.number (pos (2 ^ 64)) ≡ true → new ≡ xs ++ x ∷ [] → if_small new ≡ Some new
small_more xs new x was small e =
    ap (λ b. if b then Some new else None)
    (ap (list_all is_small) e ∙ list_all-append is_small xs (x ∷ []) ∙ ap (λ b. b && (is_small x && true)) (all_small (list_all is_small xs) xs was) ∙ ap (λ b. true && (b && true)) small)

-- One more item.
pub item_added : (added : Bool) (text : List ℕ) (taken : List ℤ) (next behind : ℤ) (items : List Item) (i : ℕ) (d : Item) (found new : List Numbered) (n : ℤ) (stated : Option ℤ) → i < length items
    → stated ≡ item_number text (get_or items i d) → n ≡ number_or_free taken next stated → behind ≡ next_behind added next n stated → new ≡ found ++ record { name = (get_or items i d).name; number = n } ∷ []
    → found ++ numbered_from added text taken next (drop i items) ≡ new ++ numbered_from added text taken behind (drop (i + 1) items)
item_added added text taken next behind items i d found new n stated l s e t p =
    let item = get_or items i d in
    let rest = drop (i + 1) items in
    ap (λ xs. found ++ numbered_from added text taken next xs) (drop_more items i d l)
    ∙ ap (λ o. found ++ record { name = item.name; number = number_or_free taken next o } ∷ numbered_from added text taken (next_behind added next (number_or_free taken next o) o) rest) (sym s)
    ∙ ap (λ m. found ++ record { name = item.name; number = m } ∷ numbered_from added text taken (next_behind added next m stated) rest) (sym e)
    ∙ ap (λ m. found ++ record { name = item.name; number = n } ∷ numbered_from added text taken m rest) (sym t)
    ∙ sym (append_assoc found (record { name = item.name; number = n } ∷ []) (numbered_from added text taken behind rest))
    ∙ ap (λ l. l ++ numbered_from added text taken behind rest) (sym p)
