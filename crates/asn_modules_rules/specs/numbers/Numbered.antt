-- The numbers of items and bits (X.680, sections 20 and 22).
use Rattle.std.specs.Prelude.{◌≡◌, ℕ, zero, suc, ℤ, pos, ◌+ℤ◌, ◌^◌, int_lt, length, List, [], ◌∷◌, map, Bool, ◌||◌, not, if◌then◌else◌, is_some, Option, Some, None}
use Rattle.std.specs.HashSet.{HashSet, contains}
use Rattle.std.specs.List.{filter_map, list_all}
use Rattle.std.specs.Option.{option_map}
use Rattle.std.specs.Ordering.{int_eq}
use Rattle.std.specs.Set.{is_member}
use Rattle.asn_core.specs.Numbers.{is_negative}
use Rattle.asn_modules_grammar.specs.declared.notation.number.Item.{Item}
use Rattle.asn_modules_grammar.specs.declared.notation.number.NamedNumber.{NamedNumber}
use Rattle.asn_modules_rules.specs.numbers.Stated.{are_plain, item_number, stated}
use Rattle.asn_modules_rules.specs.declared.numbers.numbered.Numbered.{Numbered}

-- The set has these numbers.
pub record Holds {S : Type 0} (set : HashSet ℤ S) (numbers : List ℤ) : Type 0 where
  pub has : (n : ℤ) → contains int_eq set n ≡ is_member int_eq numbers n

-- The first of n and so many numbers after it that isn't taken; the last where all are.
abbrev pub first_free : ℕ → List ℤ → ℤ → ℤ
first_free zero taken n = n
first_free (suc more) taken n =
    if is_member int_eq taken n then first_free more taken (n +ℤ pos 1) else n

-- The first number from n on that isn't taken: one of so many successive ones isn't.
abbrev pub free_from : List ℤ → ℤ → ℤ
free_from taken n = first_free (length taken) taken n

-- The number of an item: the one that it states, else the first from `next` on that isn't taken.
abbrev pub number_or_free : List ℤ → ℤ → Option ℤ → ℤ
number_or_free taken next (Some n) = n
number_or_free taken next None = free_from taken next

-- The least number above this one that isn't negative.
abbrev pub above : ℤ → ℤ
above n = if is_negative n then pos 0 else n +ℤ pos 1

-- The least number that the items after one of this number may be given. Items that state theirs
-- count for that in additions alone.
abbrev pub next_behind : Bool → ℤ → ℤ → Option ℤ → ℤ
next_behind added next n number = if added || not (is_some number) then above n else next

-- Items with their numbers, in order. Those that state none are given the least ones that aren't
-- taken, in the root from 0 on, and in additions above the one before (X.680, sections 20.5 and
-- 20.7).
abbrev pub numbered_from : Bool → List ℕ → List ℤ → ℤ → List Item → List Numbered
numbered_from added text taken next [] = []
numbered_from added text taken next (i ∷ is) =
    record { name = i.name; number = number_or_free taken next (item_number text i) }
    ∷ numbered_from added text taken
    (next_behind added next (number_or_free taken next (item_number text i)) (item_number text i)) is

-- The numbers, if all are below 2^64.
abbrev pub if_small : List Numbered → Option (List Numbered)
if_small ns = if list_all (λ x. int_lt x.number (pos (2 ^ 64))) ns then Some ns else None

-- The numbers alone.
abbrev pub numbers_of : List Numbered → List ℤ
numbers_of ns = map (λ x. x.number) ns

-- The numbers that items state.
abbrev pub stated_numbers : List ℕ → List Item → List ℤ
stated_numbers text items = filter_map (item_number text) items

-- The items with their numbers, where these numbers are taken; none where one states a number that
-- isn't known, or one has a number of more than 64 bits.
abbrev pub numbered_items : Bool → List ℕ → List ℤ → List Item → Option (List Numbered)
numbered_items added text taken items =
    if are_plain text items then if_small (numbered_from added text taken (pos 0) items) else None

-- The bits whose numbers are stated in digits, with them.
abbrev pub numbered_bit : List ℕ → NamedNumber → Option Numbered
numbered_bit text b = option_map (λ n. record { name = b.name; number = n }) (stated text b.number)

abbrev pub numbered_bits : List ℕ → List NamedNumber → List Numbered
numbered_bits text bits = filter_map (numbered_bit text) bits
