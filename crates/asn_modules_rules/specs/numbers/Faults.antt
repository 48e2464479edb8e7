-- Numbers that break a rule (X.680, sections 20 and 22).
use Rattle.std.specs.Prelude.{ℕ, ℤ, int_lt, true, false, List, [], ◌∷◌, ◌++◌, if◌then◌else◌, Option, Some, None}
use Rattle.std.specs.List.{filter_map}
use Rattle.std.specs.Option.{option_and_then, option_map, option_or}
use Rattle.std.specs.Ordering.{int_eq}
use Rattle.std.specs.Set.{is_member}
use Rattle.asn_core.specs.Numbers.{is_negative}
use Rattle.asn_lexer.specs.declared.token.Token.{Token}
use Rattle.asn_modules_errors.specs.declared.cause.NameRule.{NameRule}
use Rattle.asn_modules_errors.specs.declared.cause.NameRule.TheVariants.{BitNegative, BitTwice, NumberNotRising, NumberTwice}
use Rattle.asn_modules_rules.specs.lists.Written.{Written, all_written}
use Rattle.asn_modules_names.specs.Assigned.{first_found}
use Rattle.asn_modules_names.specs.Faults.{Fault, fault_of}
use Rattle.asn_modules_names.specs.Mentions.{Source, mention_in}
use Rattle.asn_modules_grammar.specs.notation.Notation.{Base, bit_string, enumerated}
use Rattle.asn_modules_grammar.specs.declared.notation.number.Item.{Item}
use Rattle.asn_modules_rules.specs.numbers.Numbered.{numbered_bits, numbered_items, numbers_of, stated_numbers}
use Rattle.asn_modules_rules.specs.declared.numbers.numbered.Numbered.{Numbered}

-- The first name of a negative number.
abbrev pub first_negative : List Numbered → Option Token
first_negative [] = None
first_negative (x ∷ xs) = if is_negative x.number then Some x.name else first_negative xs

-- The first name whose number is that of one before it; some numbers before it are given.
abbrev pub first_repeated : List ℤ → List Numbered → Option Token
first_repeated before [] = None
first_repeated before (x ∷ xs) =
    if is_member int_eq before x.number then Some x.name
    else first_repeated (before ++ x.number ∷ []) xs

-- The first name whose number is below the one before it; the last one before them is given.
abbrev pub first_below : ℤ → List Numbered → Option Token
first_below last [] = None
first_below last (x ∷ xs) = if int_lt x.number last then Some x.name else first_below x.number xs

abbrev pub first_falling : List Numbered → Option Token
first_falling [] = None
first_falling (x ∷ xs) = first_below x.number xs

-- The name breaks the rule.
abbrev pub breaks : NameRule → Option Token → Option (NameRule × Token)
breaks rule name = option_map (λ t. (rule, t)) name

-- What breaks a rule in bits with these numbers.
abbrev pub bits_fault : List Numbered → Option (NameRule × Token)
bits_fault bits =
    option_or (breaks BitNegative (first_negative bits)) (breaks BitTwice (first_repeated [] bits))

-- What does in items with these numbers, those of the root and of extension additions.
abbrev pub items_fault : List Numbered → List Numbered → Option (NameRule × Token)
items_fault root added =
    option_or (breaks NumberTwice (first_repeated [] (root ++ added)))
    (breaks NumberNotRising (first_falling added))

-- What does in these items, unless one of their numbers isn't known.
abbrev pub added_fault : List ℕ → List Item → List Numbered → Option (NameRule × Token)
added_fault text added root =
    option_and_then (items_fault root) (numbered_items true text (numbers_of root) added)

abbrev pub enumerated_fault : List ℕ → List Item → List Item → Option (NameRule × Token)
enumerated_fault text root added =
    option_and_then (added_fault text added)
    (numbered_items false text (stated_numbers text root) root)

-- The items before the extension marker.
abbrev pub root_items : List (Option Item) → List Item
root_items [] = []
root_items (None ∷ items) = []
root_items (Some i ∷ items) = i ∷ root_items items

-- The items after it.
abbrev pub added_items : List (Option Item) → List Item
added_items [] = []
added_items (None ∷ items) = filter_map (λ i. i) items
added_items (Some i ∷ items) = added_items items

-- What breaks a rule in the numbers of the type.
abbrev pub number_fault : List ℕ → Base → Option (NameRule × Token)
number_fault text (bit_string bits) = bits_fault (numbered_bits text bits)
number_fault text (enumerated items) = enumerated_fault text (root_items items) (added_items items)
number_fault text base = None

abbrev pub numbers_fault : Written → Option Fault
numbers_fault w =
    option_map (λ p. fault_of p.0 (mention_in w.source p.1)) (number_fault w.source.text w.base)

-- The first that one of the types in these texts has.
abbrev pub first_number_fault : List Source → Option Fault
first_number_fault ss = first_found numbers_fault (all_written ss)
