-- Numbers as they are stated in texts.
use Rattle.std.specs.Prelude.{ℕ, ℤ, pos, neg_ℤ, ◌^◌, nat_lt, List, Bool, true, if◌then◌else◌, is_some, Option, Some, None}
use Rattle.std.specs.List.{list_all}
use Rattle.std.specs.Option.{option_and_then, option_map}
use Rattle.asn_model.specs.Digits.{digits}
use Rattle.asn_modules_errors.specs.Slices.{text_of}
use Rattle.asn_modules_grammar.specs.declared.notation.number.Constant.{Constant}
use Rattle.asn_modules_grammar.specs.declared.notation.number.Constant.TheVariants as constant
use Rattle.asn_modules_grammar.specs.declared.notation.number.Item.{Item}

-- The number, if it has at most so many bits.
abbrev pub within_bits : ℕ → Option ℕ → Option ℕ
within_bits bits None = None
within_bits bits (Some n) = if nat_lt n (2 ^ bits) then Some n else None

abbrev pub signed : Bool → ℕ → ℤ
signed negative n = if negative then neg_ℤ (pos n) else pos n

-- The number that the constant states in decimal digits, if they have at most 64 bits. The name of
-- a value states none.
abbrev pub stated : List ℕ → Constant → Option ℤ
stated text (constant.Number n) =
    option_map (signed n.negative) (within_bits 64 (digits (text_of text n.digits)))
stated text (constant.Name t) = None

-- The number that the item states so.
abbrev pub item_number : List ℕ → Item → Option ℤ
item_number text i = option_and_then (stated text) i.number

-- The item states its number so, or states none.
abbrev pub is_plain_number : List ℕ → Option Constant → Bool
is_plain_number text None = true
is_plain_number text (Some c) = is_some (stated text c)

abbrev pub are_plain : List ℕ → List Item → Bool
are_plain text items = list_all (λ i. is_plain_number text i.number) items
