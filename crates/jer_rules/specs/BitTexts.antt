-- Bit strings as JSON has them.
use Rattle.std.specs.Prelude.{◌≡◌, ◌≢◌, ℕ, List, Bool, length, Option, Some, None, Result, Ok, Err, codes, option_and_then}
use Rattle.std.specs.Int.{div_ceil}
use Rattle.serde_json.specs.Data.{Data, Members, Num, put}
use Rattle.serde_json.specs.Find.{as_str, get}
use Rattle.hex.specs.Hex.{decode_of, encode_upper}
use Rattle.hex.specs.declared.error.FromHexError.{FromHexError}
use Rattle.asn_core.specs.BitStrings.{bits_of}
use Rattle.asn_traits.specs.Leaf.{length_in}
use Rattle.jer_rules.specs.declared.jer.bits.NoBits.{NoBits}
use Rattle.jer_rules.specs.declared.jer.bits.NoBits.TheVariants as no

-- The members of the object that is written for bits, by their octets and how many they are.
abbrev pub bit_members : List ℕ → ℕ → Members
bit_members octets size = put (codes "length") (Data.number (Num.unsigned size)) (put (codes "value") (Data.string (encode_upper octets)) Members.no_members)

-- The bits are the first ones of the octets that the digits say, which are as many as so many bits take, or why there are none.
abbrev pub ReadsBits : List ℕ → ℕ → Result (List Bool) NoBits → Type 0
ReadsBits digits size (Ok bits) = (octets : List ℕ) × (decode_of digits ≡ Ok octets) × (length octets ≡ div_ceil size 8) × (bits ≡ bits_of octets size)
ReadsBits digits size (Err no.Digits) = (e : FromHexError) × (decode_of digits ≡ Err e)
ReadsBits digits size (Err (no.Count n)) = (octets : List ℕ) × (decode_of digits ≡ Ok octets) × (length octets ≡ n) × (length octets ≢ div_ceil size 8)
ReadsBits digits size (Err no.OutOfMemory) = Unit {0}

-- The digits of a member `value`.
abbrev pub digits_at : Data → Option (List ℕ)
digits_at d = option_and_then as_str (get (codes "value") d)

-- The length of a member `length`.
abbrev pub length_at : Data → Option ℕ
length_at d = option_and_then length_in (get (codes "length") d)

-- One of them isn't there.
abbrev pub LacksBits : Option (List ℕ) → Option ℕ → Type 0
LacksBits (Some digits) (Some size) = ⊥
LacksBits digits size = Unit {0}

-- What the members `value` and `length` say, and nothing exactly where one of them isn't there.
abbrev pub IsDeclared : Data → Option (ℕ × Result (List Bool) NoBits) → Type 0
IsDeclared d (Some (size, r)) = (digits : List ℕ) × (digits_at d ≡ Some digits) × (length_at d ≡ Some size) × ReadsBits digits size r
IsDeclared d None = LacksBits (digits_at d) (length_at d)
