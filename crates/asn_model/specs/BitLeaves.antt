-- Bit strings as the notations write and read them (X.680, section 22).
use Rattle.std.specs.Prelude.{◌≡◌, ◌≢◌, ℕ, ◌-◌, ◌*◌, ◌%◌, ◌^◌, ◌<◌, List, ◌++◌, length, ◌==◌, if◌then◌else◌, Option, Some, None, Result, Ok, Err, codes}
use Rattle.std.specs.Fmt.{decimal}
use Rattle.hex.specs.declared.error.FromHexError.{FromHexError}
use Rattle.std.specs.Int.{div_ceil}
use Rattle.asn_core.specs.BitStrings.{bits_of}
use Rattle.asn_core.specs.declared.constraint.Bounded.TheVariants.{Single}
use Rattle.asn_fault.specs.Failure.{Cause}
use Rattle.asn_fault.specs.EncodeCause.{EncodeCause}
use Rattle.asn_model.specs.Notation.{Notation}
use Rattle.asn_model.specs.Value.{Value}
use Rattle.asn_model.specs.declared.words.TheConstants.{JER_NO_BITS}

-- What is wrong with digits that are no octets, where a length stands beside them.
abbrev pub no_bits : Cause
no_bits = Cause.custom JER_NO_BITS.now

-- How many bits so many octets hold, less those of the last octet that a length leaves unused.
abbrev pub held_bits : ℕ → ℕ → ℕ
held_bits octets size = 8 * octets - (8 - size % 8) % 8

-- What is wrong with so many octets for a length.
abbrev pub another_length : ℕ → ℕ → Cause
another_length octets size = Cause.custom (JER_NO_BITS.now ++ (codes ": invalid value length (was: " ++ (decimal (held_bits octets size) ++ (codes ", expected: " ++ (decimal size ++ codes ")")))))

-- The first bits of the octets that digits say, or what is wrong where they say none, or not as many as these bits take.
abbrev pub sized_bits : Option ℕ → ℕ → Cause → Result (List ℕ) FromHexError → Result Value Cause
sized_bits mark size bad (Ok octets) = if length octets == div_ceil size 8 then Ok (Value.bits (bits_of octets size) mark) else Err (another_length (length octets) size)
sized_bits mark size bad (Err e) = Err bad

-- JER writes so many bits where they are as many as a fixed size, and any number that a length can tell. AVN writes all.
abbrev pub LengthStands : Notation → Option ℕ → ℕ → Type 0
LengthStands Notation.jer (Some size) n = n ≡ size
LengthStands Notation.jer None n = n < 2 ^ 64
LengthStands _ mark n = Unit {0}

-- JER refuses so many bits where a fixed size is another.
abbrev pub LengthBlocks : Notation → Option ℕ → ℕ → EncodeCause → Type 0
LengthBlocks Notation.jer (Some size) n cause = (n ≢ size) × (cause ≡ EncodeCause.size_constraint_not_satisfied n (Single size))
LengthBlocks _ mark n cause = ⊥
