-- What a notation can write, and why it cannot.
use Rattle.std.specs.Prelude.{◌≡◌, ◌≤ℤ◌, ◌⊎◌, ℕ, pos, negsuc, ℤ, ◌-◌, ◌^◌, length, true, false}
use Rattle.std.specs.Str.{is_utf8}
use Rattle.std.specs.Str.Lossy.{utf8_valid_len}
use Rattle.asn_fault.specs.EncodeCause.{EncodeCause}
use Rattle.asn_core.specs.declared.whole_number.WholeNumber.{WholeNumber}
use Rattle.asn_core.specs.Numbers.{is_negative, magnitude}
use Rattle.asn_strings.specs.Units.{has_text, units_valid_len}
use Rattle.asn_times.specs.Days.{IsInDayYears}
use Rattle.asn_times.specs.Generalized.{IsInGeneralizedYears}
use Rattle.asn_times.specs.Utc.{IsInUtcYears}
use Rattle.asn_model.specs.BitLeaves.{LengthStands, LengthBlocks}
use Rattle.asn_model.specs.Notation.{Notation}
use Rattle.asn_model.specs.Value.{Value, Values, Slots}
use Rattle.asn_model.specs.declared.words.TheConstants.{AVN_NO_UNICODE, OUTSIDE_YEARS}

-- The notation has the number.
abbrev pub IsEncodableInt : Notation → ℤ → Type 0
IsEncodableInt Notation.jer n = (negsuc (2 ^ 63 - 1) ≤ℤ n) × (n ≤ℤ pos (2 ^ 64 - 1))
IsEncodableInt _ n = Unit {0}

abbrev mutual
  -- The notation can write the value.
  pub Writable : Notation → Value → Type 0
  Writable n (Value.int k) = IsEncodableInt n k
  Writable n (Value.text t) = is_utf8 t ≡ true
  Writable n (Value.units u) = has_text u ≡ true
  Writable n (Value.utc k) = IsInUtcYears k
  Writable n (Value.gen k) = IsInGeneralizedYears k
  Writable n (Value.day k) = IsInDayYears k
  Writable n (Value.bits bs size) = LengthStands n size (length bs)
  Writable n (Value.members ms) = WritableSlots n ms
  Writable n (Value.list vs) = WritableEach n vs
  Writable n (Value.bag vs) = WritableEach n vs
  Writable n (Value.choice i v) = Writable n v
  Writable n _ = Unit {0}

  -- The notation can write each element.
  pub WritableEach : Notation → Values → Type 0
  WritableEach n Values.no_values = Unit {0}
  WritableEach n (Values.value v vs) = Writable n v × WritableEach n vs

  -- The notation can write each present member.
  pub WritableSlots : Notation → Slots → Type 0
  WritableSlots n Slots.no_slots = Unit {0}
  WritableSlots n (Slots.absent m ms) = WritableSlots n ms
  WritableSlots n (Slots.present m v ms) = Writable n v × WritableSlots n ms

-- Why a text is not written that stops being Unicode after so many octets or 16-bit units.
abbrev pub no_unicode : Notation → ℕ → EncodeCause
no_unicode Notation.avn place = EncodeCause.avn_encoder AVN_NO_UNICODE.now
no_unicode _ place = EncodeCause.invalid_character place

-- Why a time is not written whose year has no place in its text.
abbrev pub outside_years : EncodeCause
outside_years = EncodeCause.custom OUTSIDE_YEARS.now

-- The number as an error names it.
abbrev pub whole : ℤ → WholeNumber
whole n = record { negative = is_negative n; magnitude = magnitude n }

abbrev mutual
  -- The first part of the value that the notation cannot write is refused so. The elements of a SET OF have no order, so any of them may be it.
  pub FirstUnencodable : Notation → Value → EncodeCause → Type 0
  FirstUnencodable n (Value.int k) cause = (IsEncodableInt n k → ⊥) × (cause ≡ EncodeCause.exceeds_supported_int_size (whole k))
  FirstUnencodable n (Value.text t) cause = (is_utf8 t ≡ false) × (cause ≡ no_unicode n (utf8_valid_len t))
  FirstUnencodable n (Value.units u) cause = (has_text u ≡ false) × (cause ≡ no_unicode n (units_valid_len u))
  FirstUnencodable n (Value.utc k) cause = (IsInUtcYears k → ⊥) × (cause ≡ outside_years)
  FirstUnencodable n (Value.gen k) cause = (IsInGeneralizedYears k → ⊥) × (cause ≡ outside_years)
  FirstUnencodable n (Value.day k) cause = (IsInDayYears k → ⊥) × (cause ≡ outside_years)
  FirstUnencodable n (Value.bits bs size) cause = LengthBlocks n size (length bs) cause
  FirstUnencodable n (Value.members ms) cause = SlotsFirstUnencodable n ms cause
  FirstUnencodable n (Value.list vs) cause = EachFirstUnencodable n vs cause
  FirstUnencodable n (Value.bag vs) cause = SomeUnencodable n vs cause
  FirstUnencodable n (Value.choice i v) cause = FirstUnencodable n v cause
  FirstUnencodable n _ cause = ⊥

  -- The first element that cannot be written is refused so.
  pub EachFirstUnencodable : Notation → Values → EncodeCause → Type 0
  EachFirstUnencodable n Values.no_values cause = ⊥
  EachFirstUnencodable n (Values.value v vs) cause = FirstUnencodable n v cause ⊎ (Writable n v × EachFirstUnencodable n vs cause)

  -- An element that cannot be written is refused so.
  pub SomeUnencodable : Notation → Values → EncodeCause → Type 0
  SomeUnencodable n Values.no_values cause = ⊥
  SomeUnencodable n (Values.value v vs) cause = FirstUnencodable n v cause ⊎ SomeUnencodable n vs cause

  -- The first present member that cannot be written is refused so.
  pub SlotsFirstUnencodable : Notation → Slots → EncodeCause → Type 0
  SlotsFirstUnencodable n Slots.no_slots cause = ⊥
  SlotsFirstUnencodable n (Slots.absent m ms) cause = SlotsFirstUnencodable n ms cause
  SlotsFirstUnencodable n (Slots.present m v ms) cause = FirstUnencodable n v cause ⊎ (Writable n v × SlotsFirstUnencodable n ms cause)
