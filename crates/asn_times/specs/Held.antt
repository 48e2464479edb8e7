-- The times that the types hold: those of the years -9999 to 9999.
use Rattle.std.specs.Prelude.{Bool, not, ◌&&◌, int_lt, ℤ, pos, neg_ℤ}
use Rattle.jiff_core.specs.Calendar.{IsBetween}

-- The number lies from low to high.
abbrev pub is_from_to : ℤ → ℤ → ℤ → Bool
is_from_to low high n = not (int_lt n low) && not (int_lt high n)

-- The day, counted from 1970-01-01.
abbrev pub is_held_day : ℤ → Bool
is_held_day n = is_from_to (neg_ℤ (pos 4_371_587)) (pos 2_932_896) n

-- The second, counted from 1970-01-01T00:00:00 in UTC.
abbrev pub is_held_second : ℤ → Bool
is_held_second n = is_from_to (neg_ℤ (pos 377_705_116_800)) (pos 253_402_300_799) n

-- The nanosecond, counted likewise.
abbrev pub is_held_nanosecond : ℤ → Bool
is_held_nanosecond n =
    is_from_to (neg_ℤ (pos 377_705_116_800_000_000_000)) (pos 253_402_300_799_999_999_999) n

-- The second, as a fact.
abbrev pub IsCivilSecond : ℤ → Type 0
IsCivilSecond n = IsBetween (neg_ℤ (pos 377_705_116_800)) (pos 253_402_300_799) n
