-- What a type holds lies in the years of the calendar.
use Rattle.std.proofs.Common.{◌≡◌, Bool, true, false, not, ◌&&◌, refl, sym, ap, ◌∙◌, arith, true≢false, int_lt, ℤ, pos, neg_ℤ, ◌≤ℤ◌}
use Rattle.std.specs.Cmp.{first_so, second_so}
use Rattle.std.proofs.lemmas.Int.{ints}
use Rattle.jiff_core.specs.declared.civil.date.Date.{Date}
use Rattle.jiff_core.specs.declared.civil.datetime.DateTime.{DateTime}
use Rattle.jiff_core.specs.DateTime.{IsCivilNanos, civil_nanos, civil_seconds}
use Rattle.jiff_core.specs.Date.{epoch_day}
use Rattle.jiff_core.proofs.DateTimeLemmas.{civil_nanos-civil_seconds, civil_nanos_range}
use Rattle.jiff_core.proofs.DateLemmas.{epoch_day_range}
use Rattle.jiff_core.proofs.SignedLemmas.{signed_arith}
use Rattle.jiff_core.specs.Calendar.{IsBetween, IsEpochDay}
use Rattle.asn_times.specs.Held.{IsCivilSecond, is_from_to, is_held_day, is_held_nanosecond, is_held_second}

is_from : (n low : ℤ) (b : Bool) → int_lt n low ≡ b → low ≤ℤ n → not b ≡ true
is_from n low true e h = absurd (omega (arith, ints))
is_from n low false e h = refl

from_to : (low high n : ℤ) → low ≤ℤ n → n ≤ℤ high → is_from_to low high n ≡ true
from_to low high n a b =
    ap (λ t. t && not (int_lt high n)) (is_from n low (int_lt n low) refl a)
    ∙ is_from high n (int_lt high n) refl b

-- So many days, seconds or nanoseconds lie there where the calendar has them, and only there.
pub day_held : (n : ℤ) → IsEpochDay n → is_held_day n ≡ true
day_held n r = from_to (neg_ℤ (pos 4_371_587)) (pos 2_932_896) n r.0 r.1

pub second_held : (n : ℤ) → IsCivilSecond n → is_held_second n ≡ true
second_held n r = from_to (neg_ℤ (pos 377_705_116_800)) (pos 253_402_300_799) n r.0 r.1

pub nanosecond_held : (n : ℤ) → IsCivilNanos n → is_held_nanosecond n ≡ true
nanosecond_held n r = from_to (neg_ℤ (pos 377_705_116_800_000_000_000)) (pos 253_402_300_799_999_999_999) n r.0 r.1

is_from_of : (n low : ℤ) (b : Bool) → int_lt n low ≡ b → not b ≡ true → low ≤ℤ n
is_from_of n low true e h = absurd (true≢false (sym h))
is_from_of n low false e h = omega (arith, ints)

of_from_to : (low high n : ℤ) → is_from_to low high n ≡ true → IsBetween low high n
of_from_to low high n e = (
  is_from_of n low (int_lt n low) refl (first_so (not (int_lt n low)) (not (int_lt high n)) e),
  is_from_of high n (int_lt high n) refl (second_so (not (int_lt n low)) (not (int_lt high n)) e),
)

pub held_is_day : (n : ℤ) → is_held_day n ≡ true → IsEpochDay n
held_is_day n e = of_from_to (neg_ℤ (pos 4_371_587)) (pos 2_932_896) n e

pub held_is_second : (n : ℤ) → is_held_second n ≡ true → IsCivilSecond n
held_is_second n e = of_from_to (neg_ℤ (pos 377_705_116_800)) (pos 253_402_300_799) n e

pub held_is_nanosecond : (n : ℤ) → is_held_nanosecond n ≡ true → IsCivilNanos n
held_is_nanosecond n e = of_from_to (neg_ℤ (pos 377_705_116_800_000_000_000)) (pos 253_402_300_799_999_999_999) n e

pub held_day : (d : Date) → is_held_day (epoch_day d) ≡ true
held_day d =
    let r = epoch_day_range d in
    from_to (neg_ℤ (pos 4_371_587)) (pos 2_932_896) (epoch_day d) r.0 r.1

pub held_nanosecond : (dt : DateTime) → is_held_nanosecond (civil_nanos dt) ≡ true
held_nanosecond dt =
    let r = civil_nanos_range dt in
    from_to (neg_ℤ (pos 377_705_116_800_000_000_000)) (pos 253_402_300_799_999_999_999) (civil_nanos dt) r.0 r.1

pub held_second : (dt : DateTime) → is_held_second (civil_seconds dt) ≡ true
held_second dt =
    let r = civil_nanos_range dt in
    let parts = civil_nanos-civil_seconds dt in
    let low : neg_ℤ (pos 377_705_116_800) ≤ℤ civil_seconds dt = omega (arith, signed_arith, r, dt.time.subsec_in) in
    let high : civil_seconds dt ≤ℤ pos 253_402_300_799 = omega (arith, signed_arith, r, dt.time.subsec_in) in
    from_to (neg_ℤ (pos 377_705_116_800)) (pos 253_402_300_799) (civil_seconds dt) low high
