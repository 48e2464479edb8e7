-- A moment that is so many seconds after the first of 1970 has no fraction of a second.
use Rattle.std.proofs.Common.{◌≡◌, ◌<◌, arith, ℤ, pos, ◌*ℤ◌}
use Rattle.jiff_core.specs.DateTime.{civil_nanos, civil_seconds}
use Rattle.jiff_core.specs.declared.civil.datetime.DateTime.{DateTime}
use Rattle.jiff_core.proofs.DateTimeLemmas.{civil_nanos-civil_seconds}
use Rattle.jiff_core.proofs.SignedLemmas.{signed_arith}

pub whole_second : (dt : DateTime) (n : ℤ) → civil_nanos dt ≡ n *ℤ pos 1_000_000_000 → (civil_seconds dt ≡ n) × (dt.time.subsec_nanosecond ≡ 0)
whole_second dt n e =
    let s = civil_nanos-civil_seconds dt in
    let b : dt.time.subsec_nanosecond < 1_000_000_000 = omega (arith, dt.time.subsec_in) in
    (omega (arith, signed_arith, s, e, b), omega (arith, signed_arith, s, e, b))
