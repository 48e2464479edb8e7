use Rattle.std.proofs.Common.{◌≡◌, ap, ◌∙◌, arith, pos, ◌*ℤ◌}
use Rattle.jiff_core.specs.DateTime.{civil_nanos}
use Rattle.jiff_core.proofs.SignedLemmas.{signed_arith}
use Rattle.asn_times.proofs.HeldTimes.{held_is_second}
use Rattle.asn_civil.proofs.WholeSeconds.{whole_second}
use Rattle.asn_civil.proofs.civil_times.UtcTimeCivilUtcTime.moment.Goals as goal

pub returns-clause-value : goal.returns-clause-value
returns-clause-value c =
    let in_range = held_is_second c.seconds.result c.seconds.ensures.held in
    let e : civil_nanos c.from_nanosecond_in_range.result ≡ c.args.self.now *ℤ pos 1_000_000_000 = omega (arith, signed_arith, c.from_nanosecond_in_range.ensures, c.seconds.ensures.value, in_range) in
    (whole_second c.from_plain.result c.args.self.now (ap civil_nanos c.from_plain.ensures ∙ e)).0

pub returns-clause-whole : goal.returns-clause-whole
returns-clause-whole c =
    let in_range = held_is_second c.seconds.result c.seconds.ensures.held in
    let e : civil_nanos c.from_nanosecond_in_range.result ≡ c.args.self.now *ℤ pos 1_000_000_000 = omega (arith, signed_arith, c.from_nanosecond_in_range.ensures, c.seconds.ensures.value, in_range) in
    (whole_second c.from_plain.result c.args.self.now (ap civil_nanos c.from_plain.ensures ∙ e)).1
