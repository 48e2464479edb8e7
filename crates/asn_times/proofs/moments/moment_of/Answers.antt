use Rattle.std.proofs.Common.{◌≡◌, refl, sym, true≢false, pos, ◌*ℤ◌, arith}
use Rattle.jiff.proofs.SpanFacts.{signed_arith}
use Rattle.asn_times.proofs.MomentFacts.{moment_in_range, one_moment, same_years, shifted_moment}
use Rattle.asn_times.proofs.moments.moment_of.Goals as goal

pub returns-then-is_within : goal.returns-then-is_within
returns-then-is_within c =
    let o : c.from_secs-offset.result.nanos ≡ c.args.fields.offset *ℤ pos 1_000_000_000 = omega (arith, signed_arith, c.from_secs-offset.ensures, c.requires) in
    let years = c.if-is_within.ensures.0 refl in (
      shifted_moment c.args.fields c.from_parts-local.result c.in-Ok.utc c.in_ok-date.date c.in_ok-time.time c.from_secs-offset.result.nanos c.in_ok-date.ensures c.in_ok-time.ensures c.from_parts-local.ensures.date c.from_parts-local.ensures.time o c.in-Ok.ensures.value,
      (omega (arith, signed_arith, years, c.ranges.first), omega (arith, signed_arith, years, c.ranges.last)),
    )

pub returns-else-is_within : goal.returns-else-is_within
returns-else-is_within c = λ utc m years.
    let o : c.from_secs-offset.result.nanos ≡ c.args.fields.offset *ℤ pos 1_000_000_000 = omega (arith, signed_arith, c.from_secs-offset.ensures, c.requires) in
    let moment = shifted_moment c.args.fields c.from_parts-local.result c.in-Ok.utc c.in_ok-date.date c.in_ok-time.time c.from_secs-offset.result.nanos c.in_ok-date.ensures c.in_ok-time.ensures c.from_parts-local.ensures.date c.from_parts-local.ensures.time o c.in-Ok.ensures.value in
    let y = same_years c.args.first c.args.last utc c.in-Ok.utc (one_moment c.args.fields utc c.in-Ok.utc m moment) years in
    true≢false (sym (c.if-is_within.ensures.1 (omega (arith, signed_arith, y, c.ranges.first), omega (arith, signed_arith, y, c.ranges.last))))

pub returns-in-Err : goal.returns-in-Err
returns-in-Err c = λ utc m years.
    let o : c.from_secs-offset.result.nanos ≡ c.args.fields.offset *ℤ pos 1_000_000_000 = omega (arith, signed_arith, c.from_secs-offset.ensures, c.requires) in
    true≢false (sym (c.in-Err.ensures.succeeds.1 (moment_in_range c.args.fields c.from_parts-local.result utc c.in_ok-date.date c.in_ok-time.time c.from_secs-offset.result.nanos c.in_ok-date.ensures c.in_ok-time.ensures c.from_parts-local.ensures.date c.from_parts-local.ensures.time o m)))
