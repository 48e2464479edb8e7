use Rattle.std.proofs.Common.{refl, sym, ap, true≢false, ◌∙◌, pos}
use Rattle.asn_times.specs.Utc.{utc_digits}
use Rattle.asn_times.proofs.MomentFacts.{moment_fields, same_years}
use Rattle.asn_times.proofs.Walks.{is_utc_text}
use Rattle.asn_times.proofs.utc_times.write_utc.Goals as goal

pub returns-then-not-is_within-clause-refuses : goal.returns-then-not-is_within-clause-refuses
returns-then-not-is_within-clause-refuses c = λ r.
    let moment = c.moment_of_time-moment.result in
    true≢false (sym (c.if-not-is_within.ensures.1 (same_years (pos 1950) (pos 2049) r.utc moment (r.number ∙ sym c.moment_of_time-moment.ensures) r.years)))

pub returns-in-Ok-clause-writes : goal.returns-in-Ok-clause-writes
returns-in-Ok-clause-writes c =
    let moment = c.moment_of_time-moment.result in
    let made = c.fields_of_moment.ensures in
    record {
      utc = moment;
      years = c.if-not-is_within.ensures.0 refl;
      number = c.moment_of_time-moment.ensures;
      is = c.in-Ok.ensures.text ∙ ap utc_digits (moment_fields c.fields_of_moment.result moment made.day made.clock made.offset);
    }

pub returns-in-Err-clause-refuses : goal.returns-in-Err-clause-refuses
returns-in-Err-clause-refuses c = record {
  utc = c.moment_of_time-moment.result;
  years = c.if-not-is_within.ensures.0 refl;
  number = c.moment_of_time-moment.ensures;
}

pub returns-in-Ok-clause-text : goal.returns-in-Ok-clause-text
returns-in-Ok-clause-text c = is_utc_text c.args.time.now _ (returns-in-Ok-clause-writes c)
