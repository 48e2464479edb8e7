use Rattle.std.proofs.Common.{◌∙◌, sym, subst, arith}
use Rattle.jiff_core.proofs.SignedLemmas.{signed_arith}
use Rattle.asn_times.specs.Days.{IsInDayYears}
use Rattle.asn_times.proofs.ReadDays.{year_in, has-digits}
use Rattle.asn_times.proofs.Walks.{is_day_text}
use Rattle.asn_times.proofs.dates.write_date.Goals as goal

pub returns-then-year-lt0-clause-refuses : goal.returns-then-year-lt0-clause-refuses
returns-then-year-lt0-clause-refuses c = λ in_years.
    let y = year_in c.civil_of-day.result (subst IsInDayYears (sym c.civil_of-day.ensures) in_years) in
    omega (arith, signed_arith, y, c.if-year-lt0.true, c.year.ensures)

pub returns-in-Ok-clause-writes : goal.returns-in-Ok-clause-writes
returns-in-Ok-clause-writes c =
    let day = c.civil_of-day.result in
    record {
      date = day;
      years = (omega (arith, signed_arith, c.if-year-lt0.false, c.year.ensures), omega (arith, signed_arith, day.year_in));
      states = c.in-Ok.ensures.text ∙ has-digits c.fields_of.result day c.fields_of.ensures.has;
      number = c.civil_of-day.ensures;
    }

pub returns-in-Err-clause-refuses : goal.returns-in-Err-clause-refuses
returns-in-Err-clause-refuses c =
    let day = c.civil_of-day.result in
    record {
      date = day;
      years = (omega (arith, signed_arith, c.if-year-lt0.false, c.year.ensures), omega (arith, signed_arith, day.year_in));
      number = c.civil_of-day.ensures;
    }

pub returns-in-Ok-clause-text : goal.returns-in-Ok-clause-text
returns-in-Ok-clause-text c = is_day_text c.args.day.now _ (returns-in-Ok-clause-writes c)
