use Rattle.std.proofs.Common.{refl, sym, ap, subst, ◌∙◌, arith, to_z-of_z, SFits, w32}
use Rattle.jiff_core.specs.Date.{epoch_day}
use Rattle.jiff_core.proofs.SignedLemmas.{signed_arith}
use Rattle.asn_times.specs.Days.{DayReads}
use Rattle.asn_times.specs.Reading.{day_fields}
use Rattle.asn_times.proofs.ReadDays.{reads-day, unread-day, unreal-day}
use Rattle.asn_times.proofs.dates.read_date.Goals as goal

pub returns-in-None-clause-refuses : goal.returns-in-None-clause-refuses
returns-in-None-clause-refuses c =
    (refl, unread-day c.args.text.now (c.in-None.ensures.is ∙ ap day_fields c.as_bytes.ensures.value))

pub returns-in-Some-day_of-clause-reads : goal.returns-in-Some-day_of-clause-reads
returns-in-Some-day_of-clause-reads c =
    let read = c.in-Some.ensures.is ∙ ap day_fields c.as_bytes.ensures.value in
    let fits : SFits w32 c.to_unix_epoch_day.result = omega (arith, signed_arith, c.to_unix_epoch_day.ensures.bound) in
    subst (DayReads c.args.text.now) (ap epoch_day (sym c.to_plain.ensures) ∙ sym c.to_unix_epoch_day.ensures.value ∙ sym (to_z-of_z fits))
    (reads-day c.args.text.now c.in-Some.fields c.in-Some-day_of.day read c.in-Some.ensures.small c.in-Some-day_of.ensures)

pub returns-in-None-day_of-clause-refuses : goal.returns-in-None-day_of-clause-refuses
returns-in-None-day_of-clause-refuses c =
    let read = c.in-Some.ensures.is ∙ ap day_fields c.as_bytes.ensures.value in
    (refl, unreal-day c.args.text.now c.in-Some.fields read c.in-None-day_of.ensures)
