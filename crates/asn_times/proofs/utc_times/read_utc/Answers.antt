use Rattle.std.proofs.Common.{refl, sym, ap, ◌∙◌, arith, pos}
use Rattle.jiff_core.specs.DateTime.{civil_seconds}
use Rattle.jiff_core.proofs.SignedLemmas.{signed_arith}
use Rattle.asn_times.specs.Reading.{utc_fields}
use Rattle.asn_times.specs.Utc.{UtcStates}
use Rattle.asn_times.proofs.MomentFacts.{no_fields, no_moment, whole_moment, whole_nanos}
use Rattle.asn_times.proofs.ReadUtc.{utc-finds, utc-states}
use Rattle.asn_times.proofs.utc_times.read_utc.Goals as goal

pub returns-in-None-clause-refuses : goal.returns-in-None-clause-refuses
returns-in-None-clause-refuses c =
    let read = c.in-None.ensures.is ∙ ap utc_fields c.as_bytes.ensures.value in
    (refl, λ n. no_fields UtcStates utc_fields (pos 1950) (pos 2049) utc-finds c.args.text.now read _)

pub returns-in-None-moment_of-clause-refuses : goal.returns-in-None-moment_of-clause-refuses
returns-in-None-moment_of-clause-refuses c =
    let read = c.in-Some.ensures.is ∙ ap utc_fields c.as_bytes.ensures.value in
    (refl, λ n. no_moment UtcStates utc_fields (pos 1950) (pos 2049) utc-finds c.args.text.now c.in-Some.fields read c.in-None-moment_of.ensures _)

pub returns-in-Some-moment_of-clause-reads : goal.returns-in-Some-moment_of-clause-reads
returns-in-Some-moment_of-clause-reads c =
    let read = c.in-Some.ensures.is ∙ ap utc_fields c.as_bytes.ensures.value in
    let states = utc-states c.args.text.now c.in-Some.fields (sym read) in
    let moment = c.in-Some-moment_of.moment in
    let whole = whole_moment c.in-Some.fields moment states.whole c.in-Some-moment_of.ensures.0 in
    let same = ap civil_seconds c.to_plain.ensures in
    let seconds = whole_nanos moment (civil_seconds moment) whole refl in
    record {
      fields = c.in-Some.fields;
      states = states;
      utc = moment;
      moment = c.in-Some-moment_of.ensures.0;
      years = c.in-Some-moment_of.ensures.1;
      number = omega (arith, signed_arith, same, seconds, c.to_second.ensures.value, c.to_second.ensures.bound);
    }
