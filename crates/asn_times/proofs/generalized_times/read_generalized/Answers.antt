use Rattle.std.proofs.Common.{refl, sym, ap, ◌∙◌, arith, pos}
use Rattle.jiff_core.specs.DateTime.{civil_nanos}
use Rattle.jiff_core.proofs.SignedLemmas.{signed_arith}
use Rattle.asn_times.specs.Reading.{generalized_fields}
use Rattle.asn_times.specs.Generalized.{GeneralizedStates}
use Rattle.asn_times.proofs.MomentFacts.{no_fields, no_moment}
use Rattle.asn_times.proofs.ReadGeneralized.{generalized-finds, generalized-states}
use Rattle.asn_times.proofs.generalized_times.read_generalized.Goals as goal

pub returns-in-None-clause-refuses : goal.returns-in-None-clause-refuses
returns-in-None-clause-refuses c =
    let read = c.in-None.ensures.is ∙ ap generalized_fields c.as_bytes.ensures.value in
    (refl, no_fields GeneralizedStates generalized_fields (pos 0) (pos 9999) generalized-finds c.args.text.now read)

pub returns-in-None-moment_of-clause-refuses : goal.returns-in-None-moment_of-clause-refuses
returns-in-None-moment_of-clause-refuses c =
    let read = c.in-Some.ensures.is ∙ ap generalized_fields c.as_bytes.ensures.value in
    (refl, no_moment GeneralizedStates generalized_fields (pos 0) (pos 9999) generalized-finds c.args.text.now c.in-Some.fields read c.in-None-moment_of.ensures)

pub returns-in-Some-moment_of-clause-reads : goal.returns-in-Some-moment_of-clause-reads
returns-in-Some-moment_of-clause-reads c =
    let read = c.in-Some.ensures.is ∙ ap generalized_fields c.as_bytes.ensures.value in
    let same = ap civil_nanos c.to_plain.ensures in
    record {
      fields = c.in-Some.fields;
      states = generalized-states c.args.text.now c.in-Some.fields (sym read);
      utc = c.in-Some-moment_of.moment;
      moment = c.in-Some-moment_of.ensures.0;
      years = c.in-Some-moment_of.ensures.1;
      number = omega (arith, signed_arith, same, c.to_nanosecond.ensures.value, c.to_nanosecond.ensures.bound);
    }
