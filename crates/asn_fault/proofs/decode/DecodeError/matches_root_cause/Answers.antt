use Rattle.std.proofs.Common.{refl, ◌∙◌}
use Rattle.asn_fault.proofs.decode.DecodeError.matches_root_cause.Goals as goal

pub returns : goal.returns
returns g c =
    let same = c.of.ensures ∙ c.root_cause.ensures in
    (c.of.result.now, same, record { shown = c.of.result; shows = refl; says = record { met = c.predicate.ensures } })
