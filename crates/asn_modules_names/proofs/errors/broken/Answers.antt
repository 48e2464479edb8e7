use Rattle.std.proofs.Common.{◌≡◌, refl}
use Rattle.asn_modules_errors.proofs.Refusals.{refused_so}
use Rattle.asn_modules_errors.specs.Errors.{place_at}
use Rattle.asn_modules_names.specs.Faults.{IsNameCause, fault_of}
use Rattle.asn_modules_names.specs.Mentions.{mention_view}
use Rattle.asn_modules_names.proofs.errors.broken.Goals as goal

pub returns-in-Ok : goal.returns-in-Ok
returns-in-Ok c =
    let f = fault_of c.args.rule (mention_view c.args.name) in
    refused_so f.name.file (λ place why. (place ≡ place_at f.name.text f.name.token.start) × IsNameCause f why) c.refused.result c.place_at-place.result _ (c.place_at-place.ensures, (refl, c.in-Ok.ensures)) c.refused.ensures
