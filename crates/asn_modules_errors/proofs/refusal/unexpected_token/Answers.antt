use Rattle.std.proofs.Common.{◌≡◌, ap, ◌∙◌}
use Rattle.asn_modules_errors.proofs.Refusals.{refused_so}
use Rattle.asn_modules_errors.specs.Errors.{IsUnexpected, place_at, start_of}
use Rattle.asn_modules_errors.proofs.refusal.unexpected_token.Goals as goal

pub returns-in-Ok : goal.returns-in-Ok
returns-in-Ok c =
    let text = c.args.text.now in
    refused_so c.args.file.now (λ place cause. (place ≡ place_at text (start_of text c.args.met)) × IsUnexpected text c.args.met c.args.expected cause)
    c.refused.result c.place_at-place.result c.in-Ok.cause
    (c.place_at-place.ensures ∙ ap (place_at text) c.start_of.ensures, c.in-Ok.ensures) c.refused.ensures
