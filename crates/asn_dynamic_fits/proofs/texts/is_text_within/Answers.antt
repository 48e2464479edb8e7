use Rattle.std.proofs.Common.{◌∙◌, ◌&&◌, ap, sym}
use Rattle.std.specs.Str.{chars}
use Rattle.std.proofs.lemmas.Str.{is_utf8-from_IsUtf8}
use Rattle.asn_strings.specs.Alphabets.{all_within}
use Rattle.asn_dynamic_fits.proofs.Utf8.{no-utf8}
use Rattle.asn_dynamic_fits.proofs.texts.is_text_within.Goals as goal

pub returns-in-Ok : goal.returns-in-Ok
returns-in-Ok g c =
    let p = g.C.CharacterSet.alphabet in
    let bytes = c.args.bytes.now in
    c.is_within.ensures ∙ ap (λ t. all_within p (chars t)) c.in-Ok.ensures.cases.0 ∙ sym (ap (λ b. b && all_within p (chars bytes)) (is_utf8-from_IsUtf8 bytes c.in-Ok.ensures.cases.1))

pub returns-in-Err : goal.returns-in-Err
returns-in-Err g c =
    let p = g.C.CharacterSet.alphabet in
    let bytes = c.args.bytes.now in
    sym (ap (λ b. b && all_within p (chars bytes)) (no-utf8 bytes c.in-Err.ensures.cases.0))
