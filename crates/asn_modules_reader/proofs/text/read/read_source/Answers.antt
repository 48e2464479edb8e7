use Rattle.std.proofs.Common.{Err, ap, ◌∙◌}
use Rattle.std.proofs.lemmas.Result.{err_from_is_err_and}
use Rattle.asn_modules_errors.proofs.Refusals.{refused_so}
use Rattle.asn_modules_reader.proofs.text.NoTexts.{refused_none}
use Rattle.asn_modules_reader.specs.text.Texts.{IsTextRefusal}
use Rattle.asn_modules_reader.proofs.text.read.read_source.Goals as goal

pub returns-in_err-modules-in-Ok-clause-none : goal.returns-in_err-modules-in-Ok-clause-none
returns-in_err-modules-in-Ok-clause-none c =
    let p = err_from_is_err_and c.from_residual.result c.from_residual.ensures.1 in
    rw (p.1, p.2) (refused_none 64 c.args.file.now c.args.text.now _ c.in_err-modules-in-Ok.ensures.refused)

pub returns-in-Err-NoToken-clause-refused : goal.returns-in-Err-NoToken-clause-refused
returns-in-Err-NoToken-clause-refused c =
    refused_so c.args.file.now (IsTextRefusal 64 c.args.text.now) c.refused.result c.place_at.result _
    (record { offset = c.in-Err-NoToken.offset; stops = c.tokens.ensures.none c.in-Err-NoToken.offset (c.in-Err-NoToken.is ∙ ap (λ e. Err e) c.in-Err-NoToken.field-0-is); here = c.place_at.ensures; reason = c.no_token_at.ensures }) c.refused.ensures

pub returns-in-Err-NoToken-clause-none : goal.returns-in-Err-NoToken-clause-none
returns-in-Err-NoToken-clause-none c = refused_none 64 c.args.file.now c.args.text.now c.refused.result (returns-in-Err-NoToken-clause-refused c)
