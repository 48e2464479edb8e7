use Rattle.std.proofs.Common.{◌∙◌, ap, sym}
use Rattle.asn_model.specs.Decimals.{is_decimal}
use Rattle.asn_dynamic_fits.proofs.Utf8.{no-decimal}
use Rattle.asn_dynamic_fits.proofs.texts.is_decimal.Goals as goal

pub returns-in-Ok : goal.returns-in-Ok
returns-in-Ok c = c.is_some.ensures ∙ c.of_digits.ensures.is ∙ ap is_decimal c.in-Ok.ensures.cases.0

pub returns-in-Err : goal.returns-in-Err
returns-in-Err c = sym (no-decimal c.args.bytes.now c.in-Err.ensures.cases.0)
