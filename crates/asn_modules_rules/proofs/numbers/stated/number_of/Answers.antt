use Rattle.std.proofs.Common.{ap, ◌∙◌}
use Rattle.asn_model.specs.Digits.{digits}
use Rattle.asn_modules_rules.specs.numbers.Stated.{within_bits}
use Rattle.asn_modules_rules.proofs.numbers.Digits.{no-plus, other-number, parsed-number}
use Rattle.asn_modules_rules.proofs.numbers.stated.number_of.Goals as goal

pub returns-else-starts_with : goal.returns-else-starts_with
unfolding lib.Utf8.encode
returns-else-starts_with c =
    c.ok.ensures.value ∙ parsed-number 64 c.in-Ok.text.now c.parse.result c.parse.ensures.value.0
    ∙ ap (λ t. within_bits 64 (digits t)) (no-plus c.in-Ok.text.now (λ rest e. c.if-starts_with.ensures.cases rest e) ∙ c.in-Ok.ensures.cases.0)

pub returns-in-Err : goal.returns-in-Err
returns-in-Err c = other-number 64 c.args.bytes.now c.in-Err.ensures.cases.0
