use Rattle.std.proofs.Common.{ap, ◌∙◌, get_or}
use Rattle.std.specs.Option.{is_some}
use Rattle.asn_decimal.proofs.DecimalTexts.{decided, digits_of, none_at, none_read, number_read}
use Rattle.asn_decimal.proofs.digits.Decimal.of_digits.Goals as goal

pub returns-then-first-le48-clause-is : goal.returns-then-first-le48-clause-is
returns-then-first-le48-clause-is c =
    none_at c.args.text.now c.in_ok-first.field-0.now c.if-first-le48.true (c.in_ok-first.ensures.item.3.1 0 ∙ ap (λ t. get_or t 0 0) c.as_bytes.ensures.value)

pub returns-in_err-ok-clause-is : goal.returns-in_err-ok-clause-is
returns-in_err-ok-clause-is c =
    ap is_some c.from_residual-in_err-ok.ensures ∙ none_read c.args.text.now c.parse.result c.in_err-ok.ensures.value c.parse.ensures.value.0

pub returns-clause-read : goal.returns-clause-read
returns-clause-read c =
    let first = c.in_ok-first.ensures.item.3.1 0 ∙ ap (λ t. get_or t 0 0) c.as_bytes.ensures.value in
    let read = number_read c.args.text.now c.in_ok-first.field-0.now c.in_ok-ok.field-0 c.parse.result c.if-first-le48.false first c.in_ok-ok.ensures.value c.parse.ensures.value.0 in
    digits_of c.args.text.now c.in_ok-ok.field-0 c.new.result read c.new.ensures

pub returns-clause-is : goal.returns-clause-is
returns-clause-is c =
    let first = c.in_ok-first.ensures.item.3.1 0 ∙ ap (λ t. get_or t 0 0) c.as_bytes.ensures.value in
    let read = number_read c.args.text.now c.in_ok-first.field-0.now c.in_ok-ok.field-0 c.parse.result c.if-first-le48.false first c.in_ok-ok.ensures.value c.parse.ensures.value.0 in
    decided c.args.text.now c.in_ok-ok.field-0 c.new.result read c.new.ensures
