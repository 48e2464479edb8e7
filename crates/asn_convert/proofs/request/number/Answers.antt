use Rattle.std.proofs.Common.{ap, ◌∙◌, arith, get_or}
use Rattle.asn_convert.proofs.Counting.{few_parsed, many_parsed, none_long, none_parsed, none_signed}
use Rattle.asn_convert.proofs.request.number.Goals as goal

pub returns-then-first-lt48 : goal.returns-then-first-lt48
returns-then-first-lt48 c = none_signed c.args.digits c.args.most c.args.word.now c.in_ok-first.field-0.now c.if-first-lt48.true (c.in_ok-first.ensures.item.3.1 0 ∙ ap (λ t. get_or t 0 0) c.as_bytes.ensures.value)

pub returns-then-word-digits : goal.returns-then-word-digits
returns-then-word-digits c = none_long c.args.digits c.args.most c.args.word.now c.if-word-digits.true

pub returns-in_err-number : goal.returns-in_err-number
returns-in_err-number c =
    let first = c.in_ok-first.ensures.item.3.1 0 ∙ ap (λ t. get_or t 0 0) c.as_bytes.ensures.value in
    c.from_residual-in_err-number.ensures ∙ none_parsed c.args.digits c.args.most c.args.word.now c.in_ok-first.field-0.now c.parse.result c.if-first-lt48.false first c.if-word-digits.false c.parse.ensures.value.0 (omega arith) c.in_err-number.ensures.value

pub returns-then-number-most : goal.returns-then-number-most
returns-then-number-most c =
    let first = c.in_ok-first.ensures.item.3.1 0 ∙ ap (λ t. get_or t 0 0) c.as_bytes.ensures.value in
    many_parsed c.args.digits c.args.most c.args.word.now c.in_ok-first.field-0.now c.parse.result c.if-first-lt48.false first c.if-word-digits.false c.parse.ensures.value.0 c.in_ok-number.number c.in_ok-number.ensures.value c.if-number-most.true

pub returns : goal.returns
returns c =
    let first = c.in_ok-first.ensures.item.3.1 0 ∙ ap (λ t. get_or t 0 0) c.as_bytes.ensures.value in
    few_parsed c.args.digits c.args.most c.args.word.now c.in_ok-first.field-0.now c.parse.result c.if-first-lt48.false first c.if-word-digits.false c.parse.ensures.value.0 c.in_ok-number.number c.in_ok-number.ensures.value c.if-number-most.false
