use Rattle.std.proofs.Common.{◌+◌, ◌∷◌, sym, ap, ap₂, ◌∙◌, arith, length, length-drop}
use Rattle.std.specs.List.{position_or_len}
use Rattle.asn_filter.specs.Lines.{is_feed, text_lines}
use Rattle.asn_filter.proofs.Parting.{first_line, last_line, no_line, some_left}
use Rattle.asn_filter.proofs.lines.next_line.Goals as goal

pub returns-then-is_empty-clause-lines : goal.returns-then-is_empty-clause-lines
returns-then-is_empty-clause-lines c = no_line c.args.text.now (sym c.is_empty.ensures ∙ c.if-is_empty.true)

pub returns-in-Some-clause-lines : goal.returns-in-Some-clause-lines
returns-in-Some-clause-lines c =
    let cut = c.in-Some.ensures.byte (omega arith) (λ w o f. f) in
    first_line c.args.text.now cut.2 ∙ ap₂ (λ line rest. line ∷ text_lines rest) (sym cut.0) (sym cut.1)

pub returns-in-Some-clause-shorter : goal.returns-in-Some-clause-shorter
returns-in-Some-clause-shorter c =
    let cut = c.in-Some.ensures.byte (omega arith) (λ w o f. f) in
    let e = ap length cut.1 ∙ length-drop (position_or_len is_feed c.args.text.now + 1) c.args.text.now in
    omega (arith, e, cut.2)

pub returns-in-None-clause-lines : goal.returns-in-None-clause-lines
returns-in-None-clause-lines c =
    last_line c.args.text.now (some_left c.args.text.now (sym c.is_empty.ensures ∙ c.if-is_empty.false)) (c.in-None.ensures.byte (omega arith) (λ w o f. f))

pub returns-in-None-clause-shorter : goal.returns-in-None-clause-shorter
returns-in-None-clause-shorter c = some_left c.args.text.now (sym c.is_empty.ensures ∙ c.if-is_empty.false)
