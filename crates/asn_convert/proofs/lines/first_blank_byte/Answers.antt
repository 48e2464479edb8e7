use Rattle.std.proofs.Common.{length, sym, ◌∙◌, arith}
use Rattle.std.proofs.lemmas.List.Sums.{position_or_len_is}
use Rattle.asn_convert.specs.Lines.{is_blank}
use Rattle.asn_convert.proofs.lines.first_blank_byte.Goals as goal

pub returns-then-is_space_or_tab-clause-value : goal.returns-then-is_space_or_tab-clause-value
returns-then-is_space_or_tab-clause-value c =
    sym (position_or_len_is is_blank c.args.text.now c.loop-i.i 0 (omega arith) c.loop-i.invariant (λ _. sym c.is_space_or_tab.ensures.value ∙ c.if-is_space_or_tab.true))

pub returns-clause-value : goal.returns-clause-value
returns-clause-value c = sym (position_or_len_is is_blank c.args.text.now (length c.args.text.now) 0 (omega arith) (λ k h. c.loop-i.invariant k (omega arith)) (λ h. absurd (omega arith)))
