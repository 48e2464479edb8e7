use Rattle.std.proofs.Common.{◌++◌, ◌∙◌, arith, length-append}
use Rattle.std.specs.Prelude.{⊤}
use Rattle.std.proofs.lemmas.Result.{IfErr-at_err, on_err_weaker}
use Rattle.asn_lines.specs.Gathering.{Keeps}
use Rattle.asn_lines.specs.Splits.{IsPastLimit}
use Rattle.asn_lines.proofs.Taking.{begins, past_number, stops}
use Rattle.asn_lines.proofs.gathered.Gathered.take.Goals as goal

pub returns-then-is_empty-clause-early : goal.returns-then-is_empty-clause-early
returns-then-is_empty-clause-early g c =
    let self = c.args.self.now in
    on_err_weaker c.take_end.result (λ kept. stops (begins (g.W.LineWork.answers c.args.work.now) self c.args.piece.now) c.take_end.new.self (λ _ _. ⊤) kept tt) c.take_end.ensures.kept

pub returns-then-is_empty-clause-too_long : goal.returns-then-is_empty-clause-too_long
returns-then-is_empty-clause-too_long g c = λ e.
    let self = c.args.self.now in
    let kept = IfErr-at_err (λ _. Keeps self c.take_end.new.self) e c.take_end.ensures.kept in
    let full = c.take_end.ensures.too_long e in
    stops (begins (g.W.LineWork.answers c.args.work.now) self c.args.piece.now) c.take_end.new.self IsPastLimit kept
    (past_number _ (self.line.items ++ c.args.piece.now) (omega (arith, full.1, self.line.ok.0, length-append self.line.items c.args.piece.now)) (kept.lines ∙ full.0))
