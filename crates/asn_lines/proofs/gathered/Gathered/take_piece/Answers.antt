use Rattle.std.proofs.Common.{[], ◌∷◌, arith, sym, append-nil}
use Rattle.std.proofs.lemmas.Result.{err_from_is_err_and}
use Rattle.asn_lines.specs.Splits.{IsPastLimit}
use Rattle.asn_lines.proofs.Taking.{begins, goes_on, past_limit, past_numbers, stops, stops_there}
use Rattle.asn_lines.proofs.gathered.Gathered.take_piece.Goals as goal

pub lines-init : goal.lines-init
lines-init g c = begins (g.W.LineWork.answers c.args.work.now) c.args.self.now c.args.piece.now

pub returns-in_err-extend-clause-too_long : goal.returns-in_err-extend-clause-too_long
returns-in_err-extend-clause-too_long g c =
    let p = err_from_is_err_and c.from_residual.result c.from_residual.ensures.1 in
    let first = c.in-Some.ensures.parts in
    let t = c.lines.invariant in
    rw (p.1, p.2) (λ e. stops t c.extend.new.self IsPastLimit c.in_err-extend.ensures.kept
    (past_limit t c.in-Some.part.now (10 ∷ c.in-Some.after.now) first.plain first.joined _ (omega (arith, c.in_err-extend.ensures.too_long e, c.lines.self.line.ok.0))))

pub returns-in_err-end_line-clause-too_long : goal.returns-in_err-end_line-clause-too_long
returns-in_err-end_line-clause-too_long g c =
    let p = err_from_is_err_and c.from_residual-in_err-end_line.result c.from_residual-in_err-end_line.ensures.1 in
    let part = c.in-Some.part.now in
    let after = c.in-Some.after.now in
    let first = c.in-Some.ensures.parts in
    let t = c.lines.invariant in
    let kept = c.in_ok-extend.ensures.kept in
    let longer = c.in_ok-extend.ensures.line in
    rw (p.1, p.2) (λ e. stops_there t part after first c.extend.new.self kept longer _ IsPastLimit c.in_err-end_line.ensures.kept
    (past_numbers t part after first c.extend.new.self kept longer _ c.in_err-end_line.ensures.kept (c.in_err-end_line.ensures.too_long e)))

pub lines-preserved : goal.lines-preserved
lines-preserved g c =
    goes_on c.lines.invariant c.in-Some.part.now c.in-Some.after.now c.in-Some.ensures.parts _ c.in_ok-extend.ensures.kept c.in_ok-extend.ensures.line _ c.in_ok-end_line.ensures.gathers c.in_ok-end_line.ensures.empty

pub returns-clause-too_long : goal.returns-clause-too_long
returns-clause-too_long g c = λ e.
    let t = c.lines.invariant in
    let rest = c.lines.rest.now in
    stops t c.extend-2.new.self IsPastLimit c.extend-2.ensures.kept
    (past_limit t rest [] c.in_default.ensures.parts (sym (append-nil rest)) _ (omega (arith, c.extend-2.ensures.too_long e, c.lines.self.line.ok.0)))
