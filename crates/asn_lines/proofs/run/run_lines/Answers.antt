use Rattle.std.proofs.Common.{◌≡◌, ◌<◌, ◌+◌, length, take, arith, Err, sym, ap, ◌∙◌}
use Rattle.std.proofs.lemmas.Result.{IfErr-at_err}
use Rattle.asn_lines.proofs.Running.{answered_front, at_ok, cut_short, ended_all, kept_unread, not_within, room_falls, some_taken, stopped_at, taken_early, underway_first, underway_next, unread, writes_cut, writes_whole}
use Rattle.asn_lines.proofs.run.run_lines.Goals as goal

pub pieces-init : goal.pieces-init
pieces-init g c =
    let e = c.new-gathered.ensures in
    underway_first _ _ _ _ _ _ _ c.new-gathered.result e.line e.lines e.refused e.output e.errors

pub returns-in_default-clause-unread : goal.returns-in_default-clause-unread
returns-in_default-clause-unread g c = λ _. unread c.pieces.invariant _ _ (kept_unread _ _ _ c.read.result c.read.ensures.bytes c.in_default.not-Ok)

pub returns-then-is_err-clause-cut : goal.returns-then-is_err-clause-cut
returns-then-is_err-clause-cut g c = λ _.
    let t = some_taken _ c.take-taken.result c.take-taken.ensures.more c.take-taken.ensures.end c.take-taken.ensures.early in
    let cut = writes_cut _ _ _ _ c.write_out.result c.write_out.ensures.written (sym c.is_err.ensures.value ∙ c.if-is_err.true) in
    cut_short c.pieces.invariant _ _ _ c.in-Ok.ensures.bytes.0 c.take-taken.new.self t _ _ _ _ cut.0 cut.1

pub pieces-preserved : goal.pieces-preserved
pieces-preserved g c =
    let fine = sym c.is_err.ensures.value ∙ c.if-is_err.false in
    let wrote = writes_whole _ _ _ _ c.write_out.result c.write_out.ensures.written fine in
    let kept = c.write_out.ensures in
    let some : 0 < length (take c.in-Ok.count c.read.new.into) = omega (arith, c.in-Ok.ensures.bound.1, c.if-count-gt0.true) in
    underway_next c.pieces.invariant _ _ _ c.in-Ok.ensures.bytes.0 c.take-taken.new.self (c.in-Ok-taken.ensures.more some) c.write_out.new.self (at_ok c.write_out.result fine kept.line) (at_ok c.write_out.result fine kept.lines)
    _ _ _ _ wrote.0.all wrote.1.all (at_ok c.write_out.result fine kept.refused) (at_ok c.write_out.result fine kept.no_output) (at_ok c.write_out.result fine kept.no_errors) c.in-Ok.ensures.cause.steady wrote.0.steady wrote.1.steady

pub pieces-smaller : goal.pieces-smaller
pieces-smaller g c =
    let fine = sym c.is_err.ensures.value ∙ c.if-is_err.false in
    let some : 0 < length (take c.in-Ok.count c.read.new.into) = omega (arith, c.in-Ok.ensures.bound.1, c.if-count-gt0.true) in
    room_falls (c.in-Ok-taken.ensures.more some) some c.write_out.new.self (at_ok c.write_out.result fine c.write_out.ensures.line) (at_ok c.write_out.result fine c.write_out.ensures.lines)

pub returns-in-Ok-2-clause-done : goal.returns-in-Ok-2-clause-done
returns-in-Ok-2-clause-done g c = λ _.
    let fine = sym c.is_err.ensures.value ∙ c.if-is_err.false in
    let wrote = writes_whole _ _ _ _ c.write_out.result c.write_out.ensures.written fine in
    let none : length (take c.in-Ok.count c.read.new.into) ≡ 0 = omega (arith, c.in-Ok.ensures.bound.1, c.if-count-gt0.false) in
    ended_all c.pieces.invariant _ _ _ none c.in-Ok.ensures.bytes.0 c.take-taken.new.self (c.in-Ok-2.ensures.end none) _ _ _ _ wrote.0.all wrote.1.all (c.in-Ok.ensures.bytes.1 (omega arith) (omega (arith, c.read.auto.into))) (λ n. n ≡ 0)
    (sym (at_ok c.write_out.result fine c.write_out.ensures.refused) ∙ sym c.refused-refused.ensures ∙ c.if-refused-eq0.true)

pub returns-in-Ok-3-clause-refused : goal.returns-in-Ok-3-clause-refused
returns-in-Ok-3-clause-refused g c = λ _.
    let fine = sym c.is_err.ensures.value ∙ c.if-is_err.false in
    let wrote = writes_whole _ _ _ _ c.write_out.result c.write_out.ensures.written fine in
    let none : length (take c.in-Ok.count c.read.new.into) ≡ 0 = omega (arith, c.in-Ok.ensures.bound.1, c.if-count-gt0.false) in
    let kept = at_ok c.write_out.result fine c.write_out.ensures.refused in
    ended_all c.pieces.invariant _ _ _ none c.in-Ok.ensures.bytes.0 c.take-taken.new.self (c.in-Ok-3.ensures.end none) _ _ _ _ wrote.0.all wrote.1.all (c.in-Ok.ensures.bytes.1 (omega arith) (omega (arith, c.read.auto.into))) (λ n. 0 < n)
    (omega (arith, kept, c.refused-refused.ensures, c.if-refused-eq0.false))

pub returns-in-Err-OutOfMemory-clause-out_of_memory : goal.returns-in-Err-OutOfMemory-clause-out_of_memory
returns-in-Err-OutOfMemory-clause-out_of_memory g c = λ _.
    let wrote = writes_whole _ _ _ _ c.write_out.result c.write_out.ensures.written (sym c.is_err.ensures.value ∙ c.if-is_err.false) in
    let early = IfErr-at_err _ c.in-Err-OutOfMemory.is c.take-taken.ensures.early in
    answered_front c.pieces.invariant _ _ _ c.in-Ok.ensures.bytes.0 c.take-taken.new.self (taken_early early) _ _ _ _ wrote.0.all wrote.1.all

pub returns-in-Err-TooLong-clause-too_long : goal.returns-in-Err-TooLong-clause-too_long
returns-in-Err-TooLong-clause-too_long g c = λ number is.
    let fine = sym c.is_err.ensures.value ∙ c.if-is_err.false in
    let wrote = writes_whole _ _ _ _ c.write_out.result c.write_out.ensures.written fine in
    let stop = rw c.in-Err-TooLong.is at c.in-Err-TooLong.field-0-is in
    let long = c.take-taken.ensures.too_long (c.in-Err-TooLong.is ∙ ap (λ e. Err e) stop) in
    let kept = at_ok c.write_out.result fine c.write_out.ensures.lines in
    let same : c.lines-number.result + 1 ≡ number = cc is in
    stopped_at c.pieces.invariant _ _ _ c.in-Ok.ensures.bytes.0 c.take-taken.new.self long _ _ _ _ wrote.0.all wrote.1.all number (sym same ∙ ap (λ n. n + 1) (c.lines-number.ensures ∙ kept))

pub returns-in-Err-TooLong-clause-answers : goal.returns-in-Err-TooLong-clause-answers
returns-in-Err-TooLong-clause-answers g c = λ input told within steady_source steady_output steady_errors.
    let stop = rw c.in-Err-TooLong.is at c.in-Err-TooLong.field-0-is in
    absurd (not_within c.pieces.invariant _ 0 _ c.in-Ok.ensures.bytes.0 c.take-taken.new.self (c.take-taken.ensures.too_long (c.in-Err-TooLong.is ∙ ap (λ e. Err e) stop)) input told within)
