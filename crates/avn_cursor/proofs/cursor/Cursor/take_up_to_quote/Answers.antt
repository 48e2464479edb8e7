use Rattle.std.proofs.Common.{◌<◌, arith, rules, length}
use Rattle.std.proofs.lemmas.Grind.{common_steps}
use Rattle.avn_cursor.proofs.Paying.{run_paid}
use Rattle.avn_cursor.proofs.cursor.Cursor.take_up_to_quote.Goals as goal

pub returns-then-end-place-clause-advances : goal.returns-then-end-place-clause-advances
returns-then-end-place-clause-advances c =
    let run = c.up_to-run.result.now in
    let some : 0 < length run = omega (arith, c.if-end-place.true) in
    run_paid run c.up_to-run.utf8 some c.requires (search rules) c.go_to.ensures.together (search rules) (grind (arith, common_steps)) (grind (arith, common_steps))
