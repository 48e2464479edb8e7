use Rattle.std.proofs.Common.{◌≡◌, length}
use Rattle.avn_grammar.specs.Chars.{skip_while}
use Rattle.avn_cursor.specs.Ahead.{Advances}
use Rattle.avn_cursor.specs.Runs.{passes}
use Rattle.avn_cursor.proofs.cursor.Cursor.pass_run.Given as goal

abbrev pub invariant-loop-run : goal.invariant-loop-run
invariant-loop-run l = Advances 1 l.initial.self l.self × (l.self.ahead ≡ l.self.rest) × (skip_while (passes l.run) l.self.rest ≡ skip_while (passes l.run) l.initial.self.rest)

abbrev pub decreases-loop-run : goal.decreases-loop-run
decreases-loop-run l = length l.self.rest
