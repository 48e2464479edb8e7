use Rattle.std.proofs.Common.{◌≡◌, length}
use Rattle.avn_grammar.specs.Chars.{skip}
use Rattle.avn_cursor.specs.Ahead.{Advances}
use Rattle.avn_cursor.proofs.cursor.Cursor.skip.Given as goal

abbrev pub invariant-loop : goal.invariant-loop
invariant-loop l = Advances 1 l.initial.self l.self × (l.self.ahead ≡ l.self.rest) × (skip l.self.rest ≡ skip l.initial.self.rest)

abbrev pub decreases-loop : goal.decreases-loop
decreases-loop l = length l.self.rest
