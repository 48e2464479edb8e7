use Rattle.std.proofs.Common.{◌≡◌, length}
use Rattle.std.specs.Char.{is_whitespace}
use Rattle.avn_grammar.specs.Chars.{skip_while}
use Rattle.avn_cursor.specs.Ahead.{Advances}
use Rattle.avn_cursor.proofs.cursor.Cursor.is_white.Given as goal

abbrev pub invariant-loop-c : goal.invariant-loop-c
invariant-loop-c l =
    Advances 1 l.initial.self l.self × (l.self.ahead ≡ l.self.rest) × (skip_while is_whitespace l.self.rest ≡ skip_while is_whitespace l.initial.self.rest)

abbrev pub decreases-loop-c : goal.decreases-loop-c
decreases-loop-c l = length l.self.rest
