use Rattle.std.proofs.Common.{◌≡◌, ℕ, List, length}
use Rattle.avn_grammar.specs.ParseFailure.{Found}
use Rattle.avn_cursor.specs.Ahead.{Advances}
use Rattle.avn_value.proofs.parse.found.Given as goal

abbrev pub invariant-loop-cursor : goal.invariant-loop-cursor
invariant-loop-cursor l =
    ((e : List ℕ) → Found l.cursor.rest e → Found l.fn.cursor.rest e) × (l.cursor.ahead ≡ l.cursor.rest) × Advances 1 l.fn.cursor l.cursor

abbrev pub decreases-loop-cursor : goal.decreases-loop-cursor
decreases-loop-cursor l = length l.cursor.rest
