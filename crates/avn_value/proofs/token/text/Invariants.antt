use Rattle.std.proofs.Common.{◌≡◌, ℕ, List, ◌∷◌, ◌++◌, length}
use Rattle.avn_grammar.specs.Chars.{quote_is_doubled, utf8_of}
use Rattle.avn_cursor.specs.Ahead.{Advances}
use Rattle.avn_value.proofs.token.text.Given as goal

-- The characters that were read, each quote twice, stand before what is ahead.
abbrev pub invariant-runs : goal.invariant-runs
invariant-runs l =
    (cs : List ℕ) × (l.nodes ≡ record l.fn.nodes { word = utf8_of cs }) × (l.fn.cursor.rest ≡ (34 ∷ quote_is_doubled cs) ++ l.cursor.rest) × (l.cursor.ahead ≡ l.cursor.rest) × Advances 2 l.fn.cursor l.cursor

abbrev pub decreases-runs : goal.decreases-runs
decreases-runs l = length l.cursor.rest
