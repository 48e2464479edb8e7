use Rattle.std.proofs.Common.{◌≡◌, length}
use Rattle.avn_cursor.specs.Ahead.{Advances}
use Rattle.avn_cursor.specs.HexDigits.{TakesDigits}
use Rattle.avn_cursor.proofs.hex_digits.HexDigits.take.Given as goal

abbrev pub invariant-digits : goal.invariant-digits
invariant-digits l =
    Advances 1 l.fn.cursor l.cursor × (l.cursor.ahead ≡ l.cursor.rest) × TakesDigits l.fn.self l.fn.cursor.rest l.self l.cursor.rest

abbrev pub decreases-digits : goal.decreases-digits
decreases-digits l = length l.cursor.rest
