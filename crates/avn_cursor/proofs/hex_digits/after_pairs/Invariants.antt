use Rattle.std.proofs.Common.{◌≡◌, ◌≤◌, ◌-◌, [], take, length}
use Rattle.avn_cursor.specs.Ahead.{Advances}
use Rattle.avn_cursor.specs.HexDigits.{digit_values, TakesDigits}
use Rattle.avn_cursor.proofs.hex_digits.after_pairs.Given as goal

-- The digits that were taken are the octets so far.
abbrev pub invariant-loop-length : goal.invariant-loop-length
invariant-loop-length l = record {
  advances : Advances 1 l.initial.here l.here;
  together : l.here.ahead ≡ l.here.rest;
  room : length l.room ≡ 256;
  within : l.length ≤ 256;
  taken : TakesDigits [] l.initial.here.rest (digit_values (take l.length l.room)) l.here.rest;
}

abbrev pub decreases-loop-length : goal.decreases-loop-length
decreases-loop-length l = 256 - l.length
