use Rattle.std.proofs.Common.{◌≡◌, length, string_bytes, ◌++◌}
use Rattle.std.specs.Str.{encode_utf8_all}
use Rattle.avn_grammar.specs.Chars.{skip_while, take_while}
use Rattle.avn_cursor.specs.Ahead.{Advances}
use Rattle.avn_cursor.specs.Runs.{passes}
use Rattle.avn_cursor.proofs.cursor.Cursor.after_run.Given as goal

abbrev pub invariant-loop-c : goal.invariant-loop-c
invariant-loop-c l =
    Advances 1 l.initial.here l.here × (l.here.ahead ≡ l.here.rest) × (skip_while (passes l.run) l.here.rest ≡ skip_while (passes l.run) l.initial.here.rest)
    × (string_bytes l.out ++ encode_utf8_all (take_while (passes l.run) l.here.rest) ≡ string_bytes l.initial.out ++ encode_utf8_all (take_while (passes l.run) l.initial.here.rest))

abbrev pub decreases-loop-c : goal.decreases-loop-c
decreases-loop-c l = length l.here.rest
