use Rattle.std.proofs.Common.{◌≡◌, take, true}
use Rattle.avn_grammar.specs.Chars.{all}
use Rattle.avn_cursor.specs.Runs.{passes}
use Rattle.avn_cursor.proofs.chars.all_pass.Given as goal

abbrev pub invariant-loop-byte : goal.invariant-loop-byte
invariant-loop-byte l = all (passes l.run) (take l.byte-index l.text) ≡ true
