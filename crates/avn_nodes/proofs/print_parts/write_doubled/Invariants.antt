use Rattle.std.proofs.Common.{◌≡◌, ℕ, List, ◌++◌, length}
use Rattle.std.specs.Fmt.{HasWritten, IsPlainFormatter}
use Rattle.std.specs.Str.{IsUtf8}
use Rattle.avn_grammar.specs.Chars.{quote_is_doubled}
use Rattle.avn_nodes.proofs.print_parts.write_doubled.Given as goal

abbrev pub decreases-loop-run : goal.decreases-loop-run
decreases-loop-run g l = length l.rest

abbrev pub invariant-loop-run : goal.invariant-loop-run
invariant-loop-run g l = (done : List ℕ) × (IsPlainFormatter l.initial.f → HasWritten g.W.Write.write_str_gives l.initial.f done l.f) × (done ++ quote_is_doubled l.rest ≡ quote_is_doubled l.text) × IsUtf8 l.rest
