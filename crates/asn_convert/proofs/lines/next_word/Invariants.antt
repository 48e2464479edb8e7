use Rattle.std.proofs.Common.{◌≡◌, length}
use Rattle.asn_convert.specs.Lines.{words}
use denote.Shadow.{shadow}
use denote.Text.{Utf8}
use Rattle.asn_convert.proofs.lines.next_word.Given as goal

abbrev pub invariant-blanks : goal.invariant-blanks
invariant-blanks l = (words l.fn.text ≡ words l.rest) × shadow (Utf8 l.rest)

abbrev pub decreases-blanks : goal.decreases-blanks
decreases-blanks l = length l.rest
