use Rattle.std.proofs.Common.{◌≡◌, length}
use Rattle.asn_lexer.specs.Words.{past_string}
use Rattle.asn_lexer.proofs.word.past_string.Given as goal

abbrev pub invariant-chars : goal.invariant-chars
invariant-chars l = past_string l.rest ≡ past_string l.text

abbrev pub decreases-chars : goal.decreases-chars
decreases-chars l = length l.rest
