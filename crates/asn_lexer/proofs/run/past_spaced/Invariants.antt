use Rattle.std.proofs.Common.{◌≡◌, length}
use Rattle.asn_lexer.specs.Blanks.{past_spaced}
use Rattle.asn_lexer.specs.Runs.{passes}
use Rattle.asn_lexer.proofs.run.past_spaced.Given as goal

abbrev pub invariant-chars : goal.invariant-chars
invariant-chars l = past_spaced (passes l.run) l.rest ≡ past_spaced (passes l.run) l.text

abbrev pub decreases-chars : goal.decreases-chars
decreases-chars l = length l.rest
