use Rattle.std.proofs.Common.{◌≡◌, length}
use Rattle.asn_lexer.specs.Blanks.{past_line_comment}
use Rattle.asn_lexer.proofs.comment.past_line_comment.Given as goal

abbrev pub invariant-chars : goal.invariant-chars
invariant-chars l = past_line_comment l.rest ≡ past_line_comment l.text

abbrev pub decreases-chars : goal.decreases-chars
decreases-chars l = length l.rest
