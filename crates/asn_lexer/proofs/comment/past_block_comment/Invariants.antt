use Rattle.std.proofs.Common.{◌≡◌, ◌≤◌, ◌+◌, length}
use Rattle.asn_lexer.specs.Blanks.{past_block_comment}
use Rattle.asn_lexer.proofs.comment.past_block_comment.Given as goal

abbrev pub invariant-chars : goal.invariant-chars
invariant-chars l = (past_block_comment l.inner l.rest ≡ past_block_comment 0 l.text) × (l.inner + length l.rest ≤ length l.text)

abbrev pub decreases-chars : goal.decreases-chars
decreases-chars l = length l.rest
