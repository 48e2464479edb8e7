use Rattle.std.proofs.Common.{arith}
use Rattle.std.proofs.lemmas.Grind.{common_steps}
use Rattle.asn_lexer.proofs.Comments.{block_opens, block_goes}
use Rattle.asn_lexer.proofs.comment.past_block_comment.Goals as goal

pub chars-preserved-in-Some-strip_prefix : goal.chars-preserved-in-Some-strip_prefix
chars-preserved-in-Some-strip_prefix c = (grind (arith, common_steps, block_opens), grind (arith, common_steps))

pub chars-preserved : goal.chars-preserved
chars-preserved c = (grind (arith, common_steps, block_goes), grind (arith, common_steps))
