use Rattle.std.proofs.Common.{inr}
use Rattle.asn_command.proofs.running.answer_lines.Goals as goal

pub returns-in-TooLong-clause-unread : goal.returns-in-TooLong-clause-unread
returns-in-TooLong-clause-unread g c = inr record { number = c.in-TooLong.number; so_far = c.run_lines.ensures.too_long c.in-TooLong.number c.in-TooLong.is; told = c.long_line_reply.ensures }
