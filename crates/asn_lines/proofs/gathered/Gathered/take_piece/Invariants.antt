use Rattle.std.proofs.Common.{length}
use Rattle.asn_lines.proofs.Taking.{Taking}
use Rattle.asn_lines.proofs.gathered.Gathered.take_piece.Given as goal

abbrev pub invariant-lines : goal.invariant-lines
invariant-lines g l = Taking (g.W.LineWork.answers l.work) l.initial.self l.self l.piece l.rest

abbrev pub decreases-lines : goal.decreases-lines
decreases-lines g l = length l.rest
