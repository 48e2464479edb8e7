use Rattle.std.proofs.Common.{◌+◌, ◌-◌, ◌*◌, vec_len}
use Rattle.asn_lines.specs.declared.limits.TheConstants.{MOST_LINES}
use Rattle.asn_streams.specs.Input.{input_limit}
use Rattle.asn_streams.specs.Transfer.{transfer_of}
use Rattle.asn_lines.proofs.Running.{Underway}
use Rattle.asn_lines.proofs.run.run_lines.Given as goal

abbrev pub invariant-pieces : goal.invariant-pieces
invariant-pieces g l =
    Underway (g.W.LineWork.answers l.work) (transfer_of g.S.Source.left g.S.Source.faults l.initial.source l.source)
    (transfer_of g.K.Sink.written g.K.Sink.faults l.initial.output l.output) (transfer_of g.E.Sink.written g.E.Sink.faults l.initial.errors l.errors) l.gathered

abbrev pub decreases-pieces : goal.decreases-pieces
decreases-pieces g l = (MOST_LINES - l.gathered.lines) * (input_limit + 1) + (input_limit - vec_len l.gathered.line)
