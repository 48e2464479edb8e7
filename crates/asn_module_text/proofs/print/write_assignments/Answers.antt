use Rattle.std.proofs.Common.{refl, string_bytes, arith}
use Rattle.asn_module_text.proofs.Printing.{lines_step, lines_end}
use Rattle.asn_module_text.proofs.print.write_assignments.Goals as goal

pub loop-assignment-init : goal.loop-assignment-init
loop-assignment-init c = refl

pub loop-assignment-preserved : goal.loop-assignment-preserved
loop-assignment-preserved c =
    lines_step (string_bytes c.args.out.now) (string_bytes c.loop-assignment.out) (string_bytes c.write_assignment.new.out) c.args.assignments.now c.loop-assignment.assignment-index c.assignment-item.result c.loop-assignment-test.true c.assignment-item.is c.loop-assignment.invariant
    c.in_ok-write_assignment.ensures

pub returns : goal.returns
returns c = lines_end (string_bytes c.args.out.now) (string_bytes c.loop-assignment.out) c.args.assignments.now c.loop-assignment.assignment-index (omega (arith, c.loop-assignment-test.false)) c.loop-assignment.invariant
