use Rattle.std.proofs.Common.{take}
use Rattle.std.specs.Fmt.{HasWritten, IsPlainFormatter}
use Rattle.asn_dynamic_faults.specs.Texts.{closings}
use Rattle.asn_dynamic_faults.proofs.printing.write_closings.Given as goal

abbrev pub invariant-loop-step : goal.invariant-loop-step
invariant-loop-step g l = IsPlainFormatter l.initial.f → HasWritten g.W.Write.write_str_gives l.initial.f (closings l.codec (take l.step-index l.path)) l.f
