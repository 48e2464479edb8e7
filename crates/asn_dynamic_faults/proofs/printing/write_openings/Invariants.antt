use Rattle.std.proofs.Common.{take}
use Rattle.std.specs.Fmt.{HasWritten, IsPlainFormatter}
use Rattle.asn_dynamic_faults.specs.Texts.{openings}
use Rattle.asn_dynamic_faults.proofs.printing.write_openings.Given as goal

abbrev pub invariant-loop-step : goal.invariant-loop-step
invariant-loop-step g l = IsPlainFormatter l.initial.f → HasWritten g.W.Write.write_str_gives l.initial.f (openings (take l.step-index l.path)) l.f
