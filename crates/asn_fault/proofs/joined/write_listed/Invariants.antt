use Rattle.std.proofs.Common.{take}
use Rattle.std.specs.Fmt.{HasWritten, IsPlainFormatter}
use Rattle.asn_fault.specs.Joined.{listed}
use Rattle.asn_fault.proofs.joined.write_listed.Given as goal

abbrev pub invariant-loop-item : goal.invariant-loop-item
invariant-loop-item g l = IsPlainFormatter l.initial.f → HasWritten g.W.Write.write_str_gives l.initial.f (listed g.T.Listed.text (take l.item-index l.items)) l.f
