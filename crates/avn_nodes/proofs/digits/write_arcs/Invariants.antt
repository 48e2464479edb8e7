use Rattle.std.proofs.Common.{take}
use Rattle.std.specs.Fmt.{HasWritten, IsPlainFormatter}
use Rattle.avn_grammar.specs.Print.{arc_text}
use Rattle.avn_nodes.proofs.digits.write_arcs.Given as goal

abbrev pub invariant-loop-arc : goal.invariant-loop-arc
invariant-loop-arc g l = IsPlainFormatter l.initial.f → HasWritten g.W.Write.write_str_gives l.initial.f (arc_text (take l.arc-index l.arcs)) l.f
