use Rattle.std.proofs.Common.{◌≡◌, take, ◌-◌, ◌*◌}
use Rattle.std.specs.Fmt.{HasWritten, IsPlainFormatter}
use Rattle.avn_grammar.specs.Octets.{bit_text}
use Rattle.avn_nodes.proofs.digits.write_bits.Given as goal

abbrev pub invariant-loop-octet : goal.invariant-loop-octet
invariant-loop-octet g l = (l.left ≡ l.at_most - 8 * l.octet-index) × (IsPlainFormatter l.initial.f → HasWritten g.W.Write.write_str_gives l.initial.f (take l.at_most (bit_text (take l.octet-index l.octets))) l.f)
