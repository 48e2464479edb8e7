use Rattle.std.proofs.Common.{◌≡◌, ◌*◌, length, take}
use Rattle.avn_grammar.specs.Octets.{hex_text}
use Rattle.avn_nodes.proofs.digits.write_chunk.Given as goal

abbrev pub invariant-loop-octet : goal.invariant-loop-octet
invariant-loop-octet g l = (length l.digits ≡ 512) × (l.end ≡ 2 * l.octet-index) × (take l.end l.digits ≡ hex_text (take l.octet-index l.octets))
