use Rattle.std.proofs.Common.{◌≡◌, ℕ, List, ◌++◌}
use Rattle.std.specs.Fmt.{HasWritten, IsPlainFormatter}
use Rattle.std.specs.Slice.Iter.{chunks_rest, chunks_size}
use Rattle.avn_grammar.specs.Octets.{hex_text}
use Rattle.avn_nodes.proofs.digits.write_hex.Given as goal

abbrev pub invariant-loop-chunk : goal.invariant-loop-chunk
invariant-loop-chunk g l = (done : List ℕ) × (IsPlainFormatter l.initial.f → HasWritten g.W.Write.write_str_gives l.initial.f done l.f) × (done ++ hex_text (chunks_rest l.chunk-iterator) ≡ hex_text l.octets) × (chunks_size l.chunk-iterator ≡ 256)
