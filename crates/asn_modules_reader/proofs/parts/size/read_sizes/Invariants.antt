use Rattle.std.proofs.Common.{◌≤◌, length}
use Rattle.asn_modules_reader.proofs.parts.SizesRead.{SizesGo}
use Rattle.asn_modules_reader.proofs.parts.size.read_sizes.Given as goal

abbrev pub invariant-sizes : goal.invariant-sizes
invariant-sizes l = SizesGo l.tokens l.rest l.sizes.items × (length l.rest ≤ length l.tokens)

abbrev pub decreases-sizes : goal.decreases-sizes
decreases-sizes l = length l.rest
