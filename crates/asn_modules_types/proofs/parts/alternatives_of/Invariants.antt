use Rattle.std.proofs.Common.{◌≡◌, ◌+◌, length, map}
use Rattle.asn_model.specs.ShapeView.{alternative_views}
use Rattle.asn_modules_types.specs.Known.{part_view}
use Rattle.asn_modules_types.specs.Types.{alternatives_from}
use Rattle.asn_modules_types.proofs.parts.alternatives_of.Given as goal

abbrev pub invariant-loop-part : goal.invariant-loop-part
invariant-loop-part l = (alternative_views l.alternatives.items ≡ alternatives_from l.fn.tag (map part_view l.yielded)) × (l.tag ≡ l.fn.tag + length l.yielded)
