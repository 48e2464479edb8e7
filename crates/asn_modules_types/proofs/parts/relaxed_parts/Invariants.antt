use Rattle.std.proofs.Common.{◌≡◌, map}
use Rattle.asn_modules_types.specs.Known.{part_view}
use Rattle.asn_modules_types.specs.Types.{relaxed}
use Rattle.asn_modules_types.proofs.parts.relaxed_parts.Given as goal

abbrev pub invariant-loop-part : goal.invariant-loop-part
invariant-loop-part l = map part_view l.added.items ≡ map relaxed (map part_view l.yielded)
