use Rattle.std.proofs.Common.{◌≡◌, map, take, string_bytes}
use Rattle.asn_modules_types.specs.Leaves.{item_names}
use Rattle.asn_modules_types.proofs.leaves.item_names.Given as goal

abbrev pub invariant-loop-item : goal.invariant-loop-item
invariant-loop-item l = map string_bytes l.names.items ≡ item_names l.text (take l.item-index l.items)
