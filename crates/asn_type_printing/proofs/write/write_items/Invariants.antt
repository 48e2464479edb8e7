use Rattle.std.proofs.Common.{◌≡◌, ◌++◌, drop, map, string_bytes}
use Rattle.asn_type_printing.specs.Printed.{item_list}
use Rattle.asn_type_printing.proofs.write.write_items.Given as goal

-- What is written and the items that are left are all.
abbrev pub invariant-loop-item : goal.invariant-loop-item
invariant-loop-item l = string_bytes l.out ++ item_list l.is_first (map string_bytes (drop l.item-index l.items)) ≡ string_bytes l.fn.out ++ item_list l.first (map string_bytes l.items)
