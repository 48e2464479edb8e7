use Rattle.std.proofs.Common.{◌≡◌, ◌++◌, drop}
use Rattle.asn_modules_rules.proofs.lists.Collecting.{names_of_items}
use Rattle.asn_modules_rules.proofs.lists.listed.add_items.Given as goal

abbrev pub invariant-loop-item : goal.invariant-loop-item
invariant-loop-item l = l.fn.names.items ++ names_of_items l.items ≡ l.names.items ++ names_of_items (drop l.item-index l.items)
