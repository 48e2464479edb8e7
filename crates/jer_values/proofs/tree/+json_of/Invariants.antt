-- The elements and members so far are those of the value, and what is left is still in order.
use Rattle.std.proofs.Common.{◌≡◌, ◌++◌, drop, map}
use Rattle.serde_json.specs.View.{view}
use Rattle.serde_json.specs.View.{members_view as members_seen}
use Rattle.jer_values.specs.Order.{AreOrdered, HasOrdered}
use Rattle.jer_values.specs.Views.{data_of, items_view, members_view}
use Rattle.jer_values.proofs.Joined.{joined}
use Rattle.jer_values.proofs.tree.+json_of.Given as goal

abbrev pub invariant-array_of-loop-item : goal.invariant-array_of-loop-item
invariant-array_of-loop-item l = record {
  seen : AreOrdered (items_view l.item-items)
      → map view l.values.items ++ map data_of (drop l.item-index l.item-items)
      ≡ map data_of l.item-items;
  left : AreOrdered (items_view l.item-items)
      → AreOrdered (items_view (drop l.item-index l.item-items));
}

abbrev pub invariant-object_of-loop-name : goal.invariant-object_of-loop-name
invariant-object_of-loop-name l =
    HasOrdered (members_view l.name-items)
    → joined (members_seen l.map.entries) (members_view (drop l.name-index l.name-items))
    ≡ members_view l.name-items
