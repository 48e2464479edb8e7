use Rattle.std.proofs.Common.{◌-◌}
use Rattle.avn_rules.proofs.Walks.{ItemsLeft}
use Rattle.avn_rules.proofs.avn.take_apart.items_of.Given as goal

-- The elements that were taken stand before those that are left.
abbrev pub invariant-items : goal.invariant-items
invariant-items l = ItemsLeft l.table l.node l.item l.end l.items.items

abbrev pub decreases-items : goal.decreases-items
decreases-items l = l.end - l.item
