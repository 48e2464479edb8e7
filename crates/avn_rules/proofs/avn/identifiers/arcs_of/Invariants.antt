use Rattle.std.proofs.Common.{◌-◌}
use Rattle.avn_rules.proofs.ArcsTaken.{ArcsLeft}
use Rattle.avn_rules.proofs.avn.identifiers.arcs_of.Given as goal

-- The arcs so far stand before those of the elements that are left.
abbrev pub invariant-items : goal.invariant-items
invariant-items l = ArcsLeft l.table l.node l.item l.end l.arcs.items

abbrev pub decreases-items : goal.decreases-items
decreases-items l = l.end - l.item
