use Rattle.std.proofs.Common.{◌≡◌, length}
use Rattle.serde_json.specs.Data.{Members}
use Rattle.jer_values.specs.Views.{data_of, members_view}
use Rattle.asn_names.specs.Rows.{row_names}
use Rattle.asn_slots.specs.Trees.{trees_of}
use Rattle.jer_rules.specs.Holding.{members_onto}
use Rattle.jer_rules.proofs.jer.build.members_of.Given as goal

-- The members of the slots that are left, put before those that are there, are all.
abbrev pub invariant-loop-slot : goal.invariant-loop-slot
invariant-loop-slot g l =
    let names = row_names (g.N.NameList.rows l.names) in
    members_onto (trees_of data_of l.slots.items) names (members_view l.members.items) ≡ members_onto (trees_of data_of l.fn.slots.items) names Members.no_members

abbrev pub decreases-loop-slot : goal.decreases-loop-slot
decreases-loop-slot g l = length l.slots.items
