use Rattle.std.proofs.Common.{◌-◌, ◌<◌, length}
use Rattle.std.specs.Prelude.{IfSome, option_map}
use Rattle.asn_names.proofs.Rows.{row_at}
use Rattle.avn_rules.proofs.Walks.{FieldsLeft}
use Rattle.avn_rules.proofs.avn.take_apart.slots_of.Given as goal

-- The entries that are left, and else the slots, give the slots of all entries.
abbrev pub invariant-entries : goal.invariant-entries
invariant-entries g l = record {
  walk : FieldsLeft l.table l.node l.entry l.end (g.N.NameList.rows l.names) l.slots.items (option_map (row_at (g.N.NameList.rows l.names)) l.repeated);
  within : IfSome l.repeated (λ k. k < length (g.N.NameList.rows l.names));
}

abbrev pub decreases-entries : goal.decreases-entries
decreases-entries g l = l.end - l.entry
