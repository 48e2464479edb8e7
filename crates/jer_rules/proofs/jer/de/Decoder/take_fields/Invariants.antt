use Rattle.std.proofs.Common.{drop}
use Rattle.serde_json.specs.View.{members_view}
use Rattle.asn_names.specs.Rows.{row_names}
use Rattle.jer_rules.specs.Pending.{pending_of, TakesFields}
use Rattle.jer_rules.proofs.jer.de.Decoder.take_fields.Given as goal

-- The last fields are taken.
abbrev pub invariant-loop-place : goal.invariant-loop-place
invariant-loop-place g l =
    TakesFields (drop l.place (row_names (g.N.NameList.rows l.names))) (members_view l.initial.members.entries) (members_view l.members.entries) (pending_of l.initial.self) (pending_of l.self)
