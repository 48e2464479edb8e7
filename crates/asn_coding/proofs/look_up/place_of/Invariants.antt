use Rattle.asn_model.specs.Tree.{same_identifier}
use Rattle.asn_names.specs.Rows.{row_names}
use Rattle.asn_coding.proofs.LookingUp.{IsNoneOf}
use Rattle.asn_coding.proofs.look_up.place_of.Given as goal

-- None of the names before the place is this one.
abbrev pub invariant-loop-place : goal.invariant-loop-place
invariant-loop-place g l = IsNoneOf same_identifier l.identifier (row_names (g.N.NameList.rows l.names)) l.place
