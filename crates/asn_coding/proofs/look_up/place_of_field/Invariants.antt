use Rattle.std.specs.Str.{bytes_eq}
use Rattle.asn_names.specs.Rows.{row_names}
use Rattle.asn_coding.proofs.LookingUp.{IsNoneOf}
use Rattle.asn_coding.proofs.look_up.place_of_field.Given as goal

-- None of the names before the place is this one.
abbrev pub invariant-loop-place : goal.invariant-loop-place
invariant-loop-place g l = IsNoneOf bytes_eq l.name (row_names (g.N.NameList.rows l.names)) l.place
