-- How many loops of a shape are within each other.
use Rattle.std.specs.Prelude.{ℕ, suc, max}
use Rattle.asn_model.specs.Shape.{Shape, Fields, FieldAdditions, Alternatives, AlternativeAdditions}

-- The most loops that are within each other. Of an expansion these are the types that are open at once.
abbrev mutual
  pub loop_depth : Shape → ℕ
  loop_depth (Shape.seq kind fs added) = max (field_loops fs) (added_field_loops added)
  loop_depth (Shape.list_of s) = loop_depth s
  loop_depth (Shape.set_of s) = loop_depth s
  loop_depth (Shape.table s) = loop_depth s
  loop_depth (Shape.choice alts added) = max (alternative_loops alts) (added_alternative_loops added)
  loop_depth (Shape.loop s) = suc (loop_depth s)
  loop_depth s = 0

  -- The most in the shape of one of the fields.
  pub field_loops : Fields → ℕ
  field_loops Fields.no_fields = 0
  field_loops (Fields.field n t p s fs) = max (loop_depth s) (field_loops fs)

  -- The same of the extension additions.
  pub added_field_loops : FieldAdditions → ℕ
  added_field_loops FieldAdditions.closed_fields = 0
  added_field_loops (FieldAdditions.extended_fields fs) = field_loops fs

  -- The most in the shape of one of the alternatives.
  pub alternative_loops : Alternatives → ℕ
  alternative_loops Alternatives.no_alternatives = 0
  alternative_loops (Alternatives.alternative i t s alts) = max (loop_depth s) (alternative_loops alts)

  -- The same of the extension additions.
  pub added_alternative_loops : AlternativeAdditions → ℕ
  added_alternative_loops AlternativeAdditions.closed_alternatives = 0
  added_alternative_loops (AlternativeAdditions.extended_alternatives alts) = alternative_loops alts
