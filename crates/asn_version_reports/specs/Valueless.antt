-- The parts of a type that have no values.
use Rattle.std.specs.Prelude.{ℕ, List, [], ◌∷◌, ◌++◌, codes, map, None}
use Rattle.std.specs.List.{flat_map}
use Rattle.asn_growth.specs.Paths.{into_each, under}
use Rattle.asn_model.specs.Shape.{Shape, Fields, FieldAdditions, Alternatives, AlternativeAdditions}
use Rattle.asn_version_reports.specs.Paths.{path_text}

-- The paths to the parts that are the type without values, an ENUMERATED without items, in the order of the parts. There is no step to the body of a loop.
abbrev mutual
  pub valueless_paths : Shape → List (List (List ℕ))
  valueless_paths (Shape.enum [] None) = [] ∷ []
  valueless_paths (Shape.seq kind fs added) = field_valueless fs ++ added_field_valueless added
  valueless_paths (Shape.list_of s) = under into_each (valueless_paths s)
  valueless_paths (Shape.set_of s) = under into_each (valueless_paths s)
  valueless_paths (Shape.table s) = under into_each (valueless_paths s)
  valueless_paths (Shape.choice alts added) = alternative_valueless alts ++ added_alternative_valueless added
  valueless_paths (Shape.loop s) = valueless_paths s
  valueless_paths s = []

  -- Those in fields.
  pub field_valueless : Fields → List (List (List ℕ))
  field_valueless Fields.no_fields = []
  field_valueless (Fields.field n t p s fs) = under n (valueless_paths s) ++ field_valueless fs

  -- The same of the extension additions.
  pub added_field_valueless : FieldAdditions → List (List (List ℕ))
  added_field_valueless FieldAdditions.closed_fields = []
  added_field_valueless (FieldAdditions.extended_fields fs) = field_valueless fs

  -- Those in alternatives.
  pub alternative_valueless : Alternatives → List (List (List ℕ))
  alternative_valueless Alternatives.no_alternatives = []
  alternative_valueless (Alternatives.alternative i t s alts) = under i (valueless_paths s) ++ alternative_valueless alts

  -- The same of the extension additions.
  pub added_alternative_valueless : AlternativeAdditions → List (List (List ℕ))
  added_alternative_valueless AlternativeAdditions.closed_alternatives = []
  added_alternative_valueless (AlternativeAdditions.extended_alternatives alts) = alternative_valueless alts

-- The line that says that the part at this path isn't compared with that of another version.
abbrev pub uncompared_line : List ℕ → List ℕ
uncompared_line part = part ++ codes ": no value of it is read, so it isn't compared\n"

-- A line for each part without values.
abbrev pub uncompared_lines : Shape → List ℕ
uncompared_lines s = flat_map uncompared_line (map path_text (valueless_paths s))
