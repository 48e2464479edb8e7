-- The way from the root of a shape to each of its nodes.
use Rattle.std.specs.Prelude.{ℕ, List, [], ◌∷◌, ◌++◌, map, codes}
use Rattle.asn_model.specs.Shape.{Shape, Fields, FieldAdditions, Alternatives, AlternativeAdditions, field_names, identifiers}
use Rattle.asn_growth.specs.Parts.{added_alternatives, added_fields}

-- A path is a list of steps, each of them the name of a field, the identifier of an alternative, or this one, which leads to an element or entry.
abbrev pub into_each : List ℕ
into_each = codes "*"

-- The paths, each after one step more.
abbrev pub under : List ℕ → List (List (List ℕ)) → List (List (List ℕ))
under step paths = map (λ path. step ∷ path) paths

-- The path to each node, in the order of the nodes: a node comes before its parts, and they come in order. There is no step to the body of a loop.
abbrev mutual
  pub paths : Shape → List (List (List ℕ))
  paths (Shape.seq kind fs added) = [] ∷ (field_paths fs ++ added_field_paths added)
  paths (Shape.list_of s) = [] ∷ under into_each (paths s)
  paths (Shape.set_of s) = [] ∷ under into_each (paths s)
  paths (Shape.table s) = [] ∷ under into_each (paths s)
  paths (Shape.choice alts added) = [] ∷ (alternative_paths alts ++ added_alternative_paths added)
  paths (Shape.loop s) = [] ∷ paths s
  paths s = [] ∷ []

  -- The paths to the nodes of all fields.
  pub field_paths : Fields → List (List (List ℕ))
  field_paths Fields.no_fields = []
  field_paths (Fields.field n t p s fs) = under n (paths s) ++ field_paths fs

  -- The same of the extension additions.
  pub added_field_paths : FieldAdditions → List (List (List ℕ))
  added_field_paths FieldAdditions.closed_fields = []
  added_field_paths (FieldAdditions.extended_fields fs) = field_paths fs

  -- The paths to the nodes of all alternatives.
  pub alternative_paths : Alternatives → List (List (List ℕ))
  alternative_paths Alternatives.no_alternatives = []
  alternative_paths (Alternatives.alternative i t s alts) = under i (paths s) ++ alternative_paths alts

  -- The same of the extension additions.
  pub added_alternative_paths : AlternativeAdditions → List (List (List ℕ))
  added_alternative_paths AlternativeAdditions.closed_alternatives = []
  added_alternative_paths (AlternativeAdditions.extended_alternatives alts) = alternative_paths alts

-- The step to each part of a node, if there is one.
abbrev pub steps : Shape → List (List (List ℕ))
steps (Shape.seq kind fs added) = map (λ n. n ∷ []) (field_names fs ++ field_names (added_fields (Shape.seq kind fs added)))
steps (Shape.list_of s) = (into_each ∷ []) ∷ []
steps (Shape.set_of s) = (into_each ∷ []) ∷ []
steps (Shape.table s) = (into_each ∷ []) ∷ []
steps (Shape.choice alts added) = map (λ i. i ∷ []) (identifiers alts ++ identifiers (added_alternatives (Shape.choice alts added)))
steps (Shape.loop s) = [] ∷ []
steps s = []
