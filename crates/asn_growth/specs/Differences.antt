-- Where and why a shape is no later version of another.
use Rattle.std.specs.Prelude.{ℕ, suc, ◌+◌, ◌<◌, ◌≤◌, List, [], ◌∷◌, ◌++◌, Option, Some, None}
use Rattle.asn_model.specs.Shape.{Shape, Fields, FieldAdditions, Alternatives, AlternativeAdditions}
use Rattle.asn_growth.specs.Parts.{added_alternatives, added_fields, alternative_nodes, content, field_nodes, node_count, root_alternatives, root_fields}
use Rattle.asn_growth.specs.Reasons.{reason_of}
use Rattle.asn_growth.specs.declared.reasons.Growth.{Growth}
use Rattle.asn_growth.specs.declared.reasons.Growth.TheVariants as growth
use Rattle.asn_growth.specs.declared.reasons.Reason.{Reason}

-- The place alone where there is a reason, and else the differences of the parts.
abbrev pub here_or : ℕ → Option Reason → List (ℕ × Reason) → List (ℕ × Reason)
here_or place (Some reason) below = (place, reason) ∷ []
here_or place None below = below

-- The places of the first shape that differ in the second, each with its reason, in order. A place is the number of a node of the first shape, where the root has this one: a node comes before its parts, and they come in order. A place that differs isn't gone into, and loops are compared body to body.
abbrev mutual
  pub differences_of : Shape → Shape → ℕ → List (ℕ × Reason)
  differences_of (Shape.seq kind fs added) t place =
      here_or place (reason_of (Shape.seq kind fs added) t) (field_differences fs (root_fields t) (place + 1) ++ added_field_differences added (added_fields t) (place + 1 + field_nodes fs))
  differences_of (Shape.list_of s) t place = here_or place (reason_of (Shape.list_of s) t) (differences_of s (content t) (place + 1))
  differences_of (Shape.set_of s) t place = here_or place (reason_of (Shape.set_of s) t) (differences_of s (content t) (place + 1))
  differences_of (Shape.table s) t place = here_or place (reason_of (Shape.table s) t) (differences_of s (content t) (place + 1))
  differences_of (Shape.choice alts added) t place =
      here_or place (reason_of (Shape.choice alts added) t) (alternative_differences alts (root_alternatives t) (place + 1) ++ added_alternative_differences added (added_alternatives t) (place + 1 + alternative_nodes alts))
  differences_of (Shape.loop s) t place = here_or place (reason_of (Shape.loop s) t) (differences_of s (content t) (place + 1))
  differences_of s t place = here_or place (reason_of s t) []

  -- The same of fields, one by one.
  pub field_differences : Fields → Fields → ℕ → List (ℕ × Reason)
  field_differences (Fields.field n t p s fs) (Fields.field m u q r gs) place = differences_of s r place ++ field_differences fs gs (place + node_count s)
  field_differences fs gs place = []

  -- The same of the extension additions.
  pub added_field_differences : FieldAdditions → Fields → ℕ → List (ℕ × Reason)
  added_field_differences FieldAdditions.closed_fields gs place = []
  added_field_differences (FieldAdditions.extended_fields fs) gs place = field_differences fs gs place

  -- The same of alternatives, one by one.
  pub alternative_differences : Alternatives → Alternatives → ℕ → List (ℕ × Reason)
  alternative_differences (Alternatives.alternative i t s alts) (Alternatives.alternative j u r bs) place = differences_of s r place ++ alternative_differences alts bs (place + node_count s)
  alternative_differences alts bs place = []

  -- The same of the extension additions.
  pub added_alternative_differences : AlternativeAdditions → Alternatives → ℕ → List (ℕ × Reason)
  added_alternative_differences AlternativeAdditions.closed_alternatives bs place = []
  added_alternative_differences (AlternativeAdditions.extended_alternatives alts) bs place = alternative_differences alts bs place

-- The answer for these differences: the first one, if there is any.
abbrev pub growth_of : List (ℕ × Reason) → Growth
growth_of [] = growth.Grows
growth_of (d ∷ ds) = growth.Differs d.0 d.1

-- The places come in order, each once, from the first number on and below the second.
abbrev pub Ascends : ℕ → ℕ → List (ℕ × Reason) → Type 0
Ascends least end [] = Unit {0}
Ascends least end (d ∷ ds) = (least ≤ d.0) × (d.0 < end) × Ascends (suc d.0) end ds

-- The place that is answered, if there is one, is below this number.
abbrev pub IsPlaceBelow : ℕ → Growth → Type 0
IsPlaceBelow end growth.Grows = Unit {0}
IsPlaceBelow end (growth.Differs place reason) = place < end
