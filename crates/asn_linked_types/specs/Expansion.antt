-- What types mean that name each other by number.
use Rattle.std.specs.Prelude.{ℕ, zero, suc, List, [], ◌∷◌, nat_eq, if◌then◌else◌, Option, Some, None, option_map}
use Rattle.asn_model.specs.Shape.{Shape, Fields, FieldAdditions, Alternatives, AlternativeAdditions, closed_enum}

-- A type without values: an ENUMERATED without items.
abbrev pub no_values : Shape
no_values = closed_enum []

abbrev mutual
  -- The shape with what f gives for a number in the place of each `back` of that number. There is no loop in such a shape: it would stand for a type without values.
  pub linked_shape : (ℕ → Shape) → Shape → Shape
  linked_shape f (Shape.seq kind fs added) = Shape.seq kind (linked_fields f fs) (linked_added_fields f added)
  linked_shape f (Shape.list_of s) = Shape.list_of (linked_shape f s)
  linked_shape f (Shape.set_of s) = Shape.set_of (linked_shape f s)
  linked_shape f (Shape.table s) = Shape.table (linked_shape f s)
  linked_shape f (Shape.choice alts added) = Shape.choice (linked_alternatives f alts) (linked_added_alternatives f added)
  linked_shape f (Shape.loop s) = no_values
  linked_shape f (Shape.back k) = f k
  linked_shape f s = s

  -- The fields, in the same way.
  pub linked_fields : (ℕ → Shape) → Fields → Fields
  linked_fields f Fields.no_fields = Fields.no_fields
  linked_fields f (Fields.field n t p s fs) = Fields.field n t p (linked_shape f s) (linked_fields f fs)

  -- The extension additions, in the same way.
  pub linked_added_fields : (ℕ → Shape) → FieldAdditions → FieldAdditions
  linked_added_fields f FieldAdditions.closed_fields = FieldAdditions.closed_fields
  linked_added_fields f (FieldAdditions.extended_fields fs) = FieldAdditions.extended_fields (linked_fields f fs)

  -- The alternatives, in the same way.
  pub linked_alternatives : (ℕ → Shape) → Alternatives → Alternatives
  linked_alternatives f Alternatives.no_alternatives = Alternatives.no_alternatives
  linked_alternatives f (Alternatives.alternative i t s alts) = Alternatives.alternative i t (linked_shape f s) (linked_alternatives f alts)

  -- The extension additions, in the same way.
  pub linked_added_alternatives : (ℕ → Shape) → AlternativeAdditions → AlternativeAdditions
  linked_added_alternatives f AlternativeAdditions.closed_alternatives = AlternativeAdditions.closed_alternatives
  linked_added_alternatives f (AlternativeAdditions.extended_alternatives alts) = AlternativeAdditions.extended_alternatives (linked_alternatives f alts)

-- The first place of the number.
abbrev pub place_of : List ℕ → ℕ → Option ℕ
place_of [] k = None
place_of (n ∷ ns) k = if nat_eq n k then Some 0 else option_map suc (place_of ns k)

-- The type of the number.
abbrev pub type_at : List Shape → ℕ → Option Shape
type_at [] k = None
type_at (s ∷ ss) zero = Some s
type_at (s ∷ ss) (suc k) = type_at ss k

-- The loop of a type whose names have the shapes that f gives, and no values where there is no type.
abbrev pub loop_of : (ℕ → Shape) → Option Shape → Shape
loop_of f None = no_values
loop_of f (Some s) = Shape.loop (linked_shape f s)

-- The loop that is open at the place, or the other shape where none is.
abbrev pub back_or : Option ℕ → Shape → Shape
back_or (Some place) s = Shape.back place
back_or None s = s

-- The expansion of the type of a number, where the types of these numbers are open, the innermost first, and so many more may be opened: where the type is open, its place among them; else the loop of the type, expanded with its number put before them.
unfoldable pub expansion : List Shape → ℕ → List ℕ → ℕ → Shape
expansion types zero opened k = back_or (place_of opened k) no_values
expansion types (suc more) opened k = back_or (place_of opened k) (loop_of (expansion types more (k ∷ opened)) (type_at types k))
