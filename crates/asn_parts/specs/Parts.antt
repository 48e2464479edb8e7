-- What is seen of a type at one of its parts.
use Rattle.std.specs.Prelude.{◌≡◌, ℕ, pos, List, ◌∷◌, Option, Bool, if◌then◌else◌}
use Rattle.asn_model.specs.Components.{Component, Standing}
use Rattle.asn_model.specs.Shape.{Shape, SeqKind, Fields, FieldAdditions, Alternatives, AlternativeAdditions}
use Rattle.asn_model.specs.ShapeView.{alphabet_view, presence_view}
use Rattle.asn_parts.specs.declared.part.LeafPart.{LeafPart}
use Rattle.asn_parts.specs.declared.part.LeafPart.TheVariants.{Null, Bool as Boolean, Int, Bits, Octets, Any, Oid, Str, Bmp, Utc, Gen, Day, Decimal}
use Rattle.asn_parts.specs.declared.part.PartKind.{PartKind}
use Rattle.asn_parts.specs.declared.part.PartKind.TheVariants.{Leaf, Enumerated, Sequence, Set, ListOf, SetOf, Table, Choice, Loop, Back}
use Rattle.asn_parts.specs.declared.part.PartField.{PartField}
use Rattle.asn_parts.specs.declared.part.PartAlternative.{PartAlternative}

-- The shape of a type whose values have no parts.
abbrev pub leaf_shape : LeafPart → Shape
leaf_shape Null = Shape.null
leaf_shape Boolean = Shape.boolean
leaf_shape (Int least greatest width) = Shape.int least (pos greatest) width
leaf_shape (Bits fixed) = Shape.bits fixed
leaf_shape Octets = Shape.octets
leaf_shape Any = Shape.any
leaf_shape Oid = Shape.oid
leaf_shape (Str alphabet) = Shape.text (alphabet_view alphabet)
leaf_shape Bmp = Shape.bmp
leaf_shape Utc = Shape.utc
leaf_shape Gen = Shape.gen
leaf_shape Day = Shape.day
leaf_shape Decimal = Shape.decimal

-- The shape is of this kind, within these bodies of loops.
abbrev pub IsKind : {P : Type 0} → (List P → P → Shape) → List P → PartKind P → Shape → Type 0
IsKind shape around (Leaf leaf) s = s ≡ leaf_shape leaf
IsKind shape around Enumerated s = (items : List (List ℕ)) × (added : Option (List (List ℕ))) × (s ≡ Shape.enum items added)
IsKind shape around Sequence s = (fs : Fields) × (added : FieldAdditions) × (s ≡ Shape.seq SeqKind.sequence fs added)
IsKind shape around Set s = (fs : Fields) × (added : FieldAdditions) × (s ≡ Shape.seq SeqKind.set fs added)
IsKind shape around (ListOf part) s = s ≡ Shape.list_of (shape around part)
IsKind shape around (SetOf part) s = s ≡ Shape.set_of (shape around part)
IsKind shape around (Table part) s = s ≡ Shape.table (shape around part)
IsKind shape around Choice s = (alts : Alternatives) × (added : AlternativeAdditions) × (s ≡ Shape.choice alts added)
IsKind shape around (Loop body) s = s ≡ Shape.loop (shape (body ∷ around) body)
IsKind shape around (Back number) s = s ≡ Shape.back number

-- Where a field stands.
abbrev pub standing_of : Bool → Standing
standing_of is_addition = if is_addition then Standing.addition else Standing.root

-- The component that a field is.
abbrev pub component_of : {P : Type 0} → (P → Shape) → PartField P → Component
component_of shape field = record { name = field.name.now; tag = field.tag; presence = presence_view field.presence.now; shape = shape field.part; standing = standing_of field.is_addition }

-- The identifier of an alternative and the shape of its payload.
abbrev pub alternative_of : {P : Type 0} → (P → Shape) → PartAlternative P → List ℕ × Shape
alternative_of shape alternative = (alternative.identifier.now, shape alternative.part)
