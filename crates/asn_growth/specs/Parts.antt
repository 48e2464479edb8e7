-- The parts of a shape, in the order in which its nodes are numbered.
use Rattle.std.specs.Prelude.{ℕ, ◌+◌, List, [], ◌∷◌, ◌++◌, Some}
use Rattle.asn_core.specs.declared.tag.Tag.{Tag}
use Rattle.asn_model.specs.Shape.{Shape, Fields, FieldAdditions, Alternatives, AlternativeAdditions, Presence}

-- The items before the extension marker of an ENUMERATED.
abbrev pub root_items : Shape → List (List ℕ)
root_items (Shape.enum items added) = items
root_items s = []

-- The items after it.
abbrev pub added_items : Shape → List (List ℕ)
added_items (Shape.enum items (Some added)) = added
added_items s = []

-- The fields before the extension marker of a SEQUENCE or SET.
abbrev pub root_fields : Shape → Fields
root_fields (Shape.seq kind fs added) = fs
root_fields s = Fields.no_fields

-- The fields after it.
abbrev pub added_fields : Shape → Fields
added_fields (Shape.seq kind fs (FieldAdditions.extended_fields added)) = added
added_fields s = Fields.no_fields

-- The alternatives before the extension marker of a CHOICE.
abbrev pub root_alternatives : Shape → Alternatives
root_alternatives (Shape.choice alts added) = alts
root_alternatives s = Alternatives.no_alternatives

-- The alternatives after it.
abbrev pub added_alternatives : Shape → Alternatives
added_alternatives (Shape.choice alts (AlternativeAdditions.extended_alternatives added)) = added
added_alternatives s = Alternatives.no_alternatives

-- The element of a list, the entry of a table or the body of a loop. Any other shape has none, and is given itself.
abbrev pub content : Shape → Shape
content (Shape.list_of s) = s
content (Shape.set_of s) = s
content (Shape.table s) = s
content (Shape.loop s) = s
content s = s

-- The tags of fields, in order.
abbrev pub field_tags : Fields → List Tag
field_tags Fields.no_fields = []
field_tags (Fields.field n t p s fs) = t ∷ field_tags fs

-- Whether each field may be absent, in order.
abbrev pub presences : Fields → List Presence
presences Fields.no_fields = []
presences (Fields.field n t p s fs) = p ∷ presences fs

-- The shapes of fields, in order.
abbrev pub field_shapes : Fields → List Shape
field_shapes Fields.no_fields = []
field_shapes (Fields.field n t p s fs) = s ∷ field_shapes fs

-- The shapes of alternatives, in order.
abbrev pub alternative_shapes : Alternatives → List Shape
alternative_shapes Alternatives.no_alternatives = []
alternative_shapes (Alternatives.alternative i t s alts) = s ∷ alternative_shapes alts

-- The shapes of a node's parts, in order: fields and then added ones, alternatives and then added ones, the element, the entry, or the body of a loop.
abbrev pub parts : Shape → List Shape
parts (Shape.seq kind fs added) = field_shapes fs ++ field_shapes (added_fields (Shape.seq kind fs added))
parts (Shape.list_of s) = s ∷ []
parts (Shape.set_of s) = s ∷ []
parts (Shape.table s) = s ∷ []
parts (Shape.choice alts added) = alternative_shapes alts ++ alternative_shapes (added_alternatives (Shape.choice alts added))
parts (Shape.loop s) = s ∷ []
parts s = []

-- How many nodes a shape has, itself included.
abbrev mutual
  pub node_count : Shape → ℕ
  node_count (Shape.seq kind fs added) = 1 + (field_nodes fs + added_field_nodes added)
  node_count (Shape.list_of s) = 1 + node_count s
  node_count (Shape.set_of s) = 1 + node_count s
  node_count (Shape.table s) = 1 + node_count s
  node_count (Shape.choice alts added) = 1 + (alternative_nodes alts + added_alternative_nodes added)
  node_count (Shape.loop s) = 1 + node_count s
  node_count s = 1

  -- The nodes of the shapes of all fields.
  pub field_nodes : Fields → ℕ
  field_nodes Fields.no_fields = 0
  field_nodes (Fields.field n t p s fs) = node_count s + field_nodes fs

  -- The same of the extension additions.
  pub added_field_nodes : FieldAdditions → ℕ
  added_field_nodes FieldAdditions.closed_fields = 0
  added_field_nodes (FieldAdditions.extended_fields fs) = field_nodes fs

  -- The nodes of the shapes of all alternatives.
  pub alternative_nodes : Alternatives → ℕ
  alternative_nodes Alternatives.no_alternatives = 0
  alternative_nodes (Alternatives.alternative i t s alts) = node_count s + alternative_nodes alts

  -- The same of the extension additions.
  pub added_alternative_nodes : AlternativeAdditions → ℕ
  added_alternative_nodes AlternativeAdditions.closed_alternatives = 0
  added_alternative_nodes (AlternativeAdditions.extended_alternatives alts) = alternative_nodes alts
