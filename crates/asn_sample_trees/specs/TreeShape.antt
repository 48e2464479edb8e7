-- The shape of SEQUENCE { kids SEQUENCE OF itself, ... } with any extension additions
use Rattle.std.specs.Prelude.{codes}
use Rattle.asn_traits.specs.Shape.{Shape, SeqKind, Fields, FieldAdditions, Presence}
use Rattle.asn_coding.specs.Terms.{context}

-- The field of the root, by the shape of the tree.
abbrev pub tree_fields : Shape → Fields
tree_fields tree = Fields.field (codes "kids") (context 0) Presence.required (Shape.list_of tree) Fields.no_fields

-- One turn of a tree with these extension additions, by the shape of the trees in it.
abbrev pub tree_body : Fields → Shape → Shape
tree_body added tree = Shape.seq SeqKind.sequence (tree_fields tree) (FieldAdditions.extended_fields added)

-- The shape of a tree with these extension additions.
abbrev pub tree_shape : Fields → Shape
tree_shape added = Shape.loop (tree_body added (Shape.back 0))
