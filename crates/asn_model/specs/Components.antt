-- The components of a SEQUENCE or SET, in the order in which they are read.
use Rattle.std.specs.Prelude.{ℕ, List, [], ◌∷◌, ◌++◌, map}
use Rattle.std.specs.declared.cmp.Ordering.{Ordering}
use Rattle.std.specs.Ordering.{nat_cmp, on, ordering_then}
use Rattle.asn_core.specs.Tags.{class_place}
use Rattle.asn_core.specs.declared.tag.Tag.{Tag}
use Rattle.asn_model.specs.Shape.{Shape, SeqKind, Fields, FieldAdditions, Presence}
use Rattle.asn_model.specs.Sorting.{sort}

-- Whether a component is of the root of its type, or an extension addition.
pub data Standing : Type 0 where
  root : Standing
  addition : Standing

-- A component: what its type states of the field, and where it stands.
pub record Component : Type 0 where
  pub name : List ℕ
  pub tag : Tag
  pub presence : Presence
  pub shape : Shape
  pub standing : Standing

-- The fields as components that stand there.
abbrev pub components : Standing → Fields → List Component
components at Fields.no_fields = []
components at (Fields.field n t p s fs) = record { name = n; tag = t; presence = p; shape = s; standing = at } ∷ components at fs

-- The names of components, in order.
abbrev pub component_names : List Component → List (List ℕ)
component_names cs = map (λ (c : Component). c.name) cs

-- The order of tags: by class, and then by number (X.680, section 8.6).
abbrev pub tag_cmp : Tag → Tag → Ordering
tag_cmp a b = ordering_then (nat_cmp (class_place a.class) (class_place b.class)) (nat_cmp a.value b.value)

-- The components of the root in the order in which they are read: those of a SET by their tags, and where these are equal as they stand.
abbrev pub root_order : SeqKind → Fields → List Component
root_order SeqKind.sequence fs = components Standing.root fs
root_order SeqKind.set fs = sort (on (λ (c : Component). c.tag) tag_cmp) (components Standing.root fs)

-- These components, and the extension additions after them.
abbrev pub with_additions : List Component → FieldAdditions → List Component
with_additions cs FieldAdditions.closed_fields = cs
with_additions cs (FieldAdditions.extended_fields fs) = cs ++ components Standing.addition fs

-- All components in the order in which they are read: the root first.
abbrev pub reading_order : SeqKind → Fields → FieldAdditions → List Component
reading_order kind fs added = with_additions (root_order kind fs) added
