-- The notation that a `Notation` is.
use Rattle.std.specs.Prelude.{ℕ, List, [], ◌∷◌, ◌++◌, map, Option, Some, None, String, string_bytes}
use Rattle.std.specs.Global.{Global, Vec}
use Rattle.asn_model.specs.Shape.{SeqKind}
use Rattle.asn_model.specs.ShapeView.{alphabet_view}
use Rattle.asn_notation.specs.Notation as spec
use Rattle.asn_notation.specs.declared.notation.Module.{Module}
use Rattle.asn_notation.specs.declared.notation.Assignment.{Assignment}
use Rattle.asn_notation.specs.declared.notation.Component.{Component}
use Rattle.asn_notation.specs.declared.notation.Components.{Components}
use Rattle.asn_notation.specs.declared.notation.Notation.{Notation}
use Rattle.asn_notation.specs.declared.notation.Notation.TheOpen.{Notation-F, Component-F, Components-F, Boolean, Null, Integer, OctetString, BitString, ObjectIdentifier, Text, Bmp, Sequence, Set, SequenceOf, SetOf, Choice, Enumerated, Reference}
use Rattle.asn_notation.specs.declared.notation.Notation.TheFolds.{fold-Notation, fold-Components}

-- What the extension marker and the additions behind it are in a list.
abbrev pub marked : {A B : Type 0} → (A → B) → B → Option (Vec A) → List B
marked f m None = []
marked f m (Some added) = m ∷ map f added.items

-- The same of additions that are seen already.
abbrev pub behind_marker : {B : Type 0} → B → Option (Vec B) → List B
behind_marker m None = []
behind_marker m (Some added) = m ∷ added.items

-- The items of an ENUMERATED, of which `None` is the extension marker.
abbrev pub items_of : List (String Global) → Option (Vec (String Global)) → List (Option (List ℕ))
items_of items added = map (λ i. Some (string_bytes i)) items ++ marked (λ i. Some (string_bytes i)) None added

-- One level of a `Component`.
abbrev pub component_step : {A B : Type 0} → Component-F spec.Notation A B → spec.Element
component_step c = spec.component (string_bytes c.name) c.notation c.optional

-- One level of `Components`.
abbrev pub components_step : {A B : Type 0} → Components-F A spec.Element B → List spec.Element
components_step c = c.root.items ++ behind_marker spec.marker c.added

-- One level of a `Notation`, with the views of its parts in their places.
abbrev pub notation_step : Notation-F spec.Notation spec.Element (List spec.Element) → spec.Notation
notation_step Boolean = spec.boolean
notation_step Null = spec.null
notation_step Integer = spec.integer
notation_step OctetString = spec.octet_string
notation_step BitString = spec.bit_string
notation_step ObjectIdentifier = spec.object_identifier
notation_step (Text a) = spec.text (alphabet_view a)
notation_step Bmp = spec.bmp
notation_step (Sequence c) = spec.members SeqKind.sequence (spec.elements_of c)
notation_step (Set c) = spec.members SeqKind.set (spec.elements_of c)
notation_step (SequenceOf n) = spec.list_of SeqKind.sequence n.value
notation_step (SetOf n) = spec.list_of SeqKind.set n.value
notation_step (Choice c) = spec.choice (spec.elements_of c)
notation_step (Enumerated items added) = spec.enumerated (items_of items.items added)
notation_step (Reference name) = spec.reference (string_bytes name)

-- The notation that a `Notation` is.
abbrev pub notation_view : Notation → spec.Notation
notation_view = fold-Notation spec.Notation spec.Element (List spec.Element) notation_step component_step components_step

-- The element that a `Component` is.
abbrev pub component_view : Component → spec.Element
component_view c = spec.component (string_bytes c.name) (notation_view c.notation) c.optional

-- The elements that `Components` are, with the extension marker among them.
abbrev pub components_view : Components → List spec.Element
components_view = fold-Components spec.Notation spec.Element (List spec.Element) notation_step component_step components_step

-- The assignment that an `Assignment` is.
abbrev pub assignment_view : Assignment → spec.Assignment
assignment_view a = record { name = string_bytes a.name; notation = notation_view a.notation }

-- The assignments that a `Module` has.
abbrev pub module_view : Module → List spec.Assignment
module_view m = map assignment_view m.assignments.items
