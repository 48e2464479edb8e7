-- What notations are, by what their parts are.
use Rattle.std.proofs.Common.{◌≡◌, refl, ap, sym, ◌∙◌, List, [], ◌∷◌, ◌++◌, map, Option, Some, None, String}
use Rattle.std.specs.Global.{Box, Global, Vec}
use Rattle.asn_model.specs.Shape.{SeqKind}
use Rattle.asn_notation.specs.Notation as spec
use Rattle.asn_notation.specs.View.{items_of, marked, notation_view, notation_step, component_step, components_step, component_view, components_view}
use Rattle.asn_notation.specs.declared.notation.Component.{Component}
use Rattle.asn_notation.specs.declared.notation.Components.{Components, roll-Components, out-Components}
use Rattle.asn_notation.specs.declared.notation.Notation.{Notation}
use Rattle.asn_notation.specs.declared.notation.Notation.TheOpen as layer
use Rattle.asn_notation.specs.declared.notation.Notation.TheVariants.{rolls-Sequence, rolls-Set, rolls-Choice, rolls-Enumerated, Enumerated, rolls-SequenceOf, SequenceOf, rolls-SetOf, SetOf}
use Rattle.asn_notation.specs.declared.notation.Notation.TheVariants.{Sequence, Set, Choice}
use Rattle.asn_notation.specs.declared.notation.Notation.TheFolds.{fold-Component, fold-roll-Notation, fold-roll-Components, fold_out-Component, fold_out-Components}

abbrev component_fold : Component → spec.Element
component_fold = fold-Component spec.Notation spec.Element (List spec.Element) notation_step component_step components_step

components_folded : (cs : List Component) → map component_fold cs ≡ map component_view cs
components_folded [] = refl
components_folded (c ∷ cs) = ap (λ e. e ∷ map component_fold cs) (fold_out-Component spec.Notation spec.Element (List spec.Element) notation_step component_step components_step c)
    ∙ ap (λ l. component_view c ∷ l) (components_folded cs)

-- Components of these entries.
pub components_viewed : (root : Vec Component) (added : Option (Vec Component)) → components_view (roll-Components (record { root = root; added = added })) ≡ map component_view root.items ++ marked component_view spec.marker added
components_viewed root None = fold-roll-Components spec.Notation spec.Element (List spec.Element) notation_step component_step components_step (record { root = root; added = None })
    ∙ ap (λ l. l ++ []) (components_folded root.items)
components_viewed root (Some more) = fold-roll-Components spec.Notation spec.Element (List spec.Element) notation_step component_step components_step (record { root = root; added = Some more })
    ∙ ap (λ l. l ++ spec.marker ∷ map component_fold more.items) (components_folded root.items)
    ∙ ap (λ l. map component_view root.items ++ spec.marker ∷ l) (components_folded more.items)

-- A SEQUENCE, by its components.
pub sequence_viewed : (c : Components) → notation_view (Sequence c) ≡ spec.members SeqKind.sequence (spec.elements_of (components_view c))
sequence_viewed c = ap notation_view (sym (rolls-Sequence c)) ∙ fold-roll-Notation spec.Notation spec.Element (List spec.Element) notation_step component_step components_step (layer.Sequence c)

-- A SET, by its components.
pub set_viewed : (c : Components) → notation_view (Set c) ≡ spec.members SeqKind.set (spec.elements_of (components_view c))
set_viewed c = ap notation_view (sym (rolls-Set c)) ∙ fold-roll-Notation spec.Notation spec.Element (List spec.Element) notation_step component_step components_step (layer.Set c)

-- A CHOICE, by its alternatives.
pub choice_viewed : (c : Components) → notation_view (Choice c) ≡ spec.choice (spec.elements_of (components_view c))
choice_viewed c = ap notation_view (sym (rolls-Choice c)) ∙ fold-roll-Notation spec.Notation spec.Element (List spec.Element) notation_step component_step components_step (layer.Choice c)

-- An ENUMERATED, by its items.
pub enumerated_viewed : (items : Vec (String Global)) (added : Option (Vec (String Global))) → notation_view (Enumerated items added) ≡ spec.enumerated (items_of items.items added)
enumerated_viewed items added =
    ap notation_view (sym (rolls-Enumerated items added)) ∙ fold-roll-Notation spec.Notation spec.Element (List spec.Element) notation_step component_step components_step (layer.Enumerated items added)

-- A SEQUENCE OF, by its elements.
pub sequence_of_viewed : (n : Box Notation) → notation_view (SequenceOf n) ≡ spec.list_of SeqKind.sequence (notation_view n.value)
sequence_of_viewed n = ap notation_view (sym (rolls-SequenceOf n)) ∙ fold-roll-Notation spec.Notation spec.Element (List spec.Element) notation_step component_step components_step (layer.SequenceOf n)

-- A SET OF, by its elements.
pub set_of_viewed : (n : Box Notation) → notation_view (SetOf n) ≡ spec.list_of SeqKind.set (notation_view n.value)
set_of_viewed n = ap notation_view (sym (rolls-SetOf n)) ∙ fold-roll-Notation spec.Notation spec.Element (List spec.Element) notation_step component_step components_step (layer.SetOf n)

-- Components, by what they hold.
pub components_out : (c : Components) → components_view c ≡ map component_view (out-Components c).root.items ++ marked component_view spec.marker (out-Components c).added
components_out c = fold_out-Components spec.Notation spec.Element (List spec.Element) notation_step component_step components_step c
    ∙ sym (fold-roll-Components spec.Notation spec.Element (List spec.Element) notation_step component_step components_step (out-Components c)) ∙ components_viewed (out-Components c).root (out-Components c).added
