use Rattle.std.proofs.Common.{Some, option_map, refl, sym, ap, subst, ◌∙◌, ◌+◌, ◌-◌, ◌<◌, length, map, arith}
use Rattle.std.proofs.lemmas.Grind.{common_steps}
use Rattle.asn_growth.specs.Parts.{added_alternative_nodes, added_field_nodes, alternative_nodes, field_nodes, node_count}
use Rattle.asn_growth.proofs.Walking.{nodes-parts}
use Rattle.asn_model.specs.Shape.{Shape, SeqKind, FieldAdditions, AlternativeAdditions}
use Rattle.asn_model.specs.ShapeView.{alternative_views, field_views, kind_view, shape_view}
use Rattle.asn_model.proofs.Viewing.{sequence_viewed}
use Rattle.asn_notation.specs.Notation.{elements_of, list_of, marker, reference}
use Rattle.asn_notation.specs.View.{assignment_view, component_view, marked, notation_view}
use Rattle.asn_notation.proofs.Viewing as seen
use Rattle.asn_notation.specs.declared.notation.Components.{out-Components}
use Rattle.asn_expansion.specs.Expansion.{added_alternatives, added_fields, of_both, root_alternatives, root_fields}
use Rattle.asn_expansion.specs.Large.{HasMore}
use Rattle.asn_expansion.specs.OpenNames.{open_names}
use Rattle.asn_expansion.specs.Resolving.{resolve}
use Rattle.asn_expansion.proofs.Alternatives.{alternatives_start, alternatives_next, alternatives_end, alternatives_large, choice_parts, choice_large_root, choice_large_added, added_large-alternatives, choice_made}
use Rattle.asn_expansion.proofs.Expanding.{expands_not, expands_nothing}
use Rattle.asn_expansion.proofs.Opening.{back_made, large_as, list_large, list_made, list_viewed, loop_large, loop_made, more_none, reference_viewed, set_viewed}
use Rattle.asn_expansion.proofs.Fields.{fields_start, fields_next, fields_end, fields_large, members_parts, members_large_root, members_large_added, added_large-fields}
use Rattle.asn_module_text.proofs.Printing.{elements_seen}
use Rattle.asn_expansion.proofs.names.+expand.Goals as goal

pub fields_of-loop-component-init : goal.fields_of-loop-component-init
fields_of-loop-component-init t c = (fields_start (resolve c.args.names.now c.args.more c.args.opened.now) c.args.tag.now c.args.components.now c.new-fields.result.items c.args.left.now c.new-fields.ensures.items, omega arith, omega arith)

pub fields_of-returns-in_err-shape-clause-large : goal.fields_of-returns-in_err-shape-clause-large
fields_of-returns-in_err-shape-clause-large t c = λ e.
    fields_large (resolve c.args.names.now c.args.more c.args.opened.now) c.args.tag.now c.args.components.now c.loop-component.component-index c.loop-component.fields.items c.loop-component.tag c.loop-component.left c.args.left.now c.component-item.result c.loop-component-test.true c.component-item.is c.loop-component.invariant.0
    (c.shape_of.ensures.large (grind (arith, common_steps)))

pub fields_of-loop-component-preserved : goal.fields_of-loop-component-preserved
fields_of-loop-component-preserved t c =
    let nodes = nodes-parts (shape_view c.in_ok-shape.shape) in
    let less : c.shape_of.new.left < c.loop-component.left = omega (arith, c.in_ok-shape.ensures.taken, nodes) in (
      fields_next (resolve c.args.names.now c.args.more c.args.opened.now) c.args.tag.now c.args.components.now c.loop-component.component-index c.loop-component.fields.items _ c.loop-component.tag _ c.loop-component.left c.shape_of.new.left c.args.left.now c.component-item.result _ c.loop-component-test.true c.component-item.is c.loop-component.invariant.0
          c.in_ok-shape.ensures.ok c.in_ok-shape.ensures.taken less c.in_ok-name.ensures.cases c.context_tag.ensures c.presence_of.ensures refl c.in_ok-push.ensures.items,
      omega (arith, less, c.loop-component.invariant.1),
      omega (arith, less, c.loop-component.invariant.2),
    )

pub fields_of-returns-clause-ok : goal.fields_of-returns-clause-ok
fields_of-returns-clause-ok t c =
    fields_end (resolve c.args.names.now c.args.more c.args.opened.now) c.args.tag.now c.args.components.now c.loop-component.component-index c.loop-component.fields.items c.loop-component.tag c.loop-component.left c.args.left.now (omega (arith, c.loop-component-test.false)) c.loop-component.invariant.0

pub fields_of-returns-clause-taken : goal.fields_of-returns-clause-taken
fields_of-returns-clause-taken t c = c.loop-component.invariant.0.nodes

pub fields_of-returns-clause-tags : goal.fields_of-returns-clause-tags
fields_of-returns-clause-tags t c = omega (arith, c.loop-component.invariant.0.tags, c.loop-component.invariant.0.bound, c.loop-component-test.false)

pub alternatives_of-loop-component-init : goal.alternatives_of-loop-component-init
alternatives_of-loop-component-init t c = (alternatives_start (resolve c.args.names.now c.args.more c.args.opened.now) c.args.tag.now c.args.components.now c.new-alternatives.result.items c.args.left.now c.new-alternatives.ensures.items, omega arith, omega arith)

pub alternatives_of-returns-in_err-shape-clause-large : goal.alternatives_of-returns-in_err-shape-clause-large
alternatives_of-returns-in_err-shape-clause-large t c = λ e.
    alternatives_large (resolve c.args.names.now c.args.more c.args.opened.now) c.args.tag.now c.args.components.now c.loop-component.component-index c.loop-component.alternatives.items c.loop-component.tag c.loop-component.left c.args.left.now c.component-item.result c.loop-component-test.true c.component-item.is c.loop-component.invariant.0
    (c.shape_of.ensures.large (grind (arith, common_steps)))

pub alternatives_of-loop-component-preserved : goal.alternatives_of-loop-component-preserved
alternatives_of-loop-component-preserved t c =
    let nodes = nodes-parts (shape_view c.in_ok-shape.shape) in
    let less : c.shape_of.new.left < c.loop-component.left = omega (arith, c.in_ok-shape.ensures.taken, nodes) in (
      alternatives_next (resolve c.args.names.now c.args.more c.args.opened.now) c.args.tag.now c.args.components.now c.loop-component.component-index c.loop-component.alternatives.items _ c.loop-component.tag _ c.loop-component.left c.shape_of.new.left c.args.left.now c.component-item.result _ c.loop-component-test.true c.component-item.is c.loop-component.invariant.0
          c.in_ok-shape.ensures.ok c.in_ok-shape.ensures.taken less c.in_ok-identifier.ensures.cases c.context_tag.ensures refl c.in_ok-push.ensures.items,
      omega (arith, less, c.loop-component.invariant.1),
      omega (arith, less, c.loop-component.invariant.2),
    )

pub alternatives_of-returns-clause-ok : goal.alternatives_of-returns-clause-ok
alternatives_of-returns-clause-ok t c =
    alternatives_end (resolve c.args.names.now c.args.more c.args.opened.now) c.args.tag.now c.args.components.now c.loop-component.component-index c.loop-component.alternatives.items c.loop-component.tag c.loop-component.left c.args.left.now (omega (arith, c.loop-component-test.false)) c.loop-component.invariant.0

pub alternatives_of-returns-clause-taken : goal.alternatives_of-returns-clause-taken
alternatives_of-returns-clause-taken t c = c.loop-component.invariant.0.nodes

pub alternatives_of-returns-clause-tags : goal.alternatives_of-returns-clause-tags
alternatives_of-returns-clause-tags t c = omega (arith, c.loop-component.invariant.0.tags, c.loop-component.invariant.0.bound, c.loop-component-test.false)

pub added_fields_of-returns-in_err-made-in-Some-clause-large : goal.added_fields_of-returns-in_err-made-in-Some-clause-large
added_fields_of-returns-in_err-made-in-Some-clause-large t c = λ e.
    subst (λ a. HasMore added_field_nodes c.args.left.now (added_fields (resolve c.args.names.now c.args.more c.args.opened.now) c.args.tag (elements_of (marked component_view marker a)))) (sym c.in-Some.is)
    (subst (λ xs. HasMore added_field_nodes c.args.left.now (option_map (λ gs. FieldAdditions.extended_fields gs) (root_fields (resolve c.args.names.now c.args.more c.args.opened.now) c.args.tag (elements_seen xs)))) c.deref.ensures.value
    (added_large-fields c.args.left.now _ (c.fields_of.ensures.large (grind (arith, common_steps)))))

pub added_fields_of-returns-in_ok-made-in-Some-clause-ok : goal.added_fields_of-returns-in_ok-made-in-Some-clause-ok
added_fields_of-returns-in_ok-made-in-Some-clause-ok t c =
    ap (λ a. added_fields (resolve c.args.names.now c.args.more c.args.opened.now) c.args.tag (elements_of (marked component_view marker a))) c.in-Some.is
    ∙ ap (λ xs. option_map (λ gs. FieldAdditions.extended_fields gs) (root_fields (resolve c.args.names.now c.args.more c.args.opened.now) c.args.tag (elements_seen xs))) (sym c.deref.ensures.value)
    ∙ ap (λ o. option_map (λ gs. FieldAdditions.extended_fields gs) o) c.in_ok-made-in-Some.ensures.ok

pub added_alternatives_of-returns-in_err-made-in-Some-clause-large : goal.added_alternatives_of-returns-in_err-made-in-Some-clause-large
added_alternatives_of-returns-in_err-made-in-Some-clause-large t c = λ e.
    subst (λ a. HasMore added_alternative_nodes c.args.left.now (added_alternatives (resolve c.args.names.now c.args.more c.args.opened.now) c.args.tag (elements_of (marked component_view marker a)))) (sym c.in-Some.is)
    (subst (λ xs. HasMore added_alternative_nodes c.args.left.now (option_map (λ gs. AlternativeAdditions.extended_alternatives gs) (root_alternatives (resolve c.args.names.now c.args.more c.args.opened.now) c.args.tag (elements_seen xs)))) c.deref.ensures.value
    (added_large-alternatives c.args.left.now _ (c.alternatives_of.ensures.large (grind (arith, common_steps)))))

pub added_alternatives_of-returns-in_ok-made-in-Some-clause-ok : goal.added_alternatives_of-returns-in_ok-made-in-Some-clause-ok
added_alternatives_of-returns-in_ok-made-in-Some-clause-ok t c =
    ap (λ a. added_alternatives (resolve c.args.names.now c.args.more c.args.opened.now) c.args.tag (elements_of (marked component_view marker a))) c.in-Some.is
    ∙ ap (λ xs. option_map (λ gs. AlternativeAdditions.extended_alternatives gs) (root_alternatives (resolve c.args.names.now c.args.more c.args.opened.now) c.args.tag (elements_seen xs))) (sym c.deref.ensures.value)
    ∙ ap (λ o. option_map (λ gs. AlternativeAdditions.extended_alternatives gs) o) c.in_ok-made-in-Some.ensures.ok

pub shape_of_members-returns-in_err-fields-clause-large : goal.shape_of_members-returns-in_err-fields-clause-large
shape_of_members-returns-in_err-fields-clause-large t c = λ e.
    let large = c.fields_of.ensures.large (grind (arith, common_steps)) in
    let comps = c.args.components.now in
    let root = (out-Components comps).root.items in
    subst (HasMore node_count (c.args.left.now + 1)) (sym (members_parts (resolve c.args.names.now c.args.more c.args.opened.now) (kind_view c.args.kind) comps (length root) refl))
    (members_large_root (kind_view c.args.kind) c.args.left.now _ _ (subst (λ xs. HasMore field_nodes c.args.left.now (root_fields (resolve c.args.names.now c.args.more c.args.opened.now) 0 (elements_seen xs))) c.deref.ensures.value large))

pub shape_of_members-returns-in_err-added-clause-large : goal.shape_of_members-returns-in_err-added-clause-large
shape_of_members-returns-in_err-added-clause-large t c = λ e.
    let large = c.added_fields_of.ensures.large (grind (arith, common_steps)) in
    let comps = c.args.components.now in
    let ok = ap (λ xs. root_fields (resolve c.args.names.now c.args.more c.args.opened.now) 0 (elements_seen xs)) (sym c.deref.ensures.value) ∙ c.in_ok-fields.ensures.ok in
    subst (HasMore node_count (c.args.left.now + 1)) (sym (members_parts (resolve c.args.names.now c.args.more c.args.opened.now) (kind_view c.args.kind) comps c.fields_of.new.tag (omega (arith, c.in_ok-fields.ensures.tags, ap (λ xs. length xs) c.deref.ensures.value))
    ∙ ap (λ o. of_both (λ x ad. Shape.seq (kind_view c.args.kind) x ad) o (added_fields (resolve c.args.names.now c.args.more c.args.opened.now) c.fields_of.new.tag (elements_of (marked component_view marker (out-Components c.args.components.now).added)))) ok))
    (members_large_added (kind_view c.args.kind) c.args.left.now c.fields_of.new.left (field_views c.in_ok-fields.fields.items) _ c.in_ok-fields.ensures.taken large)

pub shape_of_members-returns-clause-ok : goal.shape_of_members-returns-clause-ok
shape_of_members-returns-clause-ok t c =
    let comps = c.args.components.now in
    let ok = ap (λ xs. root_fields (resolve c.args.names.now c.args.more c.args.opened.now) 0 (elements_seen xs)) (sym c.deref.ensures.value) ∙ c.in_ok-fields.ensures.ok in
    members_parts (resolve c.args.names.now c.args.more c.args.opened.now) (kind_view c.args.kind) comps c.fields_of.new.tag (omega (arith, c.in_ok-fields.ensures.tags, ap (λ xs. length xs) c.deref.ensures.value))
    ∙ ap (λ o. of_both (λ x ad. Shape.seq (kind_view c.args.kind) x ad) o (added_fields (resolve c.args.names.now c.args.more c.args.opened.now) c.fields_of.new.tag (elements_of (marked component_view marker (out-Components c.args.components.now).added)))) ok
    ∙ ap (λ o. option_map (λ ad. Shape.seq (kind_view c.args.kind) (field_views c.in_ok-fields.fields.items) ad) o) c.in_ok-added.ensures.ok
    ∙ ap (λ x. Some x) (sym (sequence_viewed c.args.kind c.in_ok-fields.fields c.in_ok-added.added))

pub shape_of_members-returns-clause-taken : goal.shape_of_members-returns-clause-taken
shape_of_members-returns-clause-taken t c =
    omega (arith, ap node_count (sequence_viewed c.args.kind c.in_ok-fields.fields c.in_ok-added.added), c.in_ok-fields.ensures.taken, c.in_ok-added.ensures.taken)

pub shape_of_choice-returns-in_err-alternatives-clause-large : goal.shape_of_choice-returns-in_err-alternatives-clause-large
shape_of_choice-returns-in_err-alternatives-clause-large t c = λ e.
    let large = c.alternatives_of.ensures.large (grind (arith, common_steps)) in
    let comps = c.args.components.now in
    let root = (out-Components comps).root.items in
    subst (HasMore node_count (c.args.left.now + 1)) (sym (choice_parts (resolve c.args.names.now c.args.more c.args.opened.now) comps (length root) refl))
    (choice_large_root c.args.left.now _ _ (subst (λ xs. HasMore alternative_nodes c.args.left.now (root_alternatives (resolve c.args.names.now c.args.more c.args.opened.now) 0 (elements_seen xs))) c.deref.ensures.value large))

pub shape_of_choice-returns-in_err-added-clause-large : goal.shape_of_choice-returns-in_err-added-clause-large
shape_of_choice-returns-in_err-added-clause-large t c = λ e.
    let large = c.added_alternatives_of.ensures.large (grind (arith, common_steps)) in
    let comps = c.args.components.now in
    let ok = ap (λ xs. root_alternatives (resolve c.args.names.now c.args.more c.args.opened.now) 0 (elements_seen xs)) (sym c.deref.ensures.value) ∙ c.in_ok-alternatives.ensures.ok in
    subst (HasMore node_count (c.args.left.now + 1)) (sym (choice_parts (resolve c.args.names.now c.args.more c.args.opened.now) comps c.alternatives_of.new.tag (omega (arith, c.in_ok-alternatives.ensures.tags, ap (λ xs. length xs) c.deref.ensures.value))
    ∙ ap (λ o. of_both (λ x ad. Shape.choice x ad) o (added_alternatives (resolve c.args.names.now c.args.more c.args.opened.now) c.alternatives_of.new.tag (elements_of (marked component_view marker (out-Components c.args.components.now).added)))) ok))
    (choice_large_added c.args.left.now c.alternatives_of.new.left (alternative_views c.in_ok-alternatives.alternatives.items) _ c.in_ok-alternatives.ensures.taken large)

pub shape_of_choice-returns-clause-ok : goal.shape_of_choice-returns-clause-ok
shape_of_choice-returns-clause-ok t c =
    let comps = c.args.components.now in
    let ok = ap (λ xs. root_alternatives (resolve c.args.names.now c.args.more c.args.opened.now) 0 (elements_seen xs)) (sym c.deref.ensures.value) ∙ c.in_ok-alternatives.ensures.ok in
    choice_parts (resolve c.args.names.now c.args.more c.args.opened.now) comps c.alternatives_of.new.tag (omega (arith, c.in_ok-alternatives.ensures.tags, ap (λ xs. length xs) c.deref.ensures.value))
    ∙ ap (λ o. of_both (λ x ad. Shape.choice x ad) o (added_alternatives (resolve c.args.names.now c.args.more c.args.opened.now) c.alternatives_of.new.tag (elements_of (marked component_view marker (out-Components c.args.components.now).added)))) ok
    ∙ ap (λ o. option_map (λ ad. Shape.choice (alternative_views c.in_ok-alternatives.alternatives.items) ad) o) c.in_ok-added.ensures.ok
    ∙ ap (λ x. Some x) (sym (choice_made c.in_ok-alternatives.alternatives c.in_ok-added.added))

pub shape_of_choice-returns-clause-taken : goal.shape_of_choice-returns-clause-taken
shape_of_choice-returns-clause-taken t c =
    omega (arith, ap node_count (choice_made c.in_ok-alternatives.alternatives c.in_ok-added.added), c.in_ok-alternatives.ensures.taken, c.in_ok-added.ensures.taken)

pub shape_of-returns-in_err-take_node-clause-large : goal.shape_of-returns-in_err-take_node-clause-large
shape_of-returns-in_err-take_node-clause-large t c = λ e. more_none c.args.left.now _ c.in_err-take_node.ensures.large.1

pub shape_of-returns-in-Sequence-clause-large : goal.shape_of-returns-in-Sequence-clause-large
shape_of-returns-in-Sequence-clause-large t c = λ e.
    large_as (resolve c.args.names.now c.args.more c.args.opened.now) c.args.left.now c.take_node.new.left (notation_view c.args.notation.now) _ c.in_ok-take_node.ensures.ok (ap notation_view c.in-Sequence.is ∙ seen.sequence_viewed c.in-Sequence.components) (c.shape_of_members.ensures.large e)

pub shape_of-returns-in-Set-clause-large : goal.shape_of-returns-in-Set-clause-large
shape_of-returns-in-Set-clause-large t c = λ e.
    large_as (resolve c.args.names.now c.args.more c.args.opened.now) c.args.left.now c.take_node.new.left (notation_view c.args.notation.now) _ c.in_ok-take_node.ensures.ok (ap notation_view c.in-Set.is ∙ seen.set_viewed c.in-Set.components) (c.shape_of_members-in-Set.ensures.large e)

pub shape_of-returns-in-Choice-clause-large : goal.shape_of-returns-in-Choice-clause-large
shape_of-returns-in-Choice-clause-large t c = λ e.
    large_as (resolve c.args.names.now c.args.more c.args.opened.now) c.args.left.now c.take_node.new.left (notation_view c.args.notation.now) _ c.in_ok-take_node.ensures.ok (ap notation_view c.in-Choice.is ∙ seen.choice_viewed c.in-Choice.alternatives) (c.shape_of_choice.ensures.large e)

pub shape_of-returns-in-Reference-clause-large : goal.shape_of-returns-in-Reference-clause-large
shape_of-returns-in-Reference-clause-large t c = λ e.
    large_as (resolve c.args.names.now c.args.more c.args.opened.now) c.args.left.now c.take_node.new.left (notation_view c.args.notation.now) _ c.in_ok-take_node.ensures.ok (ap notation_view c.in-Reference.is ∙ reference_viewed c.in-Reference.name ∙ ap reference (sym c.as_str.ensures.value)) (c.shape_of_name.ensures.large e)

pub shape_of-returns-in_err-element-in-SequenceOf-clause-large : goal.shape_of-returns-in_err-element-in-SequenceOf-clause-large
shape_of-returns-in_err-element-in-SequenceOf-clause-large t c = λ e.
    list_large (resolve c.args.names.now c.args.more c.args.opened.now) c.args.left.now c.take_node.new.left SeqKind.sequence (notation_view c.args.notation.now) (notation_view c.deref.result.now) c.in_ok-take_node.ensures.ok (ap notation_view c.in-SequenceOf.is ∙ seen.sequence_of_viewed c.in-SequenceOf.element ∙ ap (λ x. list_of SeqKind.sequence (notation_view x)) (sym c.deref.ensures)) (c.shape_of.ensures.large (grind (arith, common_steps)))

pub shape_of-returns-in_err-element-in-SetOf-clause-large : goal.shape_of-returns-in_err-element-in-SetOf-clause-large
shape_of-returns-in_err-element-in-SetOf-clause-large t c = λ e.
    list_large (resolve c.args.names.now c.args.more c.args.opened.now) c.args.left.now c.take_node.new.left SeqKind.set (notation_view c.args.notation.now) (notation_view c.deref-in-SetOf.result.now) c.in_ok-take_node.ensures.ok (ap notation_view c.in-SetOf.is ∙ seen.set_of_viewed c.in-SetOf.element ∙ ap (λ x. list_of SeqKind.set (notation_view x)) (sym c.deref-in-SetOf.ensures)) (c.shape_of-in-SetOf.ensures.large (grind (arith, common_steps)))

pub shape_of-returns-in_ok-new-in-SequenceOf-clause-ok : goal.shape_of-returns-in_ok-new-in-SequenceOf-clause-ok
shape_of-returns-in_ok-new-in-SequenceOf-clause-ok t c =
    list_made (resolve c.args.names.now c.args.more c.args.opened.now) SeqKind.sequence (notation_view c.args.notation.now) (notation_view c.deref.result.now) _ (ap notation_view c.in-SequenceOf.is ∙ seen.sequence_of_viewed c.in-SequenceOf.element ∙ ap (λ x. list_of SeqKind.sequence (notation_view x)) (sym c.deref.ensures)) c.in_ok-element-in-SequenceOf.ensures.ok
    ∙ ap (λ x. Some x) (sym (list_viewed c.in_ok-new-in-SequenceOf.field-0 ∙ ap (λ s. Shape.list_of (shape_view s)) c.in_ok-new-in-SequenceOf.ensures.ok))

pub shape_of-returns-in_ok-new-in-SetOf-clause-ok : goal.shape_of-returns-in_ok-new-in-SetOf-clause-ok
shape_of-returns-in_ok-new-in-SetOf-clause-ok t c =
    list_made (resolve c.args.names.now c.args.more c.args.opened.now) SeqKind.set (notation_view c.args.notation.now) (notation_view c.deref-in-SetOf.result.now) _ (ap notation_view c.in-SetOf.is ∙ seen.set_of_viewed c.in-SetOf.element ∙ ap (λ x. list_of SeqKind.set (notation_view x)) (sym c.deref-in-SetOf.ensures)) c.in_ok-element-in-SetOf.ensures.ok
    ∙ ap (λ x. Some x) (sym (set_viewed c.in_ok-new-in-SetOf.field-0 ∙ ap (λ s. Shape.set_of (shape_view s)) c.in_ok-new-in-SetOf.ensures.ok))

pub shape_of_name-returns-in-Some-clause-ok : goal.shape_of_name-returns-in-Some-clause-ok
shape_of_name-returns-in-Some-clause-ok t c =
    back_made (map assignment_view c.args.names.now.assignments.now) c.args.more (open_names c.args.opened.now) c.args.name.now c.in-Some.place c.in-Some.ensures.found

pub shape_of_name-returns-then-more-eq0-clause-large : goal.shape_of_name-returns-then-more-eq0-clause-large
shape_of_name-returns-then-more-eq0-clause-large t c = λ e.
    subst (HasMore node_count (c.args.left.now + 1)) (sym (expands_not (map assignment_view c.args.names.now.assignments.now) c.args.more (open_names c.args.opened.now) c.args.name.now (sym c.in_default.ensures.found) c.if-more-eq0.true)) tt

pub shape_of_name-returns-in-None-clause-large : goal.shape_of_name-returns-in-None-clause-large
shape_of_name-returns-in-None-clause-large t c = λ e.
    subst (HasMore node_count (c.args.left.now + 1)) (sym (expands_nothing (map assignment_view c.args.names.now.assignments.now) c.args.more (open_names c.args.opened.now) c.args.name.now (sym c.in_default.ensures.found) (sym c.in-None.ensures))) tt

pub shape_of_name-returns-in_err-body-in-Some-notation_named-clause-large : goal.shape_of_name-returns-in_err-body-in-Some-notation_named-clause-large
shape_of_name-returns-in_err-body-in-Some-notation_named-clause-large t c = λ e.
    loop_large (map assignment_view c.args.names.now.assignments.now) c.args.more (c.args.more - 1) c.args.left.now c.args.opened c.args.name (notation_view c.in-Some-notation_named.notation.now) (sym c.in_default.ensures.found) (sym c.in-Some-notation_named.ensures) (omega (arith, c.if-more-eq0.false)) (c.shape_of.ensures.large (grind (arith, common_steps)))

pub shape_of_name-returns-in_ok-new-in-Some-notation_named-clause-ok : goal.shape_of_name-returns-in_ok-new-in-Some-notation_named-clause-ok
shape_of_name-returns-in_ok-new-in-Some-notation_named-clause-ok t c =
    loop_made (map assignment_view c.args.names.now.assignments.now) c.args.more (c.args.more - 1) c.args.opened c.args.name (notation_view c.in-Some-notation_named.notation.now) c.in_ok-new-in-Some-notation_named.field-0 (sym c.in_default.ensures.found) (sym c.in-Some-notation_named.ensures) (omega (arith, c.if-more-eq0.false))
    (c.in_ok-body-in-Some-notation_named.ensures.ok ∙ ap (λ s. Some (shape_view s)) (sym c.in_ok-new-in-Some-notation_named.ensures.ok))
