use Rattle.std.proofs.Common.{◌≡◌, ◌<◌, ◌+◌, ◌-◌, refl, sym, ap, ◌∙◌, length, map, arith}
use Rattle.std.proofs.lemmas.Grind.{common_steps}
use Rattle.asn_expansion.proofs.Alternatives.{choice_made}
use Rattle.asn_growth.specs.Parts.{node_count}
use Rattle.asn_linked_types.specs.expander.OpenTypes.{open_numbers}
use Rattle.asn_linked_types.specs.expander.Resolving.{resolve}
use Rattle.asn_linked_types.specs.declared.expander.limits.TheConstants.{OPEN_LIMIT}
use Rattle.asn_linked_types.proofs.expander.Alternatives.{alternatives-beyond, alternatives-end, alternatives-next}
use Rattle.asn_linked_types.proofs.expander.Fields.{fields-beyond, fields-end, fields-next}
use Rattle.asn_linked_types.proofs.expander.Opening.{body-beyond, opens, opens-beyond, type-past}
use Rattle.asn_linked_types.proofs.expander.Shapes.{back-seen, choice-large-added, choice-large-root, choice-made, loop-seen, seq-large-added, seq-large-root, seq-made}
use Rattle.asn_linked_types.proofs.Expanding.{expands-back, expands-full, expands-none}
use Rattle.asn_model.specs.Shape.{Shape}
use Rattle.asn_model.specs.ShapeView.{alternative_views, field_views, shape_view}
use Rattle.asn_model.proofs.Viewing.{sequence_viewed}
use Rattle.asn_linked_types.proofs.expander.types.+expand.Goals as goal

pub fields_of-returns-in_err-shape-clause-large : goal.fields_of-returns-in_err-shape-clause-large
fields_of-returns-in_err-shape-clause-large t c = λ e.
    fields-beyond (resolve c.args.types.now c.args.opened.now) c.args.fields.now c.loop-field.field-index c.loop-field.made.items c.loop-field.left c.args.left.now (OPEN_LIMIT - c.args.depth) c.field-item.result c.loop-field-test.true c.field-item.is c.loop-field.invariant
    (c.shape_of.ensures.large (grind (arith, common_steps)))

pub fields_of-loop-field-preserved : goal.fields_of-loop-field-preserved
fields_of-loop-field-preserved t c =
    fields-next (resolve c.args.types.now c.args.opened.now) c.args.fields.now c.loop-field.field-index c.loop-field.made.items _ c.loop-field.left c.shape_of.new.left c.args.left.now c.field-item.result _ c.loop-field-test.true c.field-item.is c.loop-field.invariant
    c.in_ok-clone.ensures.cases refl c.in_ok-copy_of_presence.ensures c.in_ok-shape.ensures.ok c.in_ok-shape.ensures.taken c.in_ok-push.ensures.items

pub fields_of-returns-clause-ok : goal.fields_of-returns-clause-ok
fields_of-returns-clause-ok t c =
    fields-end (resolve c.args.types.now c.args.opened.now) c.args.fields.now c.loop-field.field-index c.loop-field.made.items c.loop-field.left c.args.left.now (omega (arith, c.loop-field-test.false)) c.loop-field.invariant

pub alternatives_of-returns-in_err-shape-clause-large : goal.alternatives_of-returns-in_err-shape-clause-large
alternatives_of-returns-in_err-shape-clause-large t c = λ e.
    alternatives-beyond (resolve c.args.types.now c.args.opened.now) c.args.alternatives.now c.loop-alternative.alternative-index c.loop-alternative.made.items c.loop-alternative.left c.args.left.now (OPEN_LIMIT - c.args.depth) c.alternative-item.result
    c.loop-alternative-test.true c.alternative-item.is c.loop-alternative.invariant (c.shape_of.ensures.large (grind (arith, common_steps)))

pub alternatives_of-loop-alternative-preserved : goal.alternatives_of-loop-alternative-preserved
alternatives_of-loop-alternative-preserved t c =
    alternatives-next (resolve c.args.types.now c.args.opened.now) c.args.alternatives.now c.loop-alternative.alternative-index c.loop-alternative.made.items _ c.loop-alternative.left c.shape_of.new.left c.args.left.now c.alternative-item.result _
    c.loop-alternative-test.true c.alternative-item.is c.loop-alternative.invariant c.in_ok-identifier.ensures.cases refl c.in_ok-shape.ensures.ok c.in_ok-shape.ensures.taken c.in_ok-push.ensures.items

pub alternatives_of-returns-clause-ok : goal.alternatives_of-returns-clause-ok
alternatives_of-returns-clause-ok t c =
    alternatives-end (resolve c.args.types.now c.args.opened.now) c.args.alternatives.now c.loop-alternative.alternative-index c.loop-alternative.made.items c.loop-alternative.left c.args.left.now (omega (arith, c.loop-alternative-test.false)) c.loop-alternative.invariant

pub shape_of-returns-in_err-fields-in-Seq-clause-large : goal.shape_of-returns-in_err-fields-in-Seq-clause-large
shape_of-returns-in_err-fields-in-Seq-clause-large t c = λ e.
    let seq = c.in-Seq in
    seq-large-root (resolve c.args.types.now c.args.opened.now) c.args.shape.now seq.kind seq.fields seq.added c.deref.result.now seq.is c.deref.ensures.value c.args.left.now c.take_node.new.left (OPEN_LIMIT - c.args.depth) c.in_ok-take_node.ensures.ok
    (c.fields_of.ensures.large (grind (arith, common_steps)))

pub shape_of-returns-in_err-added-in-Seq-clause-large : goal.shape_of-returns-in_err-added-in-Seq-clause-large
shape_of-returns-in_err-added-in-Seq-clause-large t c = λ e.
    let seq = c.in-Seq in
    seq-large-added (resolve c.args.types.now c.args.opened.now) c.args.shape.now seq.kind seq.fields seq.added c.deref.result.now seq.is c.deref.ensures.value (field_views c.in_ok-fields-in-Seq.fields.items) c.args.left.now c.take_node.new.left c.fields_of.new.left (OPEN_LIMIT - c.args.depth)
    c.in_ok-take_node.ensures.ok c.in_ok-fields-in-Seq.ensures.ok c.in_ok-fields-in-Seq.ensures.taken (c.added_fields_of.ensures.large (grind (arith, common_steps)))

pub shape_of-returns-in_ok-added-in-Seq-clause-ok : goal.shape_of-returns-in_ok-added-in-Seq-clause-ok
shape_of-returns-in_ok-added-in-Seq-clause-ok t c =
    let seq = c.in-Seq in
    seq-made (resolve c.args.types.now c.args.opened.now) c.args.shape.now seq.kind seq.fields seq.added c.deref.result.now seq.is c.deref.ensures.value c.in_ok-fields-in-Seq.fields c.in_ok-added-in-Seq.added c.in_ok-fields-in-Seq.ensures.ok c.in_ok-added-in-Seq.ensures.ok

pub shape_of-returns-in_ok-added-in-Seq-clause-taken : goal.shape_of-returns-in_ok-added-in-Seq-clause-taken
shape_of-returns-in_ok-added-in-Seq-clause-taken t c =
    omega (arith, ap node_count (sequence_viewed c.in-Seq.kind c.in_ok-fields-in-Seq.fields c.in_ok-added-in-Seq.added), c.in_ok-fields-in-Seq.ensures.taken, c.in_ok-added-in-Seq.ensures.taken, c.in_ok-take_node.ensures.ok)

pub shape_of-returns-in_err-alternatives-in-Choice-clause-large : goal.shape_of-returns-in_err-alternatives-in-Choice-clause-large
shape_of-returns-in_err-alternatives-in-Choice-clause-large t c = λ e.
    let choice = c.in-Choice in
    choice-large-root (resolve c.args.types.now c.args.opened.now) c.args.shape.now choice.alternatives choice.added c.deref-in-Choice.result.now choice.is c.deref-in-Choice.ensures.value c.args.left.now c.take_node.new.left (OPEN_LIMIT - c.args.depth) c.in_ok-take_node.ensures.ok
    (c.alternatives_of.ensures.large (grind (arith, common_steps)))

pub shape_of-returns-in_err-added-in-Choice-clause-large : goal.shape_of-returns-in_err-added-in-Choice-clause-large
shape_of-returns-in_err-added-in-Choice-clause-large t c = λ e.
    let choice = c.in-Choice in
    choice-large-added (resolve c.args.types.now c.args.opened.now) c.args.shape.now choice.alternatives choice.added c.deref-in-Choice.result.now choice.is c.deref-in-Choice.ensures.value (alternative_views c.in_ok-alternatives-in-Choice.alternatives.items) c.args.left.now c.take_node.new.left
    c.alternatives_of.new.left (OPEN_LIMIT - c.args.depth) c.in_ok-take_node.ensures.ok c.in_ok-alternatives-in-Choice.ensures.ok c.in_ok-alternatives-in-Choice.ensures.taken (c.added_alternatives_of.ensures.large (grind (arith, common_steps)))

pub shape_of-returns-in_ok-added-in-Choice-clause-ok : goal.shape_of-returns-in_ok-added-in-Choice-clause-ok
shape_of-returns-in_ok-added-in-Choice-clause-ok t c =
    let choice = c.in-Choice in
    choice-made (resolve c.args.types.now c.args.opened.now) c.args.shape.now choice.alternatives choice.added c.deref-in-Choice.result.now choice.is c.deref-in-Choice.ensures.value c.in_ok-alternatives-in-Choice.alternatives c.in_ok-added-in-Choice.added c.in_ok-alternatives-in-Choice.ensures.ok
    c.in_ok-added-in-Choice.ensures.ok

pub shape_of-returns-in_ok-added-in-Choice-clause-taken : goal.shape_of-returns-in_ok-added-in-Choice-clause-taken
shape_of-returns-in_ok-added-in-Choice-clause-taken t c =
    omega (arith, ap node_count (choice_made c.in_ok-alternatives-in-Choice.alternatives c.in_ok-added-in-Choice.added), c.in_ok-alternatives-in-Choice.ensures.taken, c.in_ok-added-in-Choice.ensures.taken, c.in_ok-take_node.ensures.ok)

pub shape_of_type-returns-in-Some-clause-ok : goal.shape_of_type-returns-in-Some-clause-ok
shape_of_type-returns-in-Some-clause-ok t c =
    let types = c.args.types.now.types.now in
    let opened = open_numbers c.args.opened.now in
    back-seen c.in-Some.place ∙ sym (expands-back (map shape_view types) (length types - length opened) opened c.args.number c.in-Some.place (sym c.in-Some.ensures.found))

pub shape_of_type-returns-then-depth-types-clause-ok : goal.shape_of_type-returns-then-depth-types-clause-ok
shape_of_type-returns-then-depth-types-clause-ok t c =
    let types = c.args.types.now.types.now in
    let opened = open_numbers c.args.opened.now in
    let full : length types - length opened ≡ 0 = omega (arith, c.requires.depth, c.if-depth-types.true) in
    c.no_values.ensures.is ∙ sym (expands-full (map shape_view types) (length types - length opened) opened c.args.number (sym c.in_default.ensures.found) full)

pub shape_of_type-returns-in-None-clause-ok : goal.shape_of_type-returns-in-None-clause-ok
shape_of_type-returns-in-None-clause-ok t c =
    let types = c.args.types.now.types.now in
    let opened = open_numbers c.args.opened.now in
    c.no_values-in-None.ensures.is ∙ sym (expands-none (map shape_view types) (length types - length opened) opened c.args.number (sym c.in_default.ensures.found) (type-past types c.args.number c.in-None.ensures.lookup.3))

pub shape_of_type-returns-then-depth-ge-OPEN_LIMIT-clause-large : goal.shape_of_type-returns-then-depth-ge-OPEN_LIMIT-clause-large
shape_of_type-returns-then-depth-ge-OPEN_LIMIT-clause-large t c = λ e.
    let types = c.args.types.now.types.now in
    let body = c.in-Some-get.body.now in
    let found = c.in-Some-get.ensures.lookup in
    let few : length (open_numbers c.args.opened.now) < length types = omega (arith, c.requires.depth, c.if-depth-types.false) in
    opens-beyond types c.args.number body c.args.opened (sym c.in_default.ensures.found) found.3.0 found.1 few _ (OPEN_LIMIT - c.args.depth) (omega (arith, c.if-depth-ge-OPEN_LIMIT.true))

pub shape_of_type-returns-in_err-body-in-Some-get-clause-large : goal.shape_of_type-returns-in_err-body-in-Some-get-clause-large
shape_of_type-returns-in_err-body-in-Some-get-clause-large t c = λ e.
    let types = c.args.types.now.types.now in
    let body = c.in-Some-get.body.now in
    let found = c.in-Some-get.ensures.lookup in
    let few : length (open_numbers c.args.opened.now) < length types = omega (arith, c.requires.depth, c.if-depth-types.false) in
    body-beyond types c.args.number body c.args.opened (sym c.in_default.ensures.found) found.3.0 found.1 few c.args.left.now (OPEN_LIMIT - c.args.depth) (OPEN_LIMIT - (c.args.depth + 1)) (omega (arith, c.if-depth-ge-OPEN_LIMIT.false))
    (c.boxed.ensures.large (grind (arith, common_steps)))

pub shape_of_type-returns-in_ok-body-in-Some-get-clause-ok : goal.shape_of_type-returns-in_ok-body-in-Some-get-clause-ok
shape_of_type-returns-in_ok-body-in-Some-get-clause-ok t c =
    let types = c.args.types.now.types.now in
    let body = c.in-Some-get.body.now in
    let found = c.in-Some-get.ensures.lookup in
    let few : length (open_numbers c.args.opened.now) < length types = omega (arith, c.requires.depth, c.if-depth-types.false) in
    loop-seen c.in_ok-body-in-Some-get.body ∙ ap Shape.loop c.in_ok-body-in-Some-get.ensures.ok ∙ sym (opens types c.args.number body c.args.opened (sym c.in_default.ensures.found) found.3.0 found.1 few)
