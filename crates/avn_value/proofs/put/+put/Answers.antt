use Rattle.std.proofs.Common.{◌≡◌, ◌∙◌, ap, sym}
use Rattle.avn_grammar.specs.Tree.{integer, real, enumerated, char_string, octet_string, bit_string, oid, sequence, sequence_of, choice}
use Rattle.avn_value.specs.View.{tree_of, list_trees, fields_trees}
use Rattle.avn_value.proofs.Views.{view-Boolean, view-Null, view-Real, view-Oid, view-Integer, view-Enumerated, view-CharString, view-OctetString, view-BitString, view-Sequence, view-SequenceOf, view-Choice}
use Rattle.avn_nodes.proofs.Extending.{extended-integer, extended-real, extended-enumerated, extended-text, extended-boolean, extended-null, extended-octets, extended-bits, extended-arcs}
use Rattle.avn_nodes.proofs.Putting.{plain_put, text_put, extended-none, items_put, fields_put, over-sequence, over-sequence_of, choice_put, list_put, here, here_some, here_none}
use Rattle.avn_nodes.specs.Preorder.{list_preorder, fields_preorder, preorder}
use Rattle.avn_nodes.specs.NodeLists.{extended}
use Rattle.avn_nodes.specs.declared.node_kind.NodeKind.TheVariants as kind
use Rattle.avn_value.proofs.put.+put.Goals.{put_fields-in-Some+in_ok-put_value-in-Some, put_fields-in-None+in_ok-leaf-in-None}
use Rattle.avn_value.proofs.put.+put.Goals as goal

pub put_list-loop-item-init : goal.put_list-loop-item-init
unfolding list_preorder
put_list-loop-item-init t c = extended-none c.args.nodes.now c.requires.nameless c.requires.clear

pub put_list-loop-item-preserved : goal.put_list-loop-item-preserved
put_list-loop-item-preserved t c = items_put tree_of c.deref-item-items.result.now c.loop-item.item-index c.item-item.result c.args.nodes.now c.loop-item.nodes c.put_value.new.nodes c.loop-item-test.true c.item-item.is c.loop-item.invariant c.in_ok-put_value.ensures

pub put_fields-loop-name-init : goal.put_fields-loop-name-init
unfolding fields_preorder
put_fields-loop-name-init t c = extended-none c.args.nodes.now c.requires.nameless c.requires.clear

pub put_fields-loop-name-preserved : goal.put_fields-loop-name-preserved
put_fields-loop-name-preserved t c =
    let x = c.loop-name-item.result in
    let put : c.match-slot.nodes ≡ extended c.name_next.new.self (here tree_of c.name_next.new.self.name x.1) = elim c.match-slot.branch [
      | put_fields-in-Some+in_ok-put_value-in-Some w ↦ here_some tree_of x.1 w.in-Some.value c.name_next.new.self c.match-slot.nodes w.in-Some.is (w.nodes-is ∙ w.in_ok-put_value-in-Some.ensures)
      | put_fields-in-None+in_ok-leaf-in-None w ↦ here_none tree_of x.1 c.name_next.new.self c.match-slot.nodes w.in-None.is (w.nodes-is ∙ w.in_ok-leaf-in-None.ensures)
    ] in
    fields_put tree_of c.deref-name-items.result.now c.loop-name.name-index x c.args.nodes.now c.loop-name.nodes c.push_text.new.self c.name_next.new.self c.match-slot.nodes c.as_str.result.now c.loop-name-test.true c.loop-name-item.is
    c.loop-name.invariant c.in_ok-push_text.ensures c.as_str.ensures.value c.name_next.ensures put

pub put_value-returns-in-Boolean : goal.put_value-returns-in-Boolean
put_value-returns-in-Boolean t c = plain_put c.leaf.result c.args.nodes.now _ _ _ _ c.leaf.ensures (extended-boolean c.args.nodes.now _) (ap tree_of c.in-Boolean.is ∙ view-Boolean _)

pub put_value-returns-in-Null : goal.put_value-returns-in-Null
put_value-returns-in-Null t c = plain_put c.leaf-in-Null.result c.args.nodes.now _ _ _ _ c.leaf-in-Null.ensures (extended-null c.args.nodes.now) (ap tree_of c.in-Null.is ∙ view-Null)

pub put_value-returns-in_ok-push_text-in-Integer : goal.put_value-returns-in_ok-push_text-in-Integer
put_value-returns-in_ok-push_text-in-Integer t c =
    text_put c.leaf-in-Integer.result c.args.nodes.now c.push_text.new.self c.leaf-in-Integer.new.self integer kind.Integer c.as_str.result.now _ c.leaf-in-Integer.ensures c.in_ok-push_text-in-Integer.ensures c.requires extended-integer
    (ap tree_of c.in-Integer.is ∙ view-Integer _ ∙ ap integer (sym c.as_str.ensures.value))

pub put_value-returns-in_ok-push_text-in-Real : goal.put_value-returns-in_ok-push_text-in-Real
put_value-returns-in_ok-push_text-in-Real t c =
    text_put c.leaf-in-Real.result c.args.nodes.now c.push_text-in-Real.new.self c.leaf-in-Real.new.self real kind.Real c.as_str-in-Real.result.now _ c.leaf-in-Real.ensures c.in_ok-push_text-in-Real.ensures c.requires extended-real
    (ap tree_of c.in-Real.is ∙ view-Real _ ∙ ap real (sym c.as_str-in-Real.ensures.value))

pub put_value-returns-in_ok-push_text-in-Enumerated : goal.put_value-returns-in_ok-push_text-in-Enumerated
put_value-returns-in_ok-push_text-in-Enumerated t c =
    text_put c.leaf-in-Enumerated.result c.args.nodes.now c.push_text-in-Enumerated.new.self c.leaf-in-Enumerated.new.self enumerated kind.Enumerated c.as_str-in-Enumerated.result.now _ c.leaf-in-Enumerated.ensures c.in_ok-push_text-in-Enumerated.ensures c.requires extended-enumerated
    (ap tree_of c.in-Enumerated.is ∙ view-Enumerated _ ∙ ap enumerated (sym c.as_str-in-Enumerated.ensures.value))

pub put_value-returns-in_ok-push_text-in-CharString : goal.put_value-returns-in_ok-push_text-in-CharString
put_value-returns-in_ok-push_text-in-CharString t c =
    text_put c.leaf-in-CharString.result c.args.nodes.now c.push_text-in-CharString.new.self c.leaf-in-CharString.new.self char_string kind.CharString c.as_str-in-CharString.result.now _ c.leaf-in-CharString.ensures c.in_ok-push_text-in-CharString.ensures c.requires extended-text
    (ap tree_of c.in-CharString.is ∙ view-CharString _ ∙ ap char_string (sym c.as_str-in-CharString.ensures.value))

pub put_value-returns-in-OctetString : goal.put_value-returns-in-OctetString
put_value-returns-in-OctetString t c =
    plain_put c.octets_leaf.result c.args.nodes.now _ _ _ _ c.octets_leaf.ensures (extended-octets c.args.nodes.now c.deref.result.now) (ap tree_of c.in-OctetString.is ∙ view-OctetString _ ∙ ap octet_string (sym c.deref.ensures.value))

pub put_value-returns-in-BitString : goal.put_value-returns-in-BitString
put_value-returns-in-BitString t c =
    plain_put c.octets_leaf-in-BitString.result c.args.nodes.now _ _ _ _ c.octets_leaf-in-BitString.ensures (extended-bits c.args.nodes.now c.deref-in-BitString.result.now c.in-BitString.bit_length)
    (ap tree_of c.in-BitString.is ∙ view-BitString _ _ ∙ ap (λ x. bit_string x c.in-BitString.bit_length) (sym c.deref-in-BitString.ensures.value))

pub put_value-returns-in-Oid : goal.put_value-returns-in-Oid
put_value-returns-in-Oid t c =
    plain_put c.arcs_leaf.result c.args.nodes.now _ _ _ _ c.arcs_leaf.ensures (extended-arcs c.args.nodes.now c.deref-in-Oid.result.now) (ap tree_of c.in-Oid.is ∙ view-Oid _ ∙ ap oid (sym c.deref-in-Oid.ensures.value))

pub put_value-returns-in_ok-put_fields-in-Sequence : goal.put_value-returns-in_ok-put_fields-in-Sequence
put_value-returns-in_ok-put_fields-in-Sequence t c =
    let fs = fields_trees c.in-Sequence.fields.items in
    list_put c.args.nodes.now c.open.new.self c.put_fields.new.nodes c.close.new.self kind.Sequence (sequence fs) _ (fields_preorder fs) _ c.len-place.ensures c.in_ok-open-in-Sequence.ensures c.in_ok-put_fields-in-Sequence.ensures (over-sequence fs) c.close.ensures
    (ap tree_of c.in-Sequence.is ∙ view-Sequence _)

pub put_value-returns-in_ok-put_list-in-SequenceOf : goal.put_value-returns-in_ok-put_list-in-SequenceOf
put_value-returns-in_ok-put_list-in-SequenceOf t c =
    let ts = list_trees c.in-SequenceOf.list.items in
    list_put c.args.nodes.now c.open-in-SequenceOf.new.self c.put_list.new.nodes c.close-in-SequenceOf.new.self kind.SequenceOf (sequence_of ts) _ (list_preorder ts) _ c.len-place-in-SequenceOf.ensures c.in_ok-open-in-SequenceOf.ensures c.in_ok-put_list-in-SequenceOf.ensures (over-sequence_of ts) c.close-in-SequenceOf.ensures
    (ap tree_of c.in-SequenceOf.is ∙ view-SequenceOf _)

pub put_value-returns-in_ok-put_value-in-Choice : goal.put_value-returns-in_ok-put_value-in-Choice
put_value-returns-in_ok-put_value-in-Choice t c =
    choice_put c.args.nodes.now c.push_text-in-Choice.new.self c.open-in-Choice.new.self c.put_value.new.nodes c.close-in-Choice.new.self c.as_str-in-Choice.result.now (tree_of c.in-Choice.value.value) _ _ c.requires c.in_ok-push_text-in-Choice.ensures c.len-place-in-Choice.ensures
    c.in_ok-open-in-Choice.ensures (c.in_ok-put_value-in-Choice.ensures ∙ ap (λ x. extended c.open-in-Choice.new.self (preorder c.open-in-Choice.new.self.name (tree_of x))) c.deref-in-Choice.ensures) c.close-in-Choice.ensures (ap tree_of c.in-Choice.is ∙ view-Choice _ _ ∙ ap (λ x. choice x (tree_of c.in-Choice.value.value)) (sym c.as_str-in-Choice.ensures.value))
