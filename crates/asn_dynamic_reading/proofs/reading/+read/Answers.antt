use Rattle.std.proofs.Common.{◌≡◌, ◌<◌, ◌≤◌, ◌*◌, ◌+◌, ◌∷◌, ◌∙◌, [], List, ap, arith, get_or, length, map, refl, string_bytes, subst, sym, Some, None, Ok, Err}
use Rattle.std.proofs.lemmas.List.{get_or_default}
use Rattle.asn_coding.proofs.Reading as list
use Rattle.asn_coding.proofs.Refusing.{out_of_memory}
use Rattle.asn_coding.specs.Answer.{AnswerBy, Refuses}
use Rattle.asn_coding.specs.Opening.{list_shape, list_value}
use Rattle.asn_dynamic_faults.specs.DynFailure.{dyn_failure}
use Rattle.asn_dynamic_reading.specs.Fields.{field_meant}
use Rattle.asn_dynamic_reading.proofs.ChoiceSteps as choice
use Rattle.asn_dynamic_reading.proofs.FieldSteps.{Member, absent-taken, value-refused, value-taken}
use Rattle.asn_dynamic_reading.proofs.Held.{absent-held, bag-held, held-more, kept-held, members-more, members-set, seen-held, table-held}
use Rattle.asn_dynamic_reading.proofs.Payloads.{memory-refused, payload-held, payload-said}
use Rattle.asn_dynamic_reading.proofs.Sequences as seq
use Rattle.asn_dynamic_reading.proofs.SetSteps as sets
use Rattle.asn_dynamic_reading.proofs.Steps.{element-meant, element-part, elements-read, entry-part, item-meant, leaf-meant, list-costs, same-refusal, table-costs, table-read, table-refused}
use Rattle.asn_dynamic_reading.proofs.Steps.{entry-meant}
use Rattle.asn_dynamic_reading.proofs.Telling.{told-refuses, within-told}
use Rattle.asn_dynamic_values.specs.DynView.{dyn_value, members_named, named_value}
use Rattle.asn_dynamic_values.specs.declared.value.DynValue.{DynValue}
use Rattle.asn_dynamic_values.proofs.Views.{view-Choice, view-List, view-Members}
use Rattle.asn_fault.specs.Failure.{failure_of}
use Rattle.asn_model.specs.DecodesTo.{DecodesTo}
use Rattle.asn_model.specs.FailsWith.{FailsWith}
use Rattle.asn_model.specs.Shape.{SeqKind, Shape}
use Rattle.asn_model.specs.ShapeView.{kind_view}
use Rattle.asn_model.specs.Tree.{head_nodes, head_slot}
use Rattle.asn_model.specs.Value.{Value, values}
use Rattle.asn_parts.specs.Chain.{bodies_of}
use Rattle.asn_parts.proofs.Chains.{bodies-outermost, bodies-within}
use Rattle.asn_parts.specs.Bodies.{IsReadablePart, loops_of, meant}
use Rattle.asn_parts.specs.Closed.{closed}
use Rattle.asn_parts.specs.Listed.{fields_in}
use Rattle.asn_parts.proofs.Costs.{cost, element-costs}
use Rattle.asn_parts.proofs.Opened.{back-answer, back-inside, back-less, back-part, within-answer, within-less, within-part}
use Rattle.asn_dynamic_reading.proofs.reading.+read.Goals as goal

pub read_value-returns-in-Ok-clause-answer : goal.read_value-returns-in-Ok-clause-answer
read_value-returns-in-Ok-clause-answer g t c =
    let h = c.in-Ok.ensures.answer in
    (h.0, h.1, subst (λ s. DecodesTo g.D.Decoder.notation s h.0 (dyn_value c.in-Ok.value)) (leaf-meant g.P.Part.shape (bodies_of c.args.loops.now) c.args.part c.in-Leaf.leaf c.in-Leaf.ensures) h.2)

pub read_value-returns-in-Err-clause-answer : goal.read_value-returns-in-Err-clause-answer
read_value-returns-in-Err-clause-answer g t c =
    let w = c.told.ensures in
    let n = g.D.Decoder.notation in
    let before = g.D.Decoder.pending c.args.decoder.now in
    told-refuses w.0 (failure_of c.in-Err.error) (dyn_failure c.told.result) w.1 w.2
    (same-refusal n before (failure_of c.in-Err.error) (leaf-meant g.P.Part.shape (bodies_of c.args.loops.now) c.args.part c.in-Leaf.leaf c.in-Leaf.ensures) c.in-Err.ensures.answer)

pub read_value-returns-in-Ok-read_item-clause-answer : goal.read_value-returns-in-Ok-read_item-clause-answer
read_value-returns-in-Ok-read_item-clause-answer g t c =
    let bodies = bodies_of c.args.loops.now in
    let q = c.in-Enumerated.ensures in
    let h = c.in-Ok-read_item.ensures.answer bodies q.0 q.1 q.2 in
    (h.0, h.1, subst (λ s. DecodesTo g.D.Decoder.notation s h.0 (dyn_value c.in-Ok-read_item.value)) (item-meant g.P.Part.shape bodies c.args.part q.0 q.1 q.2) h.2)

pub read_value-returns-in-Err-read_item-clause-answer : goal.read_value-returns-in-Err-read_item-clause-answer
read_value-returns-in-Err-read_item-clause-answer g t c =
    let w = c.told-in-Err-read_item.ensures in
    let n = g.D.Decoder.notation in
    let bodies = bodies_of c.args.loops.now in
    let before = g.D.Decoder.pending c.args.decoder.now in
    let q = c.in-Enumerated.ensures in
    rw c.of_kind.ensures (told-refuses w.0 (failure_of c.in-Err-read_item.error) (dyn_failure c.told-in-Err-read_item.result) w.1 w.2
    (same-refusal n before (failure_of c.in-Err-read_item.error) (item-meant g.P.Part.shape bodies c.args.part q.0 q.1 q.2) (c.in-Err-read_item.ensures.answer bodies q.0 q.1 q.2)))

pub read_value-read_sequence-requires : goal.read_value-read_sequence-requires
read_value-read_sequence-requires g t c κs within = (subst (λ m. 5 * cost (head_nodes (g.D.Decoder.pending c.args.decoder.now)) (meant g.P.Part.shape (bodies_of c.args.loops.now) c.args.part) + 2 < m) c.decreases (omega arith), (within.0, (within.1, (c.in-Sequence.ensures, c.requires))))

pub read_value-read_set-requires : goal.read_value-read_set-requires
read_value-read_set-requires g t c κs within = (subst (λ m. 5 * cost (head_nodes (g.D.Decoder.pending c.args.decoder.now)) (meant g.P.Part.shape (bodies_of c.args.loops.now) c.args.part) + 2 < m) c.decreases (omega arith), (within.0, (within.1, (c.in-Set.ensures, c.requires))))

pub read_value-read_choice-requires : goal.read_value-read_choice-requires
read_value-read_choice-requires g t c κs within = (subst (λ m. 5 * cost (head_nodes (g.D.Decoder.pending c.args.decoder.now)) (meant g.P.Part.shape (bodies_of c.args.loops.now) c.args.part) + 2 < m) c.decreases (omega arith), (within.0, (within.1, (c.in-Choice.ensures, c.requires))))

pub read_value-read_elements-requires : goal.read_value-read_elements-requires
read_value-read_elements-requires g t c κs within =
    let shape = g.P.Part.shape in
    let bodies = bodies_of c.args.loops.now in
    let now = g.D.Decoder.pending c.args.decoder.now in
    let element = c.in-ListOf.element in
    let same = ap (cost (head_nodes now)) (element-meant shape bodies c.args.part SeqKind.sequence element c.in-ListOf.ensures) in
    (subst (λ m. 5 * cost (head_nodes now) (list_shape SeqKind.sequence (meant shape bodies element)) + 2 < m) c.decreases (omega (arith, same)), (within.0, (within.1, element-part shape bodies c.args.part SeqKind.sequence element c.in-ListOf.ensures c.requires)))

pub read_value-read_elements-requires-in-SetOf : goal.read_value-read_elements-requires-in-SetOf
read_value-read_elements-requires-in-SetOf g t c κs within =
    let shape = g.P.Part.shape in
    let bodies = bodies_of c.args.loops.now in
    let now = g.D.Decoder.pending c.args.decoder.now in
    let element = c.in-SetOf.element in
    let same = ap (cost (head_nodes now)) (element-meant shape bodies c.args.part SeqKind.set element c.in-SetOf.ensures) in
    (subst (λ m. 5 * cost (head_nodes now) (list_shape SeqKind.set (meant shape bodies element)) + 2 < m) c.decreases (omega (arith, same)), (within.0, (within.1, element-part shape bodies c.args.part SeqKind.set element c.in-SetOf.ensures c.requires)))

pub read_value-read_value-requires : goal.read_value-read_value-requires
read_value-read_value-requires g t c κs within =
    let shape = g.P.Part.shape in
    let bodies = bodies_of c.args.loops.now in
    let now = g.D.Decoder.pending c.args.decoder.now in
    let body = c.in-Loop.body in
    let less = within-less shape bodies c.args.part c.requires body c.in-Loop.ensures (head_nodes now) in
    let more = within-part shape bodies c.args.part c.requires body c.in-Loop.ensures in
    rw (bodies-within _ body c.args.loops) (subst (λ m. 5 * cost (head_nodes now) (meant shape (body ∷ bodies) body) + 3 < m) c.decreases (omega (arith, less)), (within.0, (within.1, more)))

pub read_value-read_value-requires-in-Within : goal.read_value-read_value-requires-in-Within
read_value-read_value-requires-in-Within g t c κs within =
    let shape = g.P.Part.shape in
    let bodies = bodies_of c.args.loops.now in
    let now = g.D.Decoder.pending c.args.decoder.now in
    let w = c.in-Within in
    let from = sym (ap bodies_of w.is ∙ bodies-within _ w.body w.outer) ∙ c.from_loop-around.ensures in
    let less = back-less shape bodies c.args.part c.requires c.in-Back.number c.in-Back.ensures w.body (bodies_of w.outer.now) from (head_nodes now) in
    let more = back-part shape bodies c.args.part c.requires c.in-Back.number c.in-Back.ensures w.body (bodies_of w.outer.now) from in
    rw (w.is, bodies-within _ w.body w.outer) (subst (λ m. 5 * cost (head_nodes now) (meant shape (w.body ∷ bodies_of w.outer.now) w.body) + 3 < m) c.decreases (omega (arith, less)), (within.0, (within.1, more)))

pub read_value-returns-in-Loop-clause-answer : goal.read_value-returns-in-Loop-clause-answer
read_value-returns-in-Loop-clause-answer g t c =
    let shape = g.P.Part.shape in
    let bodies = bodies_of c.args.loops.now in
    let body = c.in-Loop.body in
    within-answer shape bodies c.args.part c.requires body c.in-Loop.ensures dyn_failure g.D.Decoder.notation dyn_value (g.D.Decoder.pending c.args.decoder.now) c.read_value.result (g.D.Decoder.pending c.read_value.new.decoder)
    (rw (bodies-within _ body c.args.loops) at c.read_value.ensures.answer)

pub read_value-returns-in-Within-clause-answer : goal.read_value-returns-in-Within-clause-answer
read_value-returns-in-Within-clause-answer g t c =
    let shape = g.P.Part.shape in
    let bodies = bodies_of c.args.loops.now in
    let w = c.in-Within in
    let from = sym (ap bodies_of w.is ∙ bodies-within _ w.body w.outer) ∙ c.from_loop-around.ensures in
    back-answer shape bodies c.args.part c.requires c.in-Back.number c.in-Back.ensures w.body (bodies_of w.outer.now) from dyn_failure g.D.Decoder.notation dyn_value (g.D.Decoder.pending c.args.decoder.now) c.read_value-in-Within.result (g.D.Decoder.pending c.read_value-in-Within.new.decoder)
    (rw (w.is, bodies-within _ w.body w.outer) at c.read_value-in-Within.ensures.answer)

pub read_value-unreachable-requires : goal.read_value-unreachable-requires
read_value-unreachable-requires g t c =
    back-inside g.P.Part.shape (bodies_of c.args.loops.now) c.args.part c.requires c.in-Back.number c.in-Back.ensures (sym (ap bodies_of c.in-Outermost.is ∙ bodies-outermost _) ∙ c.from_loop-around.ensures)

pub read_value-returns-in-Ok-read_elements-clause-answer : goal.read_value-returns-in-Ok-read_elements-clause-answer
read_value-returns-in-Ok-read_elements-clause-answer g t c =
    let shape = g.P.Part.shape in
    let bodies = bodies_of c.args.loops.now in
    let part = c.args.part in
    let n = g.D.Decoder.notation in
    let before = g.D.Decoder.pending c.args.decoder.now in
    let items = c.in-Ok-read_elements.items in
    elements-read shape bodies part SeqKind.sequence c.in-ListOf.element c.in-ListOf.ensures n before items _ _ (view-List items) c.in-Ok-read_elements.ensures.answer

pub read_value-returns-in-Ok-read_elements-clause-held : goal.read_value-returns-in-Ok-read_elements-clause-held
read_value-returns-in-Ok-read_elements-clause-held g t c =
    let items = c.in-Ok-read_elements.items in
    seen-held _ (Value.list (values dyn_value items.items)) (view-List items) c.in-Ok-read_elements.ensures.held

pub read_value-returns-in-Err-read_elements-clause-answer : goal.read_value-returns-in-Err-read_elements-clause-answer
read_value-returns-in-Err-read_elements-clause-answer g t c =
    let bodies = bodies_of c.args.loops.now in
    same-refusal g.D.Decoder.notation (g.D.Decoder.pending c.args.decoder.now) (dyn_failure c.in-Err-read_elements.error) (element-meant g.P.Part.shape bodies c.args.part SeqKind.sequence c.in-ListOf.element c.in-ListOf.ensures) c.in-Err-read_elements.ensures.answer

pub read_value-returns-in-Ok-bag-clause-answer : goal.read_value-returns-in-Ok-bag-clause-answer
read_value-returns-in-Ok-bag-clause-answer g t c =
    let shape = g.P.Part.shape in
    let bodies = bodies_of c.args.loops.now in
    let part = c.args.part in
    let n = g.D.Decoder.notation in
    let before = g.D.Decoder.pending c.args.decoder.now in
    let items = c.in-Ok-read_elements-2.items in
    elements-read shape bodies part SeqKind.set c.in-SetOf.element c.in-SetOf.ensures n before items c.in-Ok-bag.set _ c.in-Ok-bag.ensures c.in-Ok-read_elements-2.ensures.answer

pub read_value-returns-in-Ok-bag-clause-held : goal.read_value-returns-in-Ok-bag-clause-held
read_value-returns-in-Ok-bag-clause-held g t c =
    bag-held c.in-Ok-bag.set c.in-Ok-read_elements-2.items.items c.in-Ok-bag.ensures c.in-Ok-read_elements-2.ensures.held

pub read_value-returns-in-Err-bag-clause-answer : goal.read_value-returns-in-Err-bag-clause-answer
read_value-returns-in-Err-bag-clause-answer g t c =
    memory-refused (meant g.P.Part.shape (bodies_of c.args.loops.now) c.args.part) (g.D.Decoder.pending c.args.decoder.now) c.out_of_memory.result c.out_of_memory.ensures

pub read_value-read_elements-requires-in-Table : goal.read_value-read_elements-requires-in-Table
read_value-read_elements-requires-in-Table g t c κs within =
    let shape = g.P.Part.shape in
    let bodies = bodies_of c.args.loops.now in
    let now = g.D.Decoder.pending c.args.decoder.now in
    let entry = c.in-Table.entry in
    let same = ap (cost (head_nodes now)) (entry-meant shape bodies c.args.part entry c.in-Table.ensures) in
    let alike = table-costs (head_nodes now) (meant shape bodies entry) in
    (subst (λ m. 5 * cost (head_nodes now) (Shape.list_of (meant shape bodies entry)) + 2 < m) c.decreases (omega (arith, same, alike)), (within.0, (within.1, entry-part shape bodies c.args.part entry c.in-Table.ensures c.requires)))

pub read_value-returns-in-Ok-table-clause-answer : goal.read_value-returns-in-Ok-table-clause-answer
read_value-returns-in-Ok-table-clause-answer g t c =
    let shape = g.P.Part.shape in
    let bodies = bodies_of c.args.loops.now in
    let part = c.args.part in
    let n = g.D.Decoder.notation in
    let before = g.D.Decoder.pending c.args.decoder.now in
    table-read shape bodies part c.in-Table.entry c.in-Table.ensures n before c.in-Ok-read_elements-3.entries c.in-Ok-table.table _ c.in-Ok-table.ensures c.in-Ok-read_elements-3.ensures.answer

pub read_value-returns-in-Ok-table-clause-held : goal.read_value-returns-in-Ok-table-clause-held
read_value-returns-in-Ok-table-clause-held g t c =
    table-held c.in-Ok-table.table c.in-Ok-read_elements-3.entries.items c.in-Ok-table.ensures c.in-Ok-read_elements-3.ensures.held

pub read_value-returns-in-Err-table-clause-answer : goal.read_value-returns-in-Err-table-clause-answer
read_value-returns-in-Err-table-clause-answer g t c =
    memory-refused (meant g.P.Part.shape (bodies_of c.args.loops.now) c.args.part) (g.D.Decoder.pending c.args.decoder.now) c.out_of_memory-in-Err-table.result c.out_of_memory-in-Err-table.ensures

pub read_value-returns-in-Err-read_elements-3-clause-answer : goal.read_value-returns-in-Err-read_elements-3-clause-answer
read_value-returns-in-Err-read_elements-3-clause-answer g t c =
    let shape = g.P.Part.shape in
    let bodies = bodies_of c.args.loops.now in
    let part = c.args.part in
    let n = g.D.Decoder.notation in
    let before = g.D.Decoder.pending c.args.decoder.now in
    table-refused shape bodies part c.in-Table.entry c.in-Table.ensures n before (dyn_failure c.in-Err-read_elements-3.error) c.in-Err-read_elements-3.ensures.answer

pub read_elements-returns-in-Err-clause-answer : goal.read_elements-returns-in-Err-clause-answer
read_elements-returns-in-Err-clause-answer g t c =
    let w = c.told.ensures in
    told-refuses w.0 (failure_of c.in-Err.error) (dyn_failure c.told.result) w.1 w.2 (c.in-Err.ensures (meant g.P.Part.shape (bodies_of c.args.loops.now) c.args.element))

pub read_elements-loop-i-init : goal.read_elements-loop-i-init
read_elements-loop-i-init g t c =
    rw c.in-Ok-with_capacity.ensures.items (record {
      read = list.start _ (kind_view c.args.kind) _ _ _ [] _ _ c.in-Ok.ensures;
      held = tt;
    })

pub read_elements-read_value-requires : goal.read_elements-read_value-requires
read_elements-read_value-requires g t c κs within =
    let element = meant g.P.Part.shape (bodies_of c.args.loops.now) c.args.element in
    let kind = kind_view c.args.kind in
    let before = g.D.Decoder.pending c.args.decoder.now in
    let now = g.D.Decoder.pending c.loop-i.decoder in
    let fewer = list.head_below _ kind _ _ _ _ _ _ _ c.loop-i.invariant.read c.loop-i-test.true in
    let less = list-costs kind (head_nodes now) (head_nodes before) element fewer in
    (subst (λ m. 5 * cost (head_nodes now) element + 3 < m) c.decreases (omega (arith, less)), (within.0, (within.1, c.requires)))

pub read_elements-returns-in-Err-read_value-clause-answer : goal.read_elements-returns-in-Err-read_value-clause-answer
read_elements-returns-in-Err-read_value-clause-answer g t c =
    rw c.in_element.ensures (list.refuse _ (kind_view c.args.kind) _ _ _ _ _ _ _ _ c.loop-i.invariant.read c.loop-i-test.true c.in-Err-read_value.ensures.answer)

pub read_elements-loop-i-preserved : goal.read_elements-loop-i-preserved
read_elements-loop-i-preserved g t c =
    rw c.in-Ok-push.ensures.items (record {
      read = list.step _ SeqKind.sequence _ _ _ _ _ _ _ _ _ c.loop-i.invariant.read c.loop-i-test.true c.in-Ok-read_value.ensures.answer;
      held = held-more c.loop-i.items.items c.in-Ok-read_value.item c.loop-i.invariant.held c.in-Ok-read_value.ensures.held;
    })

pub read_elements-returns-clause-answer : goal.read_elements-returns-clause-answer
read_elements-returns-clause-answer g t c =
    list.finish _ (kind_view c.args.kind) _ _ _ _ _ _ _ c.loop-i.invariant.read c.loop-i-test.false

pub read_sequence-open_fields-requires : goal.read_sequence-open_fields-requires
read_sequence-open_fields-requires g t c =
    let q = c.requires.sequence in
    let bodies = bodies_of c.args.loops.now in
    seq.sequence-distinct g.P.Part.shape bodies c.args.part (g.met.P.Part.same_names bodies c.args.part) q.0 q.1 q.2 c.requires.readable

pub read_sequence-returns-in-Err-clause-answer : goal.read_sequence-returns-in-Err-clause-answer
read_sequence-returns-in-Err-clause-answer g t c =
    let q = c.requires.sequence in
    let bodies = bodies_of c.args.loops.now in
    seq.sequence-unopened g.P.Part.shape bodies c.args.part (g.met.P.Part.same_names bodies c.args.part) q.0 q.1 q.2 g.D.Decoder.notation (g.D.Decoder.pending c.args.decoder.now) (dyn_failure c.in-Err.error) c.in-Err.ensures.refused

pub read_sequence-loop-place-init : goal.read_sequence-loop-place-init
read_sequence-loop-place-init g t c =
    let q = c.requires.sequence in
    let shape = g.P.Part.shape in
    let bodies = bodies_of c.args.loops.now in
    let part = c.args.part in
    let names = g.met.P.Part.same_names bodies part in
    let n = g.D.Decoder.notation in
    let before = g.D.Decoder.pending c.args.decoder.now in
    rw c.in-Ok-with_capacity.ensures.items (record {
      read = seq.sequence-opened shape bodies part names q.0 q.1 q.2 n before _ c.in-Ok.ensures.opened;
      held = tt;
    })

pub read_sequence-read_field-requires : goal.read_sequence-read_field-requires
read_sequence-read_field-requires g t c κs within =
    let q = c.requires.sequence in
    let shape = g.P.Part.shape in
    let bodies = bodies_of c.args.loops.now in
    let part = c.args.part in
    let names = g.met.P.Part.same_names bodies part in
    let now = g.D.Decoder.pending c.loop-place.decoder in
    let below = subst (λ m. c.loop-place.place < m) c.field_count-count.ensures c.loop-place-test.true in
    let less = seq.sequence-less shape bodies part names q.0 q.1 q.2 g.D.Decoder.notation (g.D.Decoder.pending c.args.decoder.now) c.loop-place.place c.loop-place.members.items now c.loop-place.invariant.read c.field-field.result below (c.field-field.ensures bodies) in
    (subst (λ m. 5 * cost (head_nodes now) (meant shape bodies c.field-field.result.part) + 5 < m) c.decreases less, (within.0, (within.1, seq.field-part shape bodies part names q.0 q.1 SeqKind.sequence q.2 c.field-field.result c.loop-place.place (c.field-field.ensures bodies) c.requires.readable)))

pub read_sequence-returns-in-Err-read_field-clause-answer : goal.read_sequence-returns-in-Err-read_field-clause-answer
read_sequence-returns-in-Err-read_field-clause-answer g t c =
    let q = c.requires.sequence in
    let shape = g.P.Part.shape in
    let bodies = bodies_of c.args.loops.now in
    let part = c.args.part in
    let names = g.met.P.Part.same_names bodies part in
    let n = g.D.Decoder.notation in
    let before = g.D.Decoder.pending c.args.decoder.now in
    let now = g.D.Decoder.pending c.loop-place.decoder in
    let below = subst (λ m. c.loop-place.place < m) c.field_count-count.ensures c.loop-place-test.true in
    seq.sequence-refused shape bodies part names q.0 q.1 q.2 n before c.loop-place.place c.loop-place.members.items now c.loop-place.invariant.read c.field-field.result below (c.field-field.ensures bodies) (dyn_failure c.in-Err-read_field.error) c.in-Err-read_field.ensures.answer

pub read_sequence-loop-place-preserved : goal.read_sequence-loop-place-preserved
read_sequence-loop-place-preserved g t c =
    let q = c.requires.sequence in
    let shape = g.P.Part.shape in
    let bodies = bodies_of c.args.loops.now in
    let part = c.args.part in
    let names = g.met.P.Part.same_names bodies part in
    let n = g.D.Decoder.notation in
    let before = g.D.Decoder.pending c.args.decoder.now in
    let now = g.D.Decoder.pending c.loop-place.decoder in
    let below = subst (λ m. c.loop-place.place < m) c.field_count-count.ensures c.loop-place-test.true in
    let m : Member = (c.in-Ok-from_str.name, c.in-Ok-read_field.slot) in
    rw c.in-Ok-push.ensures.items (record {
      read = seq.sequence-more shape bodies part names q.0 q.1 q.2 n before c.loop-place.place c.loop-place.members.items now c.loop-place.invariant.read c.field-field.result below (c.field-field.ensures bodies) m _ c.in-Ok-from_str.ensures.ok c.in-Ok-read_field.ensures.answer;
      held = members-more c.loop-place.members.items m c.loop-place.invariant.held c.in-Ok-read_field.ensures.held;
    })

pub read_sequence-returns-clause-answer : goal.read_sequence-returns-clause-answer
read_sequence-returns-clause-answer g t c =
    let q = c.requires.sequence in
    let shape = g.P.Part.shape in
    let bodies = bodies_of c.args.loops.now in
    let part = c.args.part in
    let names = g.met.P.Part.same_names bodies part in
    let n = g.D.Decoder.notation in
    let before = g.D.Decoder.pending c.args.decoder.now in
    let ended = subst (λ m. m ≤ c.loop-place.place) c.field_count-count.ensures c.loop-place-test.false in
    seq.sequence-done shape bodies part names q.0 q.1 q.2 n before c.loop-place.place c.loop-place.members.items _ c.loop-place.invariant.read c.loop-place.members refl ended

pub read_sequence-returns-clause-held : goal.read_sequence-returns-clause-held
read_sequence-returns-clause-held g t c =
    seen-held _ (Value.members (members_named (map named_value c.loop-place.members.items))) (view-Members c.loop-place.members) c.loop-place.invariant.held

pub read_set-open_fields-requires : goal.read_set-open_fields-requires
read_set-open_fields-requires g t c =
    let q = c.requires.set in
    let shape = g.P.Part.shape in
    let bodies = bodies_of c.args.loops.now in
    let part = c.args.part in
    let names = g.met.P.Part.same_names bodies part in
    let n = g.D.Decoder.notation in
    let before = g.D.Decoder.pending c.args.decoder.now in
    let order = c.in-Ok.order.items in
    let ordered = c.in-Ok.ensures bodies q.0 q.1 q.2 in
    sets.set-distinct shape bodies part names q.0 q.1 q.2 order ordered c.requires.readable

pub read_set-returns-in-Err-clause-answer : goal.read_set-returns-in-Err-clause-answer
read_set-returns-in-Err-clause-answer g t c =
    let q = c.requires.set in
    let shape = g.P.Part.shape in
    let bodies = bodies_of c.args.loops.now in
    let part = c.args.part in
    let names = g.met.P.Part.same_names bodies part in
    let n = g.D.Decoder.notation in
    let before = g.D.Decoder.pending c.args.decoder.now in
    let order = c.in-Ok.order.items in
    let ordered = c.in-Ok.ensures bodies q.0 q.1 q.2 in
    sets.set-unopened shape bodies part names q.0 q.1 q.2 order ordered n before (dyn_failure c.in-Err.error) c.in-Err.ensures.refused

pub read_set-loop-place-init : goal.read_set-loop-place-init
read_set-loop-place-init g t c =
    let q = c.requires.set in
    let shape = g.P.Part.shape in
    let bodies = bodies_of c.args.loops.now in
    let part = c.args.part in
    let names = g.met.P.Part.same_names bodies part in
    let n = g.D.Decoder.notation in
    let before = g.D.Decoder.pending c.args.decoder.now in
    let order = c.in-Ok.order.items in
    let ordered = c.in-Ok.ensures bodies q.0 q.1 q.2 in
    let all = c.in-Ok-absent_members.ensures in
    record {
      read = sets.set-opened shape bodies part names q.0 q.1 q.2 order ordered n before _ c.in-Ok-absent_members.members.items c.in-Ok-open_fields.ensures.opened all.0;
      held = absent-held _ c.in-Ok-absent_members.members.items all;
    }

pub read_set-field-field-requires : goal.read_set-field-field-requires
read_set-field-field-requires g t c =
    let q = c.requires.set in
    let shape = g.P.Part.shape in
    let bodies = bodies_of c.args.loops.now in
    let part = c.args.part in
    let names = g.met.P.Part.same_names bodies part in
    let n = g.D.Decoder.notation in
    let before = g.D.Decoder.pending c.args.decoder.now in
    let order = c.deref-place-items.result.now in
    let ordered = c.deref-place-items.ensures.value ∙ c.in-Ok.ensures bodies q.0 q.1 q.2 in
    let i = c.loop-place.place-index in
    sets.order-within shape bodies part names q.0 q.1 q.2 order ordered i 0 c.loop-place-test.true

pub read_set-read_field-requires : goal.read_set-read_field-requires
read_set-read_field-requires g t c κs within =
    let q = c.requires.set in
    let shape = g.P.Part.shape in
    let bodies = bodies_of c.args.loops.now in
    let part = c.args.part in
    let names = g.met.P.Part.same_names bodies part in
    let n = g.D.Decoder.notation in
    let before = g.D.Decoder.pending c.args.decoder.now in
    let order = c.deref-place-items.result.now in
    let ordered = c.deref-place-items.ensures.value ∙ c.in-Ok.ensures bodies q.0 q.1 q.2 in
    let now = g.D.Decoder.pending c.loop-place.decoder in
    let i = c.loop-place.place-index in
    let k = get_or order i 0 in
    let here = get_or_default order i 0 k c.loop-place-test.true in
    let members = c.loop-place.members.items in
    let read = c.loop-place.invariant.read in
    let at = c.field-field.ensures bodies in
    let less = sets.set-less shape bodies part names q.0 q.1 q.2 order ordered n before i members now read k c.field-field.result c.loop-place-test.true here at in
    (subst (λ m. 5 * cost (head_nodes now) (meant shape bodies c.field-field.result.part) + 5 < m) c.decreases less, (within.0, (within.1, seq.field-part shape bodies part names q.0 q.1 SeqKind.set q.2 c.field-field.result k at c.requires.readable)))

pub read_set-index_mut-requires : goal.read_set-index_mut-requires
read_set-index_mut-requires g t c =
    let q = c.requires.set in
    let shape = g.P.Part.shape in
    let bodies = bodies_of c.args.loops.now in
    let part = c.args.part in
    let names = g.met.P.Part.same_names bodies part in
    let n = g.D.Decoder.notation in
    let before = g.D.Decoder.pending c.args.decoder.now in
    let order = c.deref-place-items.result.now in
    let ordered = c.deref-place-items.ensures.value ∙ c.in-Ok.ensures bodies q.0 q.1 q.2 in
    let now = g.D.Decoder.pending c.loop-place.decoder in
    let i = c.loop-place.place-index in
    let k = get_or order i 0 in
    let here = get_or_default order i 0 k c.loop-place-test.true in
    let members = c.loop-place.members.items in
    let read = c.loop-place.invariant.read in
    let at = c.field-field.ensures bodies in
    let there = sets.set-place shape bodies part names q.0 q.1 q.2 order ordered n before i members now read k c.field-field.result c.loop-place-test.true here at in
    omega (arith, there, c.loop-place.members.ok.0)

pub read_set-returns-in-Err-read_field-clause-answer : goal.read_set-returns-in-Err-read_field-clause-answer
read_set-returns-in-Err-read_field-clause-answer g t c =
    let q = c.requires.set in
    let shape = g.P.Part.shape in
    let bodies = bodies_of c.args.loops.now in
    let part = c.args.part in
    let names = g.met.P.Part.same_names bodies part in
    let n = g.D.Decoder.notation in
    let before = g.D.Decoder.pending c.args.decoder.now in
    let order = c.deref-place-items.result.now in
    let ordered = c.deref-place-items.ensures.value ∙ c.in-Ok.ensures bodies q.0 q.1 q.2 in
    let now = g.D.Decoder.pending c.loop-place.decoder in
    let i = c.loop-place.place-index in
    let k = get_or order i 0 in
    let here = get_or_default order i 0 k c.loop-place-test.true in
    let members = c.loop-place.members.items in
    let read = c.loop-place.invariant.read in
    let at = c.field-field.ensures bodies in
    sets.set-refused shape bodies part names q.0 q.1 q.2 order ordered n before i members now read k c.field-field.result c.loop-place-test.true here at (dyn_failure c.in-Err-read_field.error) c.in-Err-read_field.ensures.answer

pub read_set-loop-place-preserved : goal.read_set-loop-place-preserved
read_set-loop-place-preserved g t c =
    let q = c.requires.set in
    let shape = g.P.Part.shape in
    let bodies = bodies_of c.args.loops.now in
    let part = c.args.part in
    let names = g.met.P.Part.same_names bodies part in
    let n = g.D.Decoder.notation in
    let before = g.D.Decoder.pending c.args.decoder.now in
    let order = c.deref-place-items.result.now in
    let ordered = c.deref-place-items.ensures.value ∙ c.in-Ok.ensures bodies q.0 q.1 q.2 in
    let now = g.D.Decoder.pending c.loop-place.decoder in
    let i = c.loop-place.place-index in
    let k = get_or order i 0 in
    let here = get_or_default order i 0 k c.loop-place-test.true in
    let members = c.loop-place.members.items in
    let read = c.loop-place.invariant.read in
    let at = c.field-field.ensures bodies in
    let old = c.index_mut.result.now in
    let m : Member = (old.0, c.in-Ok-read_field.slot) in
    let there = sets.set-place shape bodies part names q.0 q.1 q.2 order ordered n before i members now read k c.field-field.result c.loop-place-test.true here at in
    record {
      read = sets.set-more shape bodies part names q.0 q.1 q.2 order ordered n before i members now read k c.field-field.result c.loop-place-test.true here at m _ (ap (λ (x : Member). string_bytes x.0) (c.index_mut.ensures.value ∙ get_or_default members k old m there)) c.in-Ok-read_field.ensures.answer;
      held = members-set members k m c.loop-place.invariant.held c.in-Ok-read_field.ensures.held;
    }

pub read_set-returns-clause-answer : goal.read_set-returns-clause-answer
read_set-returns-clause-answer g t c =
    let q = c.requires.set in
    let shape = g.P.Part.shape in
    let bodies = bodies_of c.args.loops.now in
    let part = c.args.part in
    let names = g.met.P.Part.same_names bodies part in
    let n = g.D.Decoder.notation in
    let before = g.D.Decoder.pending c.args.decoder.now in
    let order = c.deref-place-items.result.now in
    let ordered = c.deref-place-items.ensures.value ∙ c.in-Ok.ensures bodies q.0 q.1 q.2 in
    sets.set-done shape bodies part names q.0 q.1 q.2 order ordered n before c.loop-place.place-index c.loop-place.members.items _ c.loop-place.invariant.read c.loop-place.members refl c.loop-place-test.false

pub read_set-returns-clause-held : goal.read_set-returns-clause-held
read_set-returns-clause-held g t c =
    seen-held _ (Value.members (members_named (map named_value c.loop-place.members.items))) (view-Members c.loop-place.members) c.loop-place.invariant.held

pub read_field-returns-in-Ok-true-clause-answer : goal.read_field-returns-in-Ok-true-clause-answer
read_field-returns-in-Ok-true-clause-answer g t c =
    let f = field_meant g.P.Part.shape (bodies_of c.args.loops.now) c.args.field.now in
    let h = rw c.in-Ok-true.field-0-test at c.in-Ok-true.ensures in
    absent-taken f h.0 h.1

pub read_field-returns-in-Err-clause-answer : goal.read_field-returns-in-Err-clause-answer
read_field-returns-in-Err-clause-answer g t c =
    let f = field_meant g.P.Part.shape (bodies_of c.args.loops.now) c.args.field.now in
    c.in-Err.ensures f.shape

pub read_field-read_value-requires : goal.read_field-read_value-requires
read_field-read_value-requires g t c κs within =
    let now = g.D.Decoder.pending c.args.decoder.now in
    let part = meant g.P.Part.shape (bodies_of c.args.loops.now) c.args.field.now.part in
    let stay = rw c.in-Ok-false.field-0-test at c.in-Ok-false.ensures in
    let stays = stay.0 in
    (subst (λ m. 5 * cost (head_nodes (g.D.Decoder.pending c.take_absent_field.new.decoder)) part + 3 < m) c.decreases (rw stays (omega arith)), (within.0, (within.1, c.requires)))

pub read_field-returns-in-Ok-clause-answer : goal.read_field-returns-in-Ok-clause-answer
read_field-returns-in-Ok-clause-answer g t c =
    let f = field_meant g.P.Part.shape (bodies_of c.args.loops.now) c.args.field.now in
    let h = c.in-Ok.ensures.answer in
    let stay = rw c.in-Ok-false.field-0-test at c.in-Ok-false.ensures in
    let stays = stay.0 in
    value-taken f h.0 (dyn_value c.in-Ok.value) _ (sym stays ∙ h.1) h.2 c.kept_value.ensures

pub read_field-returns-in-Ok-clause-held : goal.read_field-returns-in-Ok-clause-held
read_field-returns-in-Ok-clause-held g t c =
    let f = field_meant g.P.Part.shape (bodies_of c.args.loops.now) c.args.field.now in
    kept-held f.presence c.in-Ok.value c.kept_value.result c.kept_value.ensures c.in-Ok.ensures.held

pub read_field-returns-in-Err-read_value-clause-answer : goal.read_field-returns-in-Err-read_value-clause-answer
read_field-returns-in-Err-read_value-clause-answer g t c =
    let f = field_meant g.P.Part.shape (bodies_of c.args.loops.now) c.args.field.now in
    let n = g.D.Decoder.notation in
    let before = g.D.Decoder.pending c.args.decoder.now in
    let w = c.within.ensures in
    let h = rw c.in-Ok-false.field-0-test at c.in-Ok-false.ensures in
    value-refused f before w.0 (dyn_failure c.in-Err-read_value.error) (dyn_failure c.within.result) w.1 h.1 w.2 (subst (λ l. Refuses n (FailsWith n f.shape (head_slot l)) (dyn_failure c.in-Err-read_value.error)) h.0 c.in-Err-read_value.ensures.answer)

pub read_choice-read_payload-requires : goal.read_choice-read_payload-requires
read_choice-read_payload-requires g t c κs within =
    let q = c.requires.choice in
    let shape = g.P.Part.shape in
    let bodies = bodies_of c.args.loops.now in
    let part = c.args.part in
    let names = g.met.P.Part.same_identifiers bodies part in
    let n = g.D.Decoder.notation in
    let before = g.D.Decoder.pending c.args.decoder.now in
    let mid = g.D.Decoder.pending c.open_choice.new.self in
    let opens = rw c.in-Ok-Some.field-0-is at c.in-Ok-Some.ensures in
    let k = c.in-Ok-Some.place in
    let less = choice.choice-costs shape bodies part names q.0 q.1 q.2 n before mid k opens c.in-Some.alternative (c.in-Some.ensures bodies) in
    (subst (λ m. 5 * cost (head_nodes mid) (meant shape bodies c.in-Some.alternative.part) + 4 < m) c.decreases less, (within.0, (within.1, choice.choice-part shape bodies part names q.0 q.1 q.2 n before mid k opens c.in-Some.alternative (c.in-Some.ensures bodies) c.requires.readable)))

pub read_choice-returns-in-Some-clause-answer : goal.read_choice-returns-in-Some-clause-answer
read_choice-returns-in-Some-clause-answer g t c =
    let q = c.requires.choice in
    let shape = g.P.Part.shape in
    let bodies = bodies_of c.args.loops.now in
    let part = c.args.part in
    let names = g.met.P.Part.same_identifiers bodies part in
    let n = g.D.Decoder.notation in
    let before = g.D.Decoder.pending c.args.decoder.now in
    let mid = g.D.Decoder.pending c.open_choice.new.self in
    let opens = rw c.in-Ok-Some.field-0-is at c.in-Ok-Some.ensures in
    choice.choice-read shape bodies part names q.0 q.1 q.2 n before mid c.in-Ok-Some.place opens c.in-Some.alternative (c.in-Some.ensures bodies) dyn_failure dyn_value c.read_payload.result _ c.read_payload.ensures.answer

pub read_choice-returns-in-None-clause-answer : goal.read_choice-returns-in-None-clause-answer
read_choice-returns-in-None-clause-answer g t c =
    let q = c.requires.choice in
    let shape = g.P.Part.shape in
    let bodies = bodies_of c.args.loops.now in
    let part = c.args.part in
    let names = g.met.P.Part.same_identifiers bodies part in
    let n = g.D.Decoder.notation in
    let before = g.D.Decoder.pending c.args.decoder.now in
    let mid = g.D.Decoder.pending c.open_choice.new.self in
    let opens = rw c.in-Ok-Some.field-0-is at c.in-Ok-Some.ensures in
    choice.choice-placed shape bodies part names q.0 q.1 q.2 n before mid c.in-Ok-Some.place opens (c.in-None.ensures bodies) (dyn_failure c.no_choice.result) c.no_choice.ensures

pub read_choice-returns-in-Ok-None-clause-answer : goal.read_choice-returns-in-Ok-None-clause-answer
read_choice-returns-in-Ok-None-clause-answer g t c =
    let q = c.requires.choice in
    let shape = g.P.Part.shape in
    let bodies = bodies_of c.args.loops.now in
    let part = c.args.part in
    let names = g.met.P.Part.same_identifiers bodies part in
    let n = g.D.Decoder.notation in
    let before = g.D.Decoder.pending c.args.decoder.now in
    let mid = g.D.Decoder.pending c.open_choice.new.self in
    let opens = rw c.in-Ok-None.field-0-is at c.in-Ok-None.ensures in
    choice.choice-unnamed shape bodies part names q.0 q.1 q.2 n before mid opens (dyn_failure c.of_kind.result) (rw c.of_kind.ensures c.no_choice-in-Ok-None.ensures)

pub read_choice-returns-in-Err-clause-answer : goal.read_choice-returns-in-Err-clause-answer
read_choice-returns-in-Err-clause-answer g t c =
    let q = c.requires.choice in
    let shape = g.P.Part.shape in
    let bodies = bodies_of c.args.loops.now in
    let part = c.args.part in
    let names = g.met.P.Part.same_identifiers bodies part in
    let n = g.D.Decoder.notation in
    let before = g.D.Decoder.pending c.args.decoder.now in
    let mid = g.D.Decoder.pending c.open_choice.new.self in
    let w = c.told.ensures in
    rw c.of_kind-in-Err.ensures (told-refuses w.0 (failure_of c.in-Err.error) (dyn_failure c.told.result) w.1 w.2 (choice.unopened shape bodies part names q.0 q.1 q.2 n before (failure_of c.in-Err.error) c.in-Err.ensures))

pub read_payload-read_value-requires : goal.read_payload-read_value-requires
read_payload-read_value-requires g t c κs within =
    (subst (λ m. 5 * cost (head_nodes (g.D.Decoder.pending c.args.decoder.now)) (meant g.P.Part.shape (bodies_of c.args.loops.now) c.args.alternative.now.part) + 3 < m) c.decreases (omega arith), (within.0, (within.1, c.requires)))

pub read_payload-returns-in-Ok-new-clause-answer : goal.read_payload-returns-in-Ok-new-clause-answer
read_payload-returns-in-Ok-new-clause-answer g t c =
    let part = meant g.P.Part.shape (bodies_of c.args.loops.now) c.args.alternative.now.part in
    payload-said c.in-Ok-from_str.identifier c.in-Ok-new.value c.in-Ok.payload c.in-Ok-new.ensures.ok part c.args.alternative.now.identifier.now (g.D.Decoder.pending c.args.decoder.now) _ c.in-Ok-from_str.ensures.ok c.in-Ok.ensures.answer

pub read_payload-returns-in-Ok-new-clause-held : goal.read_payload-returns-in-Ok-new-clause-held
read_payload-returns-in-Ok-new-clause-held g t c =
    payload-held c.in-Ok-from_str.identifier c.in-Ok-new.value c.in-Ok.payload c.in-Ok-new.ensures.ok c.in-Ok.ensures.held

pub read_payload-returns-in-Err-new-clause-answer : goal.read_payload-returns-in-Err-new-clause-answer
read_payload-returns-in-Err-new-clause-answer g t c =
    memory-refused (meant g.P.Part.shape (bodies_of c.args.loops.now) c.args.alternative.now.part) (g.D.Decoder.pending c.args.decoder.now) c.out_of_memory-in-Err-new.result c.out_of_memory-in-Err-new.ensures
