use Rattle.std.proofs.Common.{refl, sym, ap, ◌∙◌}
use Rattle.std.proofs.lemmas.Result.{IfOk-weaker}
use Rattle.std.specs.Prelude.{option_map}
use Rattle.asn_dynamic_values.specs.DynView.{dyn_value}
use Rattle.asn_example_values.proofs.Making.{choice-first, choice-later, next-member, sequence-lacks, sequence-lacks_later, sequence-made}
use Rattle.asn_example_values.proofs.parts.+make.Goals as goal

pub value_of-returns-then-not-branch : goal.value_of-returns-then-not-branch
value_of-returns-then-not-branch t c =
    let seq = c.in-Seq in
    sequence-lacks c.args.full c.args.other c.args.shape.now seq.kind seq.fields seq.added seq.is c.new-members.result.items c.new-members.ensures.items c.deref.result.now c.deref.ensures.value c.in_ok-add_members-in-Seq.field-0 _ c.in_ok-add_members-in-Seq.ensures c.if-not-branch.true

pub value_of-returns-then-not-branch-2 : goal.value_of-returns-then-not-branch-2
value_of-returns-then-not-branch-2 t c =
    let seq = c.in-Seq in
    sequence-lacks_later c.args.full c.args.other c.args.shape.now seq.kind seq.fields seq.added seq.is c.new-members.result.items c.new-members.ensures.items c.deref.result.now c.deref.ensures.value c.in_ok-add_members-in-Seq.field-0 c.in_ok-add_members-in-Seq-2.field-0
    c.add_members.new.members.items c.add_members-in-Seq.new.members.items c.entries.result.now c.in_ok-add_members-in-Seq.ensures c.if-not-branch.false c.entries.ensures c.in_ok-add_members-in-Seq-2.ensures c.if-not-branch-2.true

pub value_of-returns-else-not-branch-2 : goal.value_of-returns-else-not-branch-2
value_of-returns-else-not-branch-2 t c =
    let seq = c.in-Seq in
    sequence-made c.args.full c.args.other c.args.shape.now seq.kind seq.fields seq.added seq.is c.new-members.result.items c.new-members.ensures.items c.deref.result.now c.deref.ensures.value c.in_ok-add_members-in-Seq.field-0 c.in_ok-add_members-in-Seq-2.field-0
    c.add_members.new.members.items c.add_members-in-Seq.new.members.items c.entries.result.now c.in_ok-add_members-in-Seq.ensures c.if-not-branch.false c.entries.ensures c.in_ok-add_members-in-Seq-2.ensures c.add_members-in-Seq.new.members refl c.if-not-branch-2.false

pub value_of-returns-in-Some : goal.value_of-returns-in-Some
value_of-returns-in-Some t c =
    let choice = c.in-Choice in
    choice-first c.args.full c.args.other c.args.shape.now choice.alternatives choice.added choice.is c.deref-in-Choice.result.now c.deref-in-Choice.ensures.value (dyn_value c.in-Some.value) (ap (option_map dyn_value) (sym c.in-Some.is) ∙ c.in_ok-value-in-Choice.ensures)

pub value_of-returns-in-None : goal.value_of-returns-in-None
value_of-returns-in-None t c =
    let choice = c.in-Choice in
    IfOk-weaker c.alternative-in-None.result _ _ (λ v f.
    choice-later c.args.full c.args.other c.args.shape.now choice.alternatives choice.added choice.is c.deref-in-Choice.result.now c.deref-in-Choice.ensures.value (option_map dyn_value v) c.entries-in-None.result.now (ap (option_map dyn_value) (sym c.in-None.is) ∙ c.in_ok-value-in-Choice.ensures) c.entries-in-None.ensures f)
    c.alternative-in-None.ensures

pub add_members-loop-field-preserved : goal.add_members-loop-field-preserved
add_members-loop-field-preserved t c =
    next-member c.args.full c.args.fields.now c.loop-field.field-index c.field-item.result c.loop-field.members.items c.in_ok-value.value _ c.loop-field-test.true c.field-item.is c.loop-field.invariant c.in_ok-value.ensures _ c.in_ok-name.name c.in_ok-name.ensures.cases
    (sym c.is_lacking.ensures ∙ c.if-is_lacking.false) c.in_ok-push.ensures.items
