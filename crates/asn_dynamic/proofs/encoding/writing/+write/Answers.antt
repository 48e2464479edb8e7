use Rattle.std.proofs.Common.{◌∙◌, ap, arith, sym, subst, map, Some, OnOk, IfErr, option_map}
use Rattle.std.proofs.lemmas.Result.{err_from_is_err_and, on_ok_weaker}
use Rattle.asn_coding.specs.Writing.{FailsToEncode, FailsToFill}
use Rattle.asn_coding.proofs.Collecting.{present-slots}
use Rattle.asn_dynamic_values.proofs.Views.{view-Bag, view-List, view-Members}
use Rattle.asn_dynamic_values.specs.DynView.{dyn_value, members_named, named_value}
use Rattle.asn_dynamic.specs.encoding.Sent.{Sent}
use Rattle.asn_dynamic.proofs.encoding.Frames.{absent-sent, bag-sent, fails-bag, fails-list, frame-all, frame-more, frame-none, frame-refused, list-sent, same-fails, same-sent}
use Rattle.asn_dynamic.proofs.encoding.Members.{fails-members, members-sent}
use Rattle.asn_model.specs.Value.{Value, values}
use Rattle.asn_dynamic.proofs.encoding.writing.+write.Goals as goal

pub write_elements-loop-element-init : goal.write_elements-loop-element-init
write_elements-loop-element-init g t c = frame-none c.in_ok-open_frame.ensures.opened

pub write_elements-loop-element-preserved : goal.write_elements-loop-element-preserved
write_elements-loop-element-preserved g t c =
    frame-more (λ v. Some (dyn_value v)) c.args.elements.now c.loop-element.element-index c.element-item.result (omega arith) c.element-item.is c.loop-element.invariant c.in_ok-write_value.ensures.written

pub write_elements-returns-in_err-open_frame-clause-refused : goal.write_elements-returns-in_err-open_frame-clause-refused
write_elements-returns-in_err-open_frame-clause-refused g t c =
    let p = err_from_is_err_and c.from_residual.result c.from_residual.ensures.1 in
    rw (p.1, p.2) (FailsToFill.no_memory_left c.in_err-open_frame.ensures.refused)

pub write_elements-returns-in_err-write_value-clause-refused : goal.write_elements-returns-in_err-write_value-clause-refused
write_elements-returns-in_err-write_value-clause-refused g t c =
    let p = err_from_is_err_and c.from_residual-in_err-write_value.result c.from_residual-in_err-write_value.ensures.1 in
    rw (p.1, p.2)
    (frame-refused (λ v. Some (dyn_value v)) c.args.elements.now c.loop-element.element-index c.element-item.result _ (omega arith) c.element-item.is c.loop-element.invariant (FailsToFill.slot_refused c.in_err-write_value.ensures.refused))

pub write_elements-returns-clause-written : goal.write_elements-returns-clause-written
write_elements-returns-clause-written g t c =
    frame-all (λ v. Some (dyn_value v)) c.args.elements.now c.loop-element.element-index (omega arith) c.loop-element.invariant

pub write_list-returns-in_err-write_elements-clause-refused : goal.write_list-returns-in_err-write_elements-clause-refused
write_list-returns-in_err-write_elements-clause-refused g t c =
    let p = err_from_is_err_and c.from_residual.result c.from_residual.ensures.1 in
    rw (p.1, p.2, ← present-slots dyn_value c.args.elements.now) (fails-list c.in_err-write_elements.ensures.refused)

pub write_list-returns-clause-written : goal.write_list-returns-clause-written
write_list-returns-clause-written g t c =
    rw (← present-slots dyn_value c.args.elements.now) (on_ok_weaker c.close_list.result (λ e. list-sent c.in_ok-write_elements.ensures.written e) c.close_list.ensures.closed)

pub write_bag-returns-in_err-write_elements-clause-refused : goal.write_bag-returns-in_err-write_elements-clause-refused
write_bag-returns-in_err-write_elements-clause-refused g t c =
    let p = err_from_is_err_and c.from_residual.result c.from_residual.ensures.1 in
    rw (p.1, p.2, ← present-slots dyn_value c.args.elements.now) (fails-bag c.in_err-write_elements.ensures.refused)

pub write_bag-returns-clause-written : goal.write_bag-returns-clause-written
write_bag-returns-clause-written g t c =
    rw (← present-slots dyn_value c.args.elements.now) (on_ok_weaker c.close_set.result (λ e. bag-sent c.in_ok-write_elements.ensures.written e) c.close_set.ensures.closed)

pub write_members-returns-in_err-write_slots-clause-refused : goal.write_members-returns-in_err-write_slots-clause-refused
write_members-returns-in_err-write_slots-clause-refused g t c =
    let p = err_from_is_err_and c.from_residual.result c.from_residual.ensures.1 in
    rw (p.1, p.2) (fails-members c.args.members.now c.in_err-write_slots.ensures.refused)

pub write_members-returns-clause-written : goal.write_members-returns-clause-written
write_members-returns-clause-written g t c =
    on_ok_weaker c.close_members.result (λ e. members-sent c.args.members.now c.in_ok-write_slots.ensures.written e) c.close_members.ensures.closed

pub write_slots-returns-in_err-open_frame-clause-refused : goal.write_slots-returns-in_err-open_frame-clause-refused
write_slots-returns-in_err-open_frame-clause-refused g t c =
    let p = err_from_is_err_and c.from_residual.result c.from_residual.ensures.1 in
    rw (p.1, p.2) (FailsToFill.no_memory_left c.in_err-open_frame.ensures.refused)

pub write_slots-returns-in_err-encode_absent-in-None-clause-refused : goal.write_slots-returns-in_err-encode_absent-in-None-clause-refused
write_slots-returns-in_err-encode_absent-in-None-clause-refused g t c =
    let p = err_from_is_err_and c.from_residual-in_err-encode_absent-in-None.result c.from_residual-in_err-encode_absent-in-None.ensures.1 in
    rw (p.1, p.2) (FailsToFill.no_memory_left c.in_err-encode_absent-in-None.ensures.refused)

pub write_slots-returns-in_err-write_value-clause-refused : goal.write_slots-returns-in_err-write_value-clause-refused
write_slots-returns-in_err-write_value-clause-refused g t c =
    let p = err_from_is_err_and c.from_residual-in_err-write_value.result c.from_residual-in_err-write_value.ensures.1 in
    let slot = ap (option_map dyn_value) c.in-Some.is in
    rw (p.1, p.2)
    (frame-refused (λ m. option_map dyn_value m.1) c.args.members.now c.loop-value.value-index c.loop-value-item.result _ (omega arith) c.loop-value-item.is c.loop-value.invariant
    (same-fails slot (FailsToFill.slot_refused c.in_err-write_value.ensures.refused)))

pub write_slots-loop-value-preserved : goal.write_slots-loop-value-preserved
write_slots-loop-value-preserved g t c =
    let slot = ap (option_map dyn_value) c.in-Some.is in
    frame-more (λ m. option_map dyn_value m.1) c.args.members.now c.loop-value.value-index c.loop-value-item.result (omega arith) c.loop-value-item.is c.loop-value.invariant
    (same-sent slot c.in_ok-write_value.ensures.written)

pub write_slots-loop-value-preserved-in-None : goal.write_slots-loop-value-preserved-in-None
write_slots-loop-value-preserved-in-None g t c =
    let slot = ap (option_map dyn_value) c.in-None.is in
    frame-more (λ m. option_map dyn_value m.1) c.args.members.now c.loop-value.value-index c.loop-value-item.result (omega arith) c.loop-value-item.is c.loop-value.invariant
    (same-sent slot (absent-sent c.in_ok-encode_absent-in-None.ensures.written))

pub write_value-returns-in-Members-clause-written : goal.write_value-returns-in-Members-clause-written
write_value-returns-in-Members-clause-written g t c =
    let seen = ap (λ l. Value.members (members_named (map named_value l))) c.deref.ensures.value ∙ sym (ap dyn_value c.in-Members.is ∙ view-Members c.in-Members.members) in
    subst (λ v. OnOk c.write_members.result (Sent g.E.Encoder.holds g.E.Encoder.notation v c.args.encoder.now c.write_members.new.encoder)) seen c.write_members.ensures.written

pub write_value-returns-in-Members-clause-refused : goal.write_value-returns-in-Members-clause-refused
write_value-returns-in-Members-clause-refused g t c =
    let seen = ap (λ l. Value.members (members_named (map named_value l))) c.deref.ensures.value ∙ sym (ap dyn_value c.in-Members.is ∙ view-Members c.in-Members.members) in
    subst (λ v. IfErr c.write_members.result (FailsToEncode g.E.Encoder.notation v)) seen c.write_members.ensures.refused

pub write_value-returns-in-List-clause-written : goal.write_value-returns-in-List-clause-written
write_value-returns-in-List-clause-written g t c =
    let seen = ap (λ l. Value.list (values dyn_value l)) c.deref-in-List.ensures.value ∙ sym (ap dyn_value c.in-List.is ∙ view-List c.in-List.elements) in
    subst (λ v. OnOk c.write_list.result (Sent g.E.Encoder.holds g.E.Encoder.notation v c.args.encoder.now c.write_list.new.encoder)) seen c.write_list.ensures.written

pub write_value-returns-in-List-clause-refused : goal.write_value-returns-in-List-clause-refused
write_value-returns-in-List-clause-refused g t c =
    let seen = ap (λ l. Value.list (values dyn_value l)) c.deref-in-List.ensures.value ∙ sym (ap dyn_value c.in-List.is ∙ view-List c.in-List.elements) in
    subst (λ v. IfErr c.write_list.result (FailsToEncode g.E.Encoder.notation v)) seen c.write_list.ensures.refused

pub write_value-returns-in-Bag-clause-written : goal.write_value-returns-in-Bag-clause-written
write_value-returns-in-Bag-clause-written g t c =
    let seen = ap (λ l. Value.bag (values dyn_value l)) c.deref-in-Bag.ensures.value ∙ sym (ap dyn_value c.in-Bag.is ∙ view-Bag c.in-Bag.elements) in
    subst (λ v. OnOk c.write_bag.result (Sent g.E.Encoder.holds g.E.Encoder.notation v c.args.encoder.now c.write_bag.new.encoder)) seen c.write_bag.ensures.written

pub write_value-returns-in-Bag-clause-refused : goal.write_value-returns-in-Bag-clause-refused
write_value-returns-in-Bag-clause-refused g t c =
    let seen = ap (λ l. Value.bag (values dyn_value l)) c.deref-in-Bag.ensures.value ∙ sym (ap dyn_value c.in-Bag.is ∙ view-Bag c.in-Bag.elements) in
    subst (λ v. IfErr c.write_bag.result (FailsToEncode g.E.Encoder.notation v)) seen c.write_bag.ensures.refused
