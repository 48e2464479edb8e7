use Rattle.std.proofs.Common.{◌≡◌, suc, ◌<◌, ◌≤◌, ◌+◌, ◌*◌, ◌++◌, ◌∷◌, [], false, sym, ap, ◌∙◌, refl, subst, append_assoc, append-nil, arith, rules, IfErr, OnOk, string_bytes, string_cmp}
use Rattle.std.specs.List.Sorted.{IsStrictlySortedBy}
use Rattle.std.specs.Map.{keys_of}
use Rattle.asn_model.specs.Shape.{Shape, Alphabet}
use Rattle.std.proofs.lemmas.Result.{on_ok_weaker, err_from_is_err_and}
use Rattle.asn_document.specs.Meaning.{document_alternatives, document_name, document_payload, json_value}
use Rattle.asn_document.proofs.Elements.{item_within, member_within, items_values, entries_values, view-Null, view-Bool, view-Number, view-String}
use Rattle.asn_document.proofs.Entries.{entry_names}
use Rattle.asn_document.proofs.Whole.{item_whole, member_whole}
use Rattle.asn_document.proofs.Writes.{offer, closed, entry_closed, keys_of_map}
use Rattle.asn_coding.proofs.Collecting.{collected-none, collected-more, collected-all, collected-blocks, collected-push, collected-table, collected-refused}
use Rattle.asn_model.specs.Tree.{data_nodes, items_nodes, members_nodes}
use Rattle.asn_model.specs.Value.{Value, FitsAlternative}
use Rattle.asn_coding.specs.Writing.{Written, FailsToEncode, Offered}
use Rattle.serde_json.proofs.Views.{Entry, view-Array, view-Object}
use Rattle.serde_json.specs.View.{view, items_view, members_view}
use Rattle.serde_json.specs.Written.{has_float, items_have_float, members_have_float}
use Rattle.asn_document.proofs.writing.+write.Goals as goal

pub write_entry-returns-clause-written : goal.write_entry-returns-clause-written
write_entry-returns-clause-written g t c =
    on_ok_weaker c.close_fields.result (entry_closed (string_bytes c.args.key.now) (json_value c.args.member.now) _ (entry_names c.entry_table.result.now c.entry_table.ensures) c.in_ok-open_frame.ensures.opened (subst (λ k. Written g.E.Encoder.holds g.E.Encoder.notation (Shape.text Alphabet.utf8) (Value.text k) c.open_frame.new.self c.encode_utf8_string.new.self) c.as_str.ensures.value c.in_ok-encode_utf8_string.ensures.written) c.in_ok-write_value.ensures.written) c.close_fields.ensures.closed

pub write_items-loop-item-init : goal.write_items-loop-item-init
write_items-loop-item-init g t c = collected-none _ _ _ _ _ _ c.in_ok-open_frame.ensures.opened

pub write_items-write_value-requires : goal.write_items-write_value-requires
write_items-write_value-requires g t c κs within =
    let q = subst (λ vs. data_nodes (view c.item-item.result) ≤ items_nodes (items_view vs)) c.deref-item-items.ensures.value (item_within c.deref-item-items.result.now c.loop-item.item-index c.item-item.result (omega arith) c.item-item.is) in (
      subst (λ m. 4 * data_nodes (view c.item-item.result) + 1 < m) c.decreases (omega (arith, q)),
      (within, item_whole c.deref-item-items.result.now c.loop-item.item-index c.item-item.result (omega arith) c.item-item.is (subst (λ vs. items_have_float (items_view vs) ≡ false) (sym c.deref-item-items.ensures.value) c.requires)),
    )

pub write_items-returns-in_err-write_value-clause-refused : goal.write_items-returns-in_err-write_value-clause-refused
write_items-returns-in_err-write_value-clause-refused g t c =
    let p = err_from_is_err_and c.from_residual-in_err-write_value.result c.from_residual-in_err-write_value.ensures.1 in
    rw (p.1, p.2, ← c.deref-item-items.ensures.value) (collected-blocks c.deref-item-items.result.now c.loop-item.item-index c.item-item.result _ (omega arith) c.item-item.is c.loop-item.invariant c.in_err-write_value.ensures.refused)

pub write_items-loop-item-preserved : goal.write_items-loop-item-preserved
write_items-loop-item-preserved g t c =
    collected-more c.deref-item-items.result.now c.loop-item.item-index c.item-item.result (omega arith) c.item-item.is c.loop-item.invariant c.in_ok-write_value.ensures.written

pub write_items-returns-clause-written : goal.write_items-returns-clause-written
write_items-returns-clause-written g t c =
    rw (← c.deref-item-items.ensures.value) (on_ok_weaker c.close_list.result (λ e. collected-all c.deref-item-items.result.now c.loop-item.item-index (omega arith) c.loop-item.invariant e) c.close_list.ensures.closed)

pub write_members-loop-key-init : goal.write_members-loop-key-init
write_members-loop-key-init g t c =
    ([], search rules, collected-none _ _ _ _ _ _ c.in_ok-open_frame.ensures.opened)

pub write_members-write_entry-requires : goal.write_members-write_entry-requires
write_members-write_entry-requires g t c κs within =
    let done = c.loop-key.invariant.0 in
    let e : Entry = (c.in-Some.key.now, c.in-Some.member.now) in
    let all : c.args.members.now.entries ≡ done ++ e ∷ c.next.new.self = c.loop-key.invariant.1 ∙ ap (λ es. done ++ es) c.in-Some.ensures.steps in
    let q = subst (λ es. data_nodes (view e.1) ≤ members_nodes (members_view es)) (sym all) (member_within done e c.next.new.self) in
    (subst (λ m. 4 * data_nodes (view e.1) + 2 < m) c.decreases (omega (arith, q)), (within, member_whole done e c.next.new.self (subst (λ es. members_have_float (members_view es) ≡ false) all c.requires)))

pub write_payload-write_items-requires : goal.write_payload-write_items-requires
write_payload-write_items-requires g t c κs within =
    let is = ap view c.in-Array.is ∙ view-Array _ in
    let q : data_nodes (view c.args.value.now) ≡ suc (items_nodes (items_view c.in-Array.items.items)) = ap data_nodes is in
    (subst (λ m. 4 * items_nodes (items_view c.in-Array.items.items) + 3 < m) c.decreases (omega (arith, q)), (within, subst (λ d. has_float d ≡ false) is c.requires))

pub write_payload-write_members-requires : goal.write_payload-write_members-requires
write_payload-write_members-requires g t c κs within =
    let is = ap view c.in-Object.is ∙ view-Object _ in
    let q : data_nodes (view c.args.value.now) ≡ suc (members_nodes (members_view c.in-Object.members.entries)) = ap data_nodes is in
    (subst (λ m. 4 * members_nodes (members_view c.in-Object.members.entries) + 3 < m) c.decreases (omega (arith, q)), (within, subst (λ d. has_float d ≡ false) is c.requires))

pub write_members-loop-key-preserved : goal.write_members-loop-key-preserved
write_members-loop-key-preserved g t c =
    let done = c.loop-key.invariant.0 in
    let e : Entry = (c.in-Some.key.now, c.in-Some.member.now) in
    let left = c.next.new.self in
    let all : c.args.members.now.entries ≡ done ++ e ∷ left = c.loop-key.invariant.1 ∙ ap (λ es. done ++ es) c.in-Some.ensures.steps in
    (done ++ e ∷ [], all ∙ sym (append_assoc done (e ∷ []) left), collected-push e c.loop-key.invariant.2 c.in_ok-write_entry.ensures.written)

pub write_members-returns-in_err-write_entry-clause-refused : goal.write_members-returns-in_err-write_entry-clause-refused
write_members-returns-in_err-write_entry-clause-refused g t c =
    let p = err_from_is_err_and c.from_residual-in_err-write_entry.result c.from_residual-in_err-write_entry.ensures.1 in
    let done = c.loop-key.invariant.0 in
    let e : Entry = (c.in-Some.key.now, c.in-Some.member.now) in
    let all : c.args.members.now.entries ≡ done ++ e ∷ c.next.new.self = c.loop-key.invariant.1 ∙ ap (λ es. done ++ es) c.in-Some.ensures.steps in
    rw (p.1, p.2, all) (collected-refused done e c.next.new.self _ c.loop-key.invariant.2 c.in_err-write_entry.ensures.refused)

pub write_members-returns-clause-written : goal.write_members-returns-clause-written
write_members-returns-clause-written g t c =
    let done = c.loop-key.invariant.0 in
    let all : c.args.members.now.entries ≡ done = c.loop-key.invariant.1 ∙ ap (λ es. done ++ es) c.in-None.ensures.steps.0 ∙ append-nil done in
    let rise = keys_of_map done (subst (λ es. IsStrictlySortedBy string_cmp (keys_of es)) all c.iter-key-items.ensures.ordered) in
    rw all (on_ok_weaker c.close_list.result (collected-table c.loop-key.invariant.2 rise) c.close_list.ensures.closed)

pub write_payload-returns-in-Null-clause-offered : goal.write_payload-returns-in-Null-clause-offered
write_payload-returns-in-Null-clause-offered g t c =
    on_ok_weaker c.encode_null.result (λ w. offer c.args.value.now _ (ap view c.in-Null.is ∙ view-Null) (refl) (FitsAlternative.fits_here w.fit) w) c.encode_null.ensures.written

pub write_payload-returns-in-Bool-clause-offered : goal.write_payload-returns-in-Bool-clause-offered
write_payload-returns-in-Bool-clause-offered g t c =
    on_ok_weaker c.encode_bool.result (λ w. offer c.args.value.now _ (ap view c.in-Bool.is ∙ view-Bool _) (refl) (FitsAlternative.fits_later (FitsAlternative.fits_here w.fit)) w) c.encode_bool.ensures.written

pub write_payload-returns-in-Number-clause-offered : goal.write_payload-returns-in-Number-clause-offered
write_payload-returns-in-Number-clause-offered g t c =
    subst (λ d. OnOk c.write_number.result (Offered g.E.Encoder.holds g.E.Encoder.notation document_alternatives (document_name d) (document_payload d) c.args.encoder.now c.write_number.new.encoder)) (sym (ap view c.in-Number.is ∙ view-Number _)) c.write_number.ensures.offered

pub write_payload-returns-in-String-clause-offered : goal.write_payload-returns-in-String-clause-offered
write_payload-returns-in-String-clause-offered g t c =
    on_ok_weaker c.encode_utf8_string.result (λ w. offer c.args.value.now _ (ap view c.in-String.is ∙ view-String _) (ap Value.text (sym c.as_str.ensures.value)) (FitsAlternative.fits_later (FitsAlternative.fits_later (FitsAlternative.fits_later (FitsAlternative.fits_later (FitsAlternative.fits_here w.fit))))) w) c.encode_utf8_string.ensures.written

pub write_payload-returns-in-Array-clause-offered : goal.write_payload-returns-in-Array-clause-offered
write_payload-returns-in-Array-clause-offered g t c =
    on_ok_weaker c.write_items.result (λ w. offer c.args.value.now _ (ap view c.in-Array.is ∙ view-Array _) (ap Value.list (items_values _)) (FitsAlternative.fits_later (FitsAlternative.fits_later (FitsAlternative.fits_later (FitsAlternative.fits_later (FitsAlternative.fits_later (FitsAlternative.fits_here w.fit)))))) w) c.write_items.ensures.written

pub write_payload-returns-in-Array-clause-refused : goal.write_payload-returns-in-Array-clause-refused
write_payload-returns-in-Array-clause-refused g t c =
    subst (λ v. IfErr c.write_items.result (FailsToEncode g.E.Encoder.notation v)) (sym (ap document_payload (ap view c.in-Array.is ∙ view-Array _) ∙ ap Value.list (items_values _))) c.write_items.ensures.refused

pub write_payload-returns-in-Object-clause-offered : goal.write_payload-returns-in-Object-clause-offered
write_payload-returns-in-Object-clause-offered g t c =
    on_ok_weaker c.write_members.result (λ w. offer c.args.value.now _ (ap view c.in-Object.is ∙ view-Object _) (ap Value.list (entries_values _)) (FitsAlternative.fits_later (FitsAlternative.fits_later (FitsAlternative.fits_later (FitsAlternative.fits_later (FitsAlternative.fits_later (FitsAlternative.fits_later (FitsAlternative.fits_here w.fit))))))) w) c.write_members.ensures.written

pub write_payload-returns-in-Object-clause-refused : goal.write_payload-returns-in-Object-clause-refused
write_payload-returns-in-Object-clause-refused g t c =
    subst (λ v. IfErr c.write_members.result (FailsToEncode g.E.Encoder.notation v)) (sym (ap document_payload (ap view c.in-Object.is ∙ view-Object _) ∙ ap Value.list (entries_values _))) c.write_members.ensures.refused

pub write_value-returns-clause-written : goal.write_value-returns-clause-written
write_value-returns-clause-written g t c =
    on_ok_weaker c.close_choice.result (closed (view c.args.value.now) c.name_of.result.now c.name_of.ensures c.in_ok-open_frame.ensures.opened c.in_ok-write_payload.ensures.offered) c.close_choice.ensures.closed
