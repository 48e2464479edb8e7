use Rattle.std.proofs.Common.{◌≡◌, true, false, sym, ap, ◌∙◌, string_bytes, ◌&&◌}
use Rattle.avn_grammar.specs.WellFormed.{is_identifier, is_well_formed, are_well_formed, are_fields_well_formed}
use Rattle.avn_value.specs.View.{tree_of, list_trees, fields_trees}
use Rattle.avn_value.proofs.Forms.{forms-more, forms-other, field_form, form-some, form-none, form-name, fields_form-more, fields_form-other, no-forms, no-field_forms}
use Rattle.avn_value.proofs.well_formed.+form.Goals.{are_fields_well_formed-in-Some+else-not-is_value_well_formed, are_fields_well_formed-in-None}
use Rattle.avn_value.proofs.well_formed.+form.Goals as goal

pub is_list_well_formed-loop-item-init : goal.is_list_well_formed-loop-item-init
is_list_well_formed-loop-item-init t c = no-forms

pub is_list_well_formed-loop-item-preserved : goal.is_list_well_formed-loop-item-preserved
is_list_well_formed-loop-item-preserved t c =
    let xs = c.deref-item-items.result.now in
    let x = c.item-item.result in
    let i = c.loop-item.item-index in
    forms-more tree_of xs i x c.loop-item-test.true c.loop-item.invariant (ap (λ v. is_well_formed (tree_of v)) (sym c.item-item.is) ∙ sym c.is_value_well_formed.ensures ∙ c.if-not-is_value_well_formed.false)

pub is_list_well_formed-returns-then-not-is_value_well_formed : goal.is_list_well_formed-returns-then-not-is_value_well_formed
is_list_well_formed-returns-then-not-is_value_well_formed t c =
    let xs = c.deref-item-items.result.now in
    let x = c.item-item.result in
    sym (ap (λ v. are_well_formed (list_trees v)) (sym c.deref-item-items.ensures.value)
    ∙ forms-other tree_of xs c.loop-item.item-index x c.loop-item-test.true (ap (λ v. is_well_formed (tree_of v)) (sym c.item-item.is) ∙ sym c.is_value_well_formed.ensures ∙ c.if-not-is_value_well_formed.true))

pub are_fields_well_formed-loop-name-init : goal.are_fields_well_formed-loop-name-init
are_fields_well_formed-loop-name-init t c = no-field_forms

pub are_fields_well_formed-loop-name-preserved : goal.are_fields_well_formed-loop-name-preserved
are_fields_well_formed-loop-name-preserved t c =
    let xs = c.deref-name-items.result.now in
    let x = c.loop-name-item.result in
    let i = c.loop-name.name-index in
    let named : is_identifier (string_bytes (x.0)) ≡ true = ap is_identifier (sym c.as_str.ensures.value) ∙ sym c.is_identifier.ensures ∙ c.if-not-is_identifier.false in
    let form : field_form tree_of x ≡ true = elim c.match-slot.branch [
      | are_fields_well_formed-in-Some+else-not-is_value_well_formed w ↦
          form-some tree_of x w.in-Some.value w.in-Some.is ∙ ap (λ b. b && is_well_formed (tree_of w.in-Some.value)) named ∙ sym w.is_value_well_formed.ensures ∙ w.if-not-is_value_well_formed.false
      | are_fields_well_formed-in-None w ↦ form-none tree_of x w.in-None.is ∙ named
    ] in
    fields_form-more tree_of xs i x c.loop-name-test.true c.loop-name.invariant (ap (field_form tree_of) (sym c.loop-name-item.is) ∙ form)

pub are_fields_well_formed-returns-then-not-is_identifier : goal.are_fields_well_formed-returns-then-not-is_identifier
are_fields_well_formed-returns-then-not-is_identifier t c =
    let xs = c.deref-name-items.result.now in
    let x = c.loop-name-item.result in
    let i = c.loop-name.name-index in
    let named : is_identifier (string_bytes (x.0)) ≡ false = ap is_identifier (sym c.as_str.ensures.value) ∙ sym c.is_identifier.ensures ∙ c.if-not-is_identifier.true in
    sym (ap (λ v. are_fields_well_formed (fields_trees v)) (sym c.deref-name-items.ensures.value) ∙ fields_form-other tree_of xs i x c.loop-name-test.true (ap (field_form tree_of) (sym c.loop-name-item.is) ∙ form-name tree_of x named))

pub are_fields_well_formed-returns-then-not-is_value_well_formed : goal.are_fields_well_formed-returns-then-not-is_value_well_formed
are_fields_well_formed-returns-then-not-is_value_well_formed t c =
    let xs = c.deref-name-items.result.now in
    let x = c.loop-name-item.result in
    let i = c.loop-name.name-index in
    let named : is_identifier (string_bytes (x.0)) ≡ true = ap is_identifier (sym c.as_str.ensures.value) ∙ sym c.is_identifier.ensures ∙ c.if-not-is_identifier.false in
    let form : field_form tree_of x ≡ false = form-some tree_of x c.in-Some.value c.in-Some.is ∙ ap (λ b. b && is_well_formed (tree_of c.in-Some.value)) named ∙ sym c.is_value_well_formed.ensures ∙ c.if-not-is_value_well_formed.true in
    sym (ap (λ v. are_fields_well_formed (fields_trees v)) (sym c.deref-name-items.ensures.value) ∙ fields_form-other tree_of xs i x c.loop-name-test.true (ap (field_form tree_of) (sym c.loop-name-item.is) ∙ form))
