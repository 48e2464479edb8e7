use Rattle.std.proofs.Common.{◌≡◌, ◌≢◌, [], take, map, arith, sym, ap, subst, ◌∙◌, IfOk}
use Rattle.std.proofs.lemmas.Grind.{common_steps}
use Rattle.std.proofs.lemmas.List.{take_all}
use Rattle.avn_grammar.specs.Normal.{normal}
use Rattle.avn_value.specs.View.{tree_of, fields_trees}
use Rattle.avn_nodes.specs.TreeLists.{trees_in}
use Rattle.avn_value.proofs.Views.{view-Sequence}
use Rattle.avn_value.proofs.Joins.{normal-list, braced-some, normal-some, normal-none, no-fields-normal}
use Rattle.avn_value.proofs.normal.+normal.Goals.{present_fields-in-Some+in_ok-name-in-Some+in_ok-form-in-Some+in_ok-push-in-Some, present_fields-in-None}
use Rattle.avn_value.proofs.normal.+normal.Goals as goal

pub normal_list-returns : goal.normal_list-returns
normal_list-returns t c =
    let all : take c.loop-item.item-index c.deref-item-items.result.now ≡ c.args.list.now.items = take_all c.loop-item.item-index c.deref-item-items.result.now (omega arith) ∙ c.deref-item-items.ensures.value in
    ap trees_in (c.loop-item.invariant ∙ ap (map (λ v. normal (tree_of v))) all) ∙ normal-list tree_of c.args.list.now.items

pub normal_sequence-returns-else-is_empty : goal.normal_sequence-returns-else-is_empty
normal_sequence-returns-else-is_empty t c =
    let v = c.in_ok-present.present in
    let some : v.items ≢ [] = λ e. absurd (grind (arith, common_steps)) in
    view-Sequence v ∙ braced-some v.items (fields_trees c.args.fields.now.items) c.in_ok-present.ensures some

pub normal_value-returns-in-Sequence : goal.normal_value-returns-in-Sequence
normal_value-returns-in-Sequence t c =
    let e = ap tree_of c.in-Sequence.is ∙ view-Sequence c.in-Sequence.fields in
    subst (λ x. IfOk c.normal_sequence.result (λ form. tree_of form ≡ normal x)) (sym e) c.normal_sequence.ensures

pub present_fields-loop-name-init : goal.present_fields-loop-name-init
present_fields-loop-name-init t c = ap fields_trees c.new-forms.ensures.items ∙ no-fields-normal

pub present_fields-loop-name-preserved : goal.present_fields-loop-name-preserved
present_fields-loop-name-preserved t c =
    let xs = c.deref-name-items.result.now in
    let x = c.loop-name-item.result in
    let i = c.loop-name.name-index in
    let ys = c.loop-name.forms.items in
    elim c.match-slot.branch [
      | present_fields-in-Some+in_ok-name-in-Some+in_ok-form-in-Some+in_ok-push-in-Some w ↦
          ap (λ v. fields_trees v.items) w.forms-is
          ∙ normal-some tree_of xs ys w.push.new.self.items i x w.in_ok-name-in-Some.name w.in-Some.value w.in_ok-form-in-Some.form c.loop-name-test.true c.loop-name-item.is c.loop-name.invariant w.in_ok-push-in-Some.ensures.items w.in_ok-name-in-Some.ensures w.in-Some.is w.in_ok-form-in-Some.ensures
      | present_fields-in-None w ↦ ap (λ v. fields_trees v.items) w.forms-is ∙ normal-none tree_of xs ys i x c.loop-name-test.true c.loop-name-item.is c.loop-name.invariant w.in-None.is
    ]
