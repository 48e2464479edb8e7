use Rattle.std.proofs.Common.{is_none, refl, sym, ap, ◌∙◌, map, take, arith}
use Rattle.std.proofs.lemmas.List.{drop_all}
use Rattle.asn_model.specs.Shape.{is_item}
use Rattle.asn_notation.specs.Names.{assigned_names, first_repeated_in}
use Rattle.asn_notation.specs.View.{assignment_view}
use Rattle.asn_module_text.proofs.Repeated.{repeated_here, repeated_behind}
use Rattle.asn_module_text.proofs.proper.are_names_distinct.Goals as goal

pub loop-place-init : goal.loop-place-init
loop-place-init c = refl

pub returns-then-is_assigned : goal.returns-then-is_assigned
returns-then-is_assigned c =
    let names = assigned_names (map assignment_view (take c.loop-place.place c.args.assignments.now)) in
    sym (ap is_none (c.loop-place.invariant ∙ repeated_here c.args.assignments.now c.loop-place.place c.index-assignments-place.result c.loop-place-test.true c.index-assignments-place.is
    (ap (is_item names) (sym c.as_str.ensures.value) ∙ sym c.is_assigned.ensures ∙ c.if-is_assigned.true)))

pub loop-place-preserved : goal.loop-place-preserved
loop-place-preserved c =
    let names = assigned_names (map assignment_view (take c.loop-place.place c.args.assignments.now)) in
    c.loop-place.invariant ∙ repeated_behind c.args.assignments.now c.loop-place.place c.index-assignments-place.result c.loop-place-test.true c.index-assignments-place.is
    (ap (is_item names) (sym c.as_str.ensures.value) ∙ sym c.is_assigned.ensures ∙ c.if-is_assigned.false)

pub returns : goal.returns
returns c =
    let names = assigned_names (map assignment_view (take c.loop-place.place c.args.assignments.now)) in
    sym (ap is_none (c.loop-place.invariant ∙ ap (λ xs. first_repeated_in names (assigned_names (map assignment_view xs))) (drop_all c.loop-place.place c.args.assignments.now (omega (arith, c.loop-place-test.false)))))
