use Rattle.std.proofs.Common.{◌≡◌, ◌<◌, ◌≤◌, Some, sym, ap, subst, ◌∙◌, map, length, get_or, arith}
use Rattle.std.proofs.lemmas.List.{drop_all}
use Rattle.asn_expansion.specs.Places.{ArePlaces, is_placed}
use Rattle.asn_notation.specs.Names.{assigned_names, first_failing, first_repeated, module_references}
use Rattle.asn_notation.specs.View.{assignment_view}
use Rattle.asn_module.proofs.Placed.{unassigned_by}
use Rattle.asn_module_text.proofs.References.{unassigned-here, unassigned-behind}
use Rattle.asn_module.proofs.read.check_names.Goals as goal

pub returns-in-Some-clause-fault : goal.returns-in-Some-clause-fault
returns-in-Some-clause-fault c =
    let items = c.args.candidate.now.assignments.items in
    let places = c.in_ok-places.places in
    let here = c.deref.ensures.value in
    let again = c.deref-assignment-items.ensures.value in
    let are : ArePlaces places (assigned_names (map assignment_view items)) = subst (λ xs. ArePlaces places (assigned_names (map assignment_view xs))) here c.in_ok-places.ensures.places in
    let a = c.assignment-item.result in
    let i = c.loop-assignment.assignment-index in
    let h : i < length items = omega (arith, ap (λ xs. length xs) again) in
    let is : a ≡ get_or items i a = cc in (
      ap (λ xs. first_repeated (map assignment_view xs)) (sym here) ∙ c.in_ok-places.ensures.distinct,
      sym (unassigned_by places (map assignment_view items) are) ∙ c.loop-assignment.invariant ∙ unassigned-here (λ n. is_placed places n) items i a c.in-Some.name.now h is (sym c.in-Some.ensures) ∙ ap (λ x. Some x) (sym c.in_ok-from_str.ensures.ok),
    )

pub loop-assignment-preserved : goal.loop-assignment-preserved
loop-assignment-preserved c =
    let items = c.args.candidate.now.assignments.items in
    let again = c.deref-assignment-items.ensures.value in
    let a = c.assignment-item.result in
    let i = c.loop-assignment.assignment-index in
    let h : i < length items = omega (arith, ap (λ xs. length xs) again) in
    let is : a ≡ get_or items i a = cc in
    c.loop-assignment.invariant ∙ unassigned-behind (λ n. is_placed c.in_ok-places.places n) items i a h is (sym c.in_default.ensures)

pub returns-clause-assigned : goal.returns-clause-assigned
returns-clause-assigned c =
    let items = c.args.candidate.now.assignments.items in
    let places = c.in_ok-places.places in
    let are : ArePlaces places (assigned_names (map assignment_view items)) = subst (λ xs. ArePlaces places (assigned_names (map assignment_view xs))) c.deref.ensures.value c.in_ok-places.ensures.places in
    let again = c.deref-assignment-items.ensures.value in
    let i = c.loop-assignment.assignment-index in
    let h : length items ≤ i = omega (arith, ap (λ xs. length xs) again) in
    sym (unassigned_by places (map assignment_view items) are) ∙ c.loop-assignment.invariant ∙ ap (λ xs. first_failing (λ n. is_placed places n) (module_references (map assignment_view xs))) (drop_all i items h)
