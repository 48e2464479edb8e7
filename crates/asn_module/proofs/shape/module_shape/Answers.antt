use Rattle.std.proofs.Common.{IfErr, sym, ap, subst, ◌∙◌, map, false, true, arith}
use Rattle.std.proofs.lemmas.Grind.{common_steps}
use Rattle.std.proofs.lemmas.Result.{IfErr-at_err, err_from_is_err_and}
use Rattle.asn_expansion.specs.Expansion.{type_shape}
use Rattle.asn_expansion.specs.Large.{HasMore}
use Rattle.asn_expansion.specs.Places.{ArePlaces}
use Rattle.asn_growth.specs.Parts.{node_count}
use Rattle.asn_module.specs.Faults.{HasNoShape, NamesFail}
use Rattle.asn_module.proofs.Shaped.{proper_places, item_placed}
use Rattle.asn_notation.specs.Names.{assigned_names}
use Rattle.asn_notation.specs.View.{assignment_view}
use Rattle.asn_module.proofs.shape.module_shape.Goals as goal

pub returns-in_err-places-clause-refused : goal.returns-in_err-places-clause-refused
returns-in_err-places-clause-refused c =
    let assigned = map assignment_view c.args.«module».now.assignments.items in
    let fails = subst (λ xs. IfErr c.places_of.result (λ e. NamesFail (map assignment_view xs) e)) c.as_slice-assignments.ensures.value c.places_of.ensures.repeated in
    let p = err_from_is_err_and c.from_residual.result c.from_residual.ensures.1 in
    rw (p.1, p.2) (IfErr-at_err (λ e. HasNoShape 64 65536 assigned c.args.name.now e) c.in_err-places.was (proper_places 64 64 65536 assigned c.args.name.now c.places_of.result c.requires fails))

pub returns-then-not-contains_key-clause-refused : goal.returns-then-not-contains_key-clause-refused
returns-then-not-contains_key-clause-refused c =
    let are = subst (λ xs. ArePlaces c.in_ok-places.places (assigned_names (map assignment_view xs))) c.as_slice-assignments.ensures.value c.in_ok-places.ensures.places in (
      c.in_ok-from_str.ensures.ok,
      item_placed c.in_ok-places.places _ c.args.name.now false are (sym c.contains_key.ensures ∙ c.if-not-contains_key.true),
    )

pub returns-then-is_readable_with-clause-ok : goal.returns-then-is_readable_with-clause-ok
returns-then-is_readable_with-clause-ok c = ap (λ xs. type_shape 64 (map assignment_view xs) c.args.name.now) (sym c.as_slice-assignments.ensures.value) ∙ c.in-Ok.ensures.ok

pub returns-in-Err-TooLarge-clause-refused : goal.returns-in-Err-TooLarge-clause-refused
returns-in-Err-TooLarge-clause-refused c =
    let are = subst (λ xs. ArePlaces c.in_ok-places.places (assigned_names (map assignment_view xs))) c.as_slice-assignments.ensures.value c.in_ok-places.ensures.places in (
      c.in_ok-from_str-in-Err-TooLarge.ensures.ok,
      item_placed c.in_ok-places.places _ c.args.name.now true are (sym c.contains_key.ensures ∙ c.if-not-contains_key.false),
      subst (λ xs. HasMore node_count 65536 (type_shape 64 (map assignment_view xs) c.args.name.now)) c.as_slice-assignments.ensures.value (c.expand.ensures.large (grind (arith, common_steps))),
    )
