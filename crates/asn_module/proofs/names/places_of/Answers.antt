use Rattle.std.proofs.Common.{◌≡◌, Some, ◌++◌, ◌∷◌, [], sym, ap, subst, ◌∙◌, map, take, string_bytes, true, false}
use Rattle.asn_model.specs.Shape.{is_item}
use Rattle.asn_expansion.specs.Places.{ArePlaces}
use Rattle.asn_notation.specs.Names.{assigned_names}
use Rattle.asn_notation.specs.View.{assignment_view}
use Rattle.asn_module.proofs.Placed.{placed_before, places_more}
use Rattle.asn_module_text.proofs.Repeated.{names_more, names_count, repeated_here, repeated_behind}
use Rattle.asn_module.proofs.names.places_of.Goals as goal

pub returns-then-is_some-clause-repeated : goal.returns-then-is_some-clause-repeated
returns-then-is_some-clause-repeated c =
    let names = assigned_names (map assignment_view (take c.loop-place.place c.args.assignments.now)) in
    let a = c.index-assignments-place.result in
    let here : is_item names (string_bytes a.name) ≡ true = placed_before c.loop-place.places names (string_bytes a.name) c.as_str.result.now c.in_ok-insert.field-0 true c.loop-place.invariant.0 c.as_str.ensures.value c.in_ok-insert.ensures.old (sym c.is_some.ensures ∙ c.if-is_some.true) in
    c.loop-place.invariant.1 ∙ repeated_here c.args.assignments.now c.loop-place.place a c.loop-place-test.true c.index-assignments-place.is here ∙ ap (λ x. Some x) (sym c.in_ok-clone.ensures.cases)

pub loop-place-preserved : goal.loop-place-preserved
loop-place-preserved c =
    let names = assigned_names (map assignment_view (take c.loop-place.place c.args.assignments.now)) in
    let a = c.index-assignments-place.result in
    let key = c.as_str.result.now in
    let absent : is_item names (string_bytes a.name) ≡ false = placed_before c.loop-place.places names (string_bytes a.name) key c.in_ok-insert.field-0 false c.loop-place.invariant.0 c.as_str.ensures.value c.in_ok-insert.ensures.old (sym c.is_some.ensures ∙ c.if-is_some.false) in (
      subst (λ ns. ArePlaces c.insert.new.self ns) (ap (λ n. names ++ n ∷ []) c.as_str.ensures.value ∙ sym (names_more c.args.assignments.now c.loop-place.place a c.loop-place-test.true c.index-assignments-place.is))
          (places_more c.loop-place.places c.insert.new.self names key c.loop-place.place c.loop-place.invariant.0 (ap (λ n. is_item names n) c.as_str.ensures.value ∙ absent)
          (names_count c.args.assignments.now c.loop-place.place c.loop-place-test.true) c.in_ok-insert.ensures.updates),
      c.loop-place.invariant.1 ∙ repeated_behind c.args.assignments.now c.loop-place.place a c.loop-place-test.true c.index-assignments-place.is absent,
    )
