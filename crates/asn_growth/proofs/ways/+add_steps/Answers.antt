use Rattle.std.proofs.Common.{◌<◌, ◌≤◌, ◌++◌, ◌∷◌, [], map, reverse, get_or, refl, ap, sym, ◌∙◌, subst, arith, length, string_bytes}
use Rattle.std.proofs.lemmas.List.{map-append}
use Rattle.asn_model.specs.Shape.{Shape}
use Rattle.asn_model.specs.ShapeView.{shape_view}
use Rattle.asn_growth.specs.Parts.{node_count, parts}
use Rattle.asn_growth.specs.Paths.{paths, steps}
use Rattle.asn_growth.proofs.Steps.{beyond-part, found-way, nodes-end, nodes-step, part-smaller, steps-parts, way-below, within-part}
use Rattle.asn_growth.proofs.Walking.{nodes-parts}
use Rattle.asn_growth.proofs.ways.+add_steps.Goals as goal

pub add_steps-requires : goal.add_steps-requires
add_steps-requires t c =
    let s = shape_view c.args.shape.now in
    let within : c.loop-index.index < length (parts s) = omega (arith, c.loop-index-test.true, c.part_count-index-end.ensures) in
    (subst (λ m. node_count (shape_view c.part_at.result.now) < m) c.decreases (omega (arith, part-smaller s c.loop-index.index Shape.null within, ap node_count c.part_at.ensures)), tt)

pub returns-in_ok-push-in-None : goal.returns-in_ok-push-in-None
returns-in_ok-push-in-None t c =
    let s = shape_view c.args.shape.now in
    let i = c.loop-index.index in
    let part = shape_view c.part_at.result.now in
    let within : i < length (parts s) = omega (arith, c.loop-index-test.true, c.part_count-index-end.ensures) in
    let h = rw c.in-None.is at c.in_ok-further.ensures in
    let inner = get_or (paths part) c.loop-index.left [] in
    let way = within-part (steps s) (parts s) i Shape.null part c.loop-index.left _ (steps-parts s) within c.part_at.ensures h.0 c.loop-index.invariant.way in
    let before = h.1 ∙ ap (λ l. map string_bytes l ++ reverse inner) c.loop-index.invariant.none in
    let text = c.in_ok-from_str-in-None.field-0 in
    let step = c.in-Some-step_at.ensures ∙ ap (λ n. n ∷ []) (sym c.in_ok-from_str-in-None.ensures.ok) in (
      omega (arith, h.0, c.loop-index.invariant.beyond, nodes-step (parts s) i Shape.null within, ap node_count c.part_at.ensures),
      ap (λ l. map string_bytes l) c.in_ok-push-in-None.ensures.items ∙ map-append string_bytes c.add_steps.new.path.items (text ∷ [])
          ∙ found-way (map string_bytes c.args.path.now.items) (map string_bytes c.add_steps.new.path.items) (get_or (paths s) c.args.place []) inner (string_bytes text ∷ []) before (way ∙ ap (λ p. p ++ inner) step),
    )

pub returns-in_default : goal.returns-in_default
returns-in_default t c =
    let s = shape_view c.args.shape.now in
    let i = c.loop-index.index in
    let part = shape_view c.part_at.result.now in
    let within : i < length (parts s) = omega (arith, c.loop-index-test.true, c.part_count-index-end.ensures) in
    let h = rw c.in-None.is at c.in_ok-further.ensures in
    let inner = get_or (paths part) c.loop-index.left [] in
    let way = within-part (steps s) (parts s) i Shape.null part c.loop-index.left _ (steps-parts s) within c.part_at.ensures h.0 c.loop-index.invariant.way in
    let before = h.1 ∙ ap (λ l. map string_bytes l ++ reverse inner) c.loop-index.invariant.none in (
      omega (arith, h.0, c.loop-index.invariant.beyond, nodes-step (parts s) i Shape.null within, ap node_count c.part_at.ensures),
      before ∙ ap (λ w. map string_bytes c.args.path.now.items ++ reverse w) (sym (way ∙ ap (λ p. p ++ inner) c.in_default.ensures)),
    )

pub returns : goal.returns
returns t c =
    let s = shape_view c.args.shape.now in
    let past : length (parts s) ≤ c.loop-index.index = omega (arith, c.loop-index-test.false, c.part_count-index-end.ensures) in
    (omega (arith, nodes-end (parts s) c.loop-index.index past, c.loop-index.invariant.beyond), c.loop-index.invariant.none)

pub loop-index-init : goal.loop-index-init
loop-index-init t c =
    let s = shape_view c.args.shape.now in
    record { beyond = omega (arith, nodes-parts s, c.if-place-eq0.false); way = way-below s c.args.place c.if-place-eq0.false; none = refl }

pub loop-index-preserved : goal.loop-index-preserved
loop-index-preserved t c =
    let s = shape_view c.args.shape.now in
    let i = c.loop-index.index in
    let part = shape_view c.part_at.result.now in
    let within : i < length (parts s) = omega (arith, c.loop-index-test.true, c.part_count-index-end.ensures) in
    let h = rw c.in-Some.is at c.in_ok-further.ensures in
    record {
      beyond = omega (arith, h.0, c.loop-index.invariant.beyond, nodes-step (parts s) i Shape.null within, ap node_count c.part_at.ensures);
      way = beyond-part (steps s) (parts s) i Shape.null part c.loop-index.left c.in-Some.further _ (steps-parts s) within c.part_at.ensures h.0 c.loop-index.invariant.way;
      none = h.1 ∙ c.loop-index.invariant.none;
    }
