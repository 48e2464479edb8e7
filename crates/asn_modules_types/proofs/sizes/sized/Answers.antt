use Rattle.std.proofs.Common.{◌+◌, ◌∙◌, ap, arith, drop, sym}
use Rattle.asn_model.specs.ShapeView.{shape_view}
use Rattle.asn_modules_types.specs.Known.{scope_view}
use Rattle.asn_modules_types.specs.Sizes.{shape_fixed, sized}
use Rattle.asn_modules_types.proofs.Sizing.{sized_end, sized_more}
use Rattle.asn_modules_types.proofs.sizes.sized.Goals as goal

pub loop-size-preserved : goal.loop-size-preserved
loop-size-preserved c = λ limit.
    let s = scope_view limit c.args.scope.now in
    let shape = shape_view c.loop-size.shape in
    c.loop-size.invariant limit ∙ sized_more s c.args.sizes.now c.loop-size.size-index _ shape c.loop-size-test.true
    ∙ ap (sized s (drop (c.loop-size.size-index + 1) c.args.sizes.now)) (sym (c.shape_fixed-shape.ensures ∙ ap (λ o. shape_fixed o shape) (c.fixed_by.ensures limit)))

pub returns : goal.returns
returns c = λ limit.
    sym (c.loop-size.invariant limit ∙ sized_end (scope_view limit c.args.scope.now) c.args.sizes.now c.loop-size.size-index (shape_view c.loop-size.shape) (omega (arith, c.loop-size-test.false)))
