use Rattle.std.proofs.Common.{◌≡◌, ℕ, drop}
use Rattle.asn_model.specs.ShapeView.{shape_view}
use Rattle.asn_modules_types.specs.Known.{scope_view}
use Rattle.asn_modules_types.specs.Sizes.{sized}
use Rattle.asn_modules_types.proofs.sizes.sized.Given as goal

abbrev pub invariant-loop-size : goal.invariant-loop-size
invariant-loop-size l = (limit : ℕ) → sized (scope_view limit l.scope) l.sizes (shape_view l.fn.shape) ≡ sized (scope_view limit l.scope) (drop l.size-index l.sizes) (shape_view l.shape)
