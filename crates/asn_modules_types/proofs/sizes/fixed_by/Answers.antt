use Rattle.std.proofs.Common.{◌∙◌}
use Rattle.asn_modules_types.specs.Known.{scope_view}
use Rattle.asn_modules_types.proofs.Sizing.{fixed_high, fixed_low, fixed_other, fixed_same}
use Rattle.asn_modules_types.proofs.sizes.fixed_by.Goals as goal

pub returns-in_err-low : goal.returns-in_err-low
returns-in_err-low c = λ limit. c.from_residual.ensures ∙ fixed_low (scope_view limit c.args.scope.now) c.args.size (c.in_err-low.ensures limit)

pub returns-in_err-high : goal.returns-in_err-high
returns-in_err-high c = λ limit.
    c.from_residual-in_err-high.ensures ∙ fixed_high (scope_view limit c.args.scope.now) c.args.size c.in_ok-low.low (c.in_ok-low.ensures limit) (c.in_err-high.ensures limit)

pub returns-then-low-high : goal.returns-then-low-high
returns-then-low-high c = λ limit.
    fixed_same (scope_view limit c.args.scope.now) c.args.size c.in_ok-low.low c.in_ok-high.high (c.in_ok-low.ensures limit) (c.in_ok-high.ensures limit) c.if-low-high.true

pub returns-else-low-high : goal.returns-else-low-high
returns-else-low-high c = λ limit.
    fixed_other (scope_view limit c.args.scope.now) c.args.size c.in_ok-low.low c.in_ok-high.high (c.in_ok-low.ensures limit) (c.in_ok-high.ensures limit) c.if-low-high.false
