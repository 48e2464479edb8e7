use Rattle.std.proofs.Common.{ap, sym, ◌∙◌}
use Rattle.std.specs.Str.{bytes_eq}
use Rattle.asn_modules_errors.specs.Slices.{text_of}
use Rattle.asn_modules_types.proofs.Bound.{bound_here}
use Rattle.asn_modules_types.proofs.scope.bound_in.Goals as goal

pub returns-then-eq : goal.returns-then-eq
returns-then-eq c =
    sym (c.loop-binding.invariant ∙ bound_here c.args.text.now c.args.bindings.now c.loop-binding.binding-index c.args.name _ c.loop-binding-test.true
    (ap (λ x. bytes_eq x (text_of c.args.text.now c.args.name)) (sym c.text_of.ensures) ∙ ap (bytes_eq c.text_of.result.now) (sym c.text_of-wanted.ensures) ∙ sym c.eq.ensures ∙ c.if-eq.true))
