use Rattle.std.proofs.Common.{ap, arith, sym, ◌∙◌, Some}
use Rattle.std.specs.Str.{bytes_eq}
use Rattle.asn_modules_types.specs.Known.{scope_view}
use Rattle.asn_modules_types.proofs.Naming.{named_here, named_none, named_past}
use Rattle.asn_modules_types.proofs.defaults.named_number.Goals as goal

pub returns-then-eq : goal.returns-then-eq
returns-then-eq c = λ limit.
    ap Some (c.constant_in.ensures limit)
    ∙ sym (c.loop-entry.invariant limit ∙ named_here (scope_view limit c.args.scope.now) c.args.named.now c.loop-entry.entry-index c.args.word.now _ c.loop-entry-test.true (ap (λ x. bytes_eq x c.args.word.now) (sym c.text_of.ensures) ∙ sym c.eq.ensures ∙ c.if-eq.true))

pub loop-entry-preserved : goal.loop-entry-preserved
loop-entry-preserved c = λ limit.
    c.loop-entry.invariant limit
    ∙ named_past (scope_view limit c.args.scope.now) c.args.named.now c.loop-entry.entry-index c.args.word.now _ c.loop-entry-test.true (ap (λ x. bytes_eq x c.args.word.now) (sym c.text_of.ensures) ∙ sym c.eq.ensures ∙ c.if-eq.false)

pub returns : goal.returns
returns c = λ limit. sym (c.loop-entry.invariant limit ∙ named_none (scope_view limit c.args.scope.now) c.args.named.now c.loop-entry.entry-index c.args.word.now (omega (arith, c.loop-entry-test.false)))
