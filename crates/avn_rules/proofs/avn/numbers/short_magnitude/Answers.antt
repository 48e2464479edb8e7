use Rattle.std.proofs.Common.{◌+◌, ◌-◌, ◌*◌, ap, sym, ◌∙◌, drop, get_or, add-one}
use Rattle.asn_traits.specs.Digits.{digits_after}
use Rattle.avn_rules.proofs.Numbers.{digit_more}
use Rattle.avn_rules.proofs.avn.numbers.short_magnitude.Goals as goal

pub loop-digit-preserved : goal.loop-digit-preserved
loop-digit-preserved c =
    let ds = c.args.digits.now in
    let i = c.loop-digit.digit-index in
    let n = c.loop-digit.magnitude in
    let next = n * 10 + (get_or ds i 0 - 48) in
    c.loop-digit.invariant ∙ digit_more n i ds c.loop-digit-test.true c.if-digit-lt48.false c.if-digit-gt57.false ∙ ap (λ k. digits_after next (drop k ds)) (sym (add-one i))
