use Rattle.std.proofs.Common.{◌<◌, ◌∷◌, ◌∙◌, take, drop, sym, ap, ap₂, subst}
use Rattle.asn_convert.specs.Lines.{words}
use Rattle.asn_convert.proofs.Words.{words-word}
use Rattle.asn_convert.proofs.lines.next_word.Goals as goal

pub returns-then-end-gt0 : goal.returns-then-end-gt0
returns-then-end-gt0 c =
    let e = c.first_blank-end.ensures.value in
    let some = subst (λ n. 0 < n) e c.if-end-gt0.true in
    c.blanks.invariant.0
    ∙ words-word c.blanks.rest.now some
    ∙ ap₂ (λ w ws. w ∷ words ws) (ap (λ n. take n c.blanks.rest.now) (sym e) ∙ sym c.split_at.ensures.front) (ap (λ n. drop n c.blanks.rest.now) (sym e) ∙ sym c.split_at.ensures.back)
