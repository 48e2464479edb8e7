use Rattle.std.proofs.Common.{◌/◌, ◌++◌, ◌∷◌, [], take, arith, sym, ap, ◌∙◌}
use Rattle.avn_value.proofs.Packed.{packed-all, packed-split}
use Rattle.avn_value.proofs.normal.octets_of_bits.Goals as goal

pub returns-then-octets-whole : goal.returns-then-octets-whole
returns-then-octets-whole c = c.in_ok-kept.ensures.items ∙ sym (packed-all c.args.bit_length c.args.octets.now (λ i. omega (arith, c.type_inv.octets i)) c.if-octets-whole.true)

pub returns : goal.returns
returns c =
    let os = c.args.octets.now in
    let n = c.args.bit_length in
    c.in_ok-push.ensures.items ∙ ap (λ x. x ++ (c.first_bits-last.result ∷ [])) c.in_ok-kept-2.ensures.items ∙ ap (λ x. take (n / 8) os ++ x) c.first_bits-last.ensures ∙ sym (packed-split n os (λ i. omega (arith, c.type_inv.octets i)) (omega arith))
