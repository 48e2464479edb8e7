use Rattle.std.proofs.Common.{◌≡◌, ◌∙◌, ◌∷◌, ap, arith, length, nat_lt, sym}
use Rattle.asn_linked.specs.declared.place.Place.{Place}
use Rattle.asn_linked.proofs.Chained.{fewer-next}
use Rattle.asn_parts.specs.Chain.{bodies_of}
use Rattle.asn_parts.proofs.Chains.{bodies-outermost, bodies-within}
use Rattle.asn_linked.proofs.place.+are_fewer.Goals as goal

pub returns-in-Outermost : goal.returns-in-Outermost
returns-in-Outermost t c = sym (ap (λ l. nat_lt (length l) c.args.count) (ap bodies_of c.in-Outermost.is ∙ bodies-outermost Place))

pub returns-then-count-gt0 : goal.returns-then-count-gt0
returns-then-count-gt0 t c =
    let w = c.in-Within in
    let within : bodies_of c.args.around.now ≡ w.body ∷ bodies_of w.outer.now = ap bodies_of w.is ∙ bodies-within Place w.body w.outer in
    c.are_fewer.ensures ∙ fewer-next (length (bodies_of w.outer.now)) c.args.count (omega (arith, c.if-count-gt0.true)) ∙ sym (ap (λ l. nat_lt (length l) c.args.count) within)
