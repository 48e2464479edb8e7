use Rattle.std.proofs.Common.{◌≡◌, ◌<◌, ◌+◌, ◌∙◌, ◌∷◌, Some, ap, arith, suc, sym}
use Rattle.std.specs.Prelude.{option_map}
use Rattle.asn_linked.specs.Places.{open_numbers}
use Rattle.asn_linked.specs.declared.place.Place.{Place}
use Rattle.asn_linked_types.specs.Expansion.{place_of}
use Rattle.asn_linked.proofs.Chained.{open-first, open-next, open-none, open-zero}
use Rattle.asn_parts.specs.Chain.{bodies_of}
use Rattle.asn_parts.proofs.Chains.{bodies-outermost, bodies-within}
use Rattle.asn_linked.proofs.place.+open_place.Goals as goal

pub returns-in-Outermost-clause-found : goal.returns-in-Outermost-clause-found
returns-in-Outermost-clause-found t c = sym (ap (λ l. place_of (open_numbers c.args.count l) c.args.number) (ap bodies_of c.in-Outermost.is ∙ bodies-outermost Place) ∙ open-none c.args.count c.args.number)

pub returns-then-count-eq0-clause-found : goal.returns-then-count-eq0-clause-found
returns-then-count-eq0-clause-found t c = sym (open-zero c.args.count c.args.number (bodies_of c.args.around.now) c.if-count-eq0.true)

pub returns-then-body-number-clause-found : goal.returns-then-body-number-clause-found
returns-then-body-number-clause-found t c =
    let w = c.in-Within in
    let within : bodies_of c.args.around.now ≡ w.body ∷ bodies_of w.outer.now = ap bodies_of w.is ∙ bodies-within Place w.body w.outer in
    let some : 0 < c.args.count = omega (arith, c.if-count-eq0.false) in
    sym (ap (λ l. place_of (open_numbers c.args.count l) c.args.number) within ∙ open-first c.args.count c.args.number w.body (bodies_of w.outer.now) some c.if-body-number.true)

pub returns-in-Some-clause-found : goal.returns-in-Some-clause-found
returns-in-Some-clause-found t c =
    let w = c.in-Within in
    let within : bodies_of c.args.around.now ≡ w.body ∷ bodies_of w.outer.now = ap bodies_of w.is ∙ bodies-within Place w.body w.outer in
    let some : 0 < c.args.count = omega (arith, c.if-count-eq0.false) in
    let next : suc c.in-Some.place ≡ c.in-Some.place + 1 = omega arith in
    sym (ap (λ l. place_of (open_numbers c.args.count l) c.args.number) within ∙ open-next c.args.count c.args.number w.body (bodies_of w.outer.now) some c.if-body-number.false
    ∙ ap (option_map suc) (sym c.in-Some.ensures.found) ∙ ap (λ n. Some n) next)

pub returns-in-None-clause-found : goal.returns-in-None-clause-found
returns-in-None-clause-found t c =
    let w = c.in-Within in
    let within : bodies_of c.args.around.now ≡ w.body ∷ bodies_of w.outer.now = ap bodies_of w.is ∙ bodies-within Place w.body w.outer in
    let some : 0 < c.args.count = omega (arith, c.if-count-eq0.false) in
    sym (ap (λ l. place_of (open_numbers c.args.count l) c.args.number) within ∙ open-next c.args.count c.args.number w.body (bodies_of w.outer.now) some c.if-body-number.false
    ∙ ap (option_map suc) (sym c.in-None.ensures.found))
