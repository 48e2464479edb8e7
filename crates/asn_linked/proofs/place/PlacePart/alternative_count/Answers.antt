use Rattle.std.proofs.Common.{◌∙◌, [], ap, length, sym}
use Rattle.asn_linked.specs.Places.{part_view}
use Rattle.asn_linked.proofs.Placing.{own_identifiers}
use Rattle.asn_model.specs.Shape.{identifiers}
use Rattle.asn_parts.specs.Listed.{alternatives_in}
use Rattle.asn_linked.proofs.place.PlacePart.alternative_count.Goals as goal

pub returns-in-Some : goal.returns-in-Some
returns-in-Some c =
    let p = c.args.self.now in
    c.alternative_count.ensures ∙ sym (ap length (own_identifiers [] p ∙ ap (λ o. identifiers (alternatives_in (part_view p.number o))) c.in-Some.is))

pub returns-in-None : goal.returns-in-None
returns-in-None c =
    let p = c.args.self.now in
    sym (ap length (own_identifiers [] p ∙ ap (λ o. identifiers (alternatives_in (part_view p.number o))) c.in-None.is))
