use Rattle.std.proofs.Common.{◌∙◌, [], ap, sym}
use Rattle.asn_linked.specs.Places.{part_view}
use Rattle.asn_linked.proofs.Placing.{items-placed}
use Rattle.asn_model.specs.Shape.{is_item}
use Rattle.asn_parts.specs.Listed.{items_in}
use Rattle.asn_linked.proofs.place.PlacePart.has_item.Goals as goal

pub returns-in-Some : goal.returns-in-Some
returns-in-Some c around =
    let p = c.args.self.now in
    c.has_item.ensures [] ∙ sym (ap (λ l. is_item l c.args.identifier.now) (items-placed around p ∙ ap (λ o. items_in (part_view p.number o)) c.in-Some.is))

pub returns-in-None : goal.returns-in-None
returns-in-None c around =
    let p = c.args.self.now in
    sym (ap (λ l. is_item l c.args.identifier.now) (items-placed around p ∙ ap (λ o. items_in (part_view p.number o)) c.in-None.is))
