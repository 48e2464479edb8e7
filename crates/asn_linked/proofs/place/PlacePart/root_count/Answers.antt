use Rattle.std.proofs.Common.{◌∙◌, [], ap, sym}
use Rattle.asn_linked.specs.Places.{part_view}
use Rattle.asn_linked.proofs.Placing.{root-placed}
use Rattle.asn_parts.specs.Listed.{root_count_in}
use Rattle.asn_linked.proofs.place.PlacePart.root_count.Goals as goal

pub returns-in-Some : goal.returns-in-Some
returns-in-Some c around =
    let p = c.args.self.now in
    c.root_count.ensures [] ∙ sym (root-placed around p ∙ ap (λ o. root_count_in (part_view p.number o)) c.in-Some.is)

pub returns-in-None : goal.returns-in-None
returns-in-None c around =
    let p = c.args.self.now in
    sym (root-placed around p ∙ ap (λ o. root_count_in (part_view p.number o)) c.in-None.is)
