use Rattle.std.proofs.Common.{◌∙◌, [], Some, ap, sym}
use Rattle.std.specs.Prelude.{option_map}
use Rattle.asn_linked.specs.Places.{named_shape, part_view}
use Rattle.asn_linked_types.proofs.Seen.{linked_alternative}
use Rattle.asn_linked.proofs.Placing.{alternative-placed}
use Rattle.asn_model.specs.Shape.{alternative_at}
use Rattle.asn_model.specs.ShapeView.{shape_view}
use Rattle.asn_parts.specs.Parts.{alternative_of}
use Rattle.asn_parts.specs.Listed.{alternatives_in}
use Rattle.asn_linked.proofs.place.PlacePart.alternative.Goals as goal

pub returns-in-Some-alternative : goal.returns-in-Some-alternative
returns-in-Some-alternative c around =
    let p = c.args.self.now in
    let there = ap (λ o. alternative_at (alternatives_in (part_view p.number o)) c.args.place) c.in-Some.is ∙ c.alternative.ensures [] ∙ ap (option_map (alternative_of (λ part. shape_view part.now))) c.in-Some-alternative.is in
    alternative-placed around p c.args.place ∙ ap (option_map (linked_alternative (named_shape around p))) there
    ∙ ap (λ s. Some (c.in-Some-alternative.alternative.identifier.now, s)) (sym (c.within.ensures around))

pub returns-in-None-alternative : goal.returns-in-None-alternative
returns-in-None-alternative c around =
    let p = c.args.self.now in
    let there = ap (λ o. alternative_at (alternatives_in (part_view p.number o)) c.args.place) c.in-Some.is ∙ c.alternative.ensures [] ∙ ap (option_map (alternative_of (λ part. shape_view part.now))) c.in-None-alternative.is in
    alternative-placed around p c.args.place ∙ ap (option_map (linked_alternative (named_shape around p))) there

pub returns-in-None : goal.returns-in-None
returns-in-None c around =
    let p = c.args.self.now in
    alternative-placed around p c.args.place ∙ ap (λ o. option_map (linked_alternative (named_shape around p)) (alternative_at (alternatives_in (part_view p.number o)) c.args.place)) c.in-None.is
