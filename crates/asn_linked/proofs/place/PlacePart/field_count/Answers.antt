use Rattle.std.proofs.Common.{◌∙◌, [], ap, length, sym}
use Rattle.asn_linked.specs.Places.{part_view}
use Rattle.asn_linked.proofs.Placing.{fields-placed}
use Rattle.asn_parts.specs.Listed.{fields_in}
use Rattle.asn_linked.proofs.place.PlacePart.field_count.Goals as goal

pub returns-in-Some : goal.returns-in-Some
returns-in-Some c =
    let p = c.args.self.now in
    c.field_count.ensures ∙ sym (fields-placed [] p ∙ ap (λ o. length (fields_in (part_view p.number o))) c.in-Some.is)

pub returns-in-None : goal.returns-in-None
returns-in-None c =
    let p = c.args.self.now in
    sym (fields-placed [] p ∙ ap (λ o. length (fields_in (part_view p.number o))) c.in-None.is)
