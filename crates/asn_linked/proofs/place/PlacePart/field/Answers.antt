use Rattle.std.proofs.Common.{◌∙◌, [], Some, ap, arith, length, sym}
use Rattle.asn_coding.specs.SetFields.{component_at}
use Rattle.asn_linked.specs.Places.{part_view}
use Rattle.asn_linked.proofs.Placing.{field-placed, fields-placed}
use Rattle.asn_model.specs.Components.{Component}
use Rattle.asn_model.specs.Shape.{Shape}
use Rattle.asn_model.specs.ShapeView.{presence_view, shape_view}
use Rattle.asn_parts.specs.Parts.{component_of, standing_of}
use Rattle.asn_parts.specs.Listed.{fields_in}
use Rattle.asn_linked.proofs.place.PlacePart.field.Goals as goal

pub field-field-requires : goal.field-field-requires
field-field-requires c =
    let p = c.args.self.now in
    omega (arith, c.requires, fields-placed [] p ∙ ap (λ o. length (fields_in (part_view p.number o))) c.in-Some.is)

pub unreachable-requires : goal.unreachable-requires
unreachable-requires c =
    let p = c.args.self.now in
    omega (arith, c.requires, fields-placed [] p ∙ ap (λ o. length (fields_in (part_view p.number o))) c.in-None.is)

pub returns : goal.returns
returns c around =
    let p = c.args.self.now in
    let field = c.field-field.result in
    let own = component_of (λ part. shape_view part.now) field in
    let there = ap (λ o. component_at (fields_in (part_view p.number o)) c.args.place) c.in-Some.is ∙ c.field-field.ensures [] in
    let with : Shape → Component = λ s. record { name = field.name.now; tag = field.tag; presence = presence_view field.presence.now; shape = s; standing = standing_of field.is_addition } in
    field-placed around p c.args.place own there ∙ ap (λ s. Some (with s)) (sym (c.within.ensures around))
