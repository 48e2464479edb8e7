use Rattle.std.proofs.Common.{ap, ◌∙◌, sym}
use Rattle.asn_model.specs.Shape.{all_alternatives}
use Rattle.asn_coding.proofs.Choices.{opened_by_place, place_tag, all_tags, tag_there}
use Rattle.asn_coding.proofs.NameRows.{names-numbered}
use Rattle.asn_model.proofs.Readables.{tags_distinguished, no_end_tag}
use Rattle.asn_decode.proofs.decoder.Decoder.open_alternative.Goals as goal

pub returns-in-Ok-Some : goal.returns-in-Ok-Some
returns-in-Ok-Some g c =
    let alts = g.C.Choice.alternatives in
    let added = g.C.Choice.added in
    let s = g.C.AsnType.shape_of in
    let both = all_tags _ _ _ alts added c.variant_table.ensures c.extended_variant_table.ensures c.listed-added.ensures in
    let t = tag_there (all_alternatives alts added) c.in-Ok-Some.place _ _ both c.tag_at.ensures ∙ ap (place_tag (all_alternatives alts added)) (sym c.in-Ok-Some.field-0-is) in
    opened_by_place _ alts added _ _ _ _ _ t (names-numbered 0 _ ∙ c.identifier_table.ensures) (tags_distinguished s alts added g.met.C.AsnType.readable g.met.C.Choice.of_alternatives)
    (no_end_tag s alts added g.met.C.AsnType.readable g.met.C.Choice.of_alternatives) c.in-Ok-Some.ensures

pub returns-in-Ok-None : goal.returns-in-Ok-None
returns-in-Ok-None g c =
    let alts = g.C.Choice.alternatives in
    let added = g.C.Choice.added in
    let s = g.C.AsnType.shape_of in
    let t = ap (place_tag (all_alternatives alts added)) (sym c.in-Ok-None.field-0-is) in
    opened_by_place _ alts added _ _ _ _ _ t (names-numbered 0 _ ∙ c.identifier_table.ensures) (tags_distinguished s alts added g.met.C.AsnType.readable g.met.C.Choice.of_alternatives)
    (no_end_tag s alts added g.met.C.AsnType.readable g.met.C.Choice.of_alternatives) c.in-Ok-None.ensures
