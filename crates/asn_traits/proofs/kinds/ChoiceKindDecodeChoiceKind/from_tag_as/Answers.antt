use Rattle.asn_model.specs.Shape.{all_alternatives}
use Rattle.asn_model.specs.Value.{Value}
use Rattle.asn_coding.proofs.Choices.{all_tags}
use Rattle.asn_coding.specs.Chosen.{chosen_value}
use Rattle.asn_coding.proofs.ByPlace.{answer_by_tag}
use Rattle.asn_traits.proofs.kinds.ChoiceKindDecodeChoiceKind.from_tag_as.Goals as goal

pub returns : goal.returns
returns g c =
    let alts = g.T.ChoicePayload.alternatives in
    let added = g.T.ChoicePayload.additions in
    let value : g.row.T.Denot → Value = λ x. chosen_value (g.T.ChoicePayload.chosen x) in
    let before = g.D.Decoder.pending c.args.decoder.now in
    let after = g.D.Decoder.pending c.read_alternative.new.decoder in
    answer_by_tag _ (all_alternatives alts added) value before after c.args.tag _ _ c.read_alternative.result c.place_of_tag-place.ensures.is (all_tags _ _ _ alts added c.listed_root.ensures c.listed_added.ensures c.listed.ensures) c.read_alternative.ensures
