use Rattle.std.proofs.Common.{ap, length, sym, subst, ◌∙◌}
use Rattle.std.proofs.lemmas.List.{length-map}
use Rattle.asn_model.specs.Shape.{all_alternatives}
use Rattle.asn_model.specs.Value.{Value}
use Rattle.asn_coding.proofs.NameRows.{names-numbered}
use Rattle.asn_coding.specs.Chosen.{chosen_value}
use Rattle.asn_coding.specs.Scopes.{PlaceAnswer}
use Rattle.asn_coding.proofs.ByPlace.{choice_by_place}
use Rattle.asn_traits.proofs.alternative.read_choice.Goals as goal

pub returns-in-Ok : goal.returns-in-Ok
returns-in-Ok g c =
    let alts = g.T.ChoicePayload.alternatives in
    let added = g.T.ChoicePayload.additions in
    let value : g.row.T.Denot → Value = λ x. chosen_value (g.T.ChoicePayload.chosen x) in
    let mid = g.D.Decoder.pending c.open_choice.new.self in
    let after = g.D.Decoder.pending c.read_alternative.new.decoder in
    choice_by_place _ alts added value _ mid after _ c.in-Ok.place _ c.read_alternative.result (names-numbered 0 _ ∙ c.listed_names-names.ensures) (sym (length-map c.listed_names-names.result.now _) ∙ ap length c.listed_names-names.ensures) c.in-Ok.ensures
    (subst (λ k. PlaceAnswer g.D.Decoder.notation (all_alternatives alts added) value k mid c.read_alternative.result after) c.unwrap_or.ensures c.read_alternative.ensures)
