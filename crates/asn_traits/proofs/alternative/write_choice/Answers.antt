use Rattle.std.proofs.Common.{ap, length, map, subst, sym, ℕ, List, Some, ◌≡◌, ◌<◌, ◌∙◌}
use Rattle.std.proofs.lemmas.List.{length-map}
use Rattle.std.proofs.lemmas.Result.{on_ok_weaker}
use Rattle.std.specs.Borrow.{Bor}
use Rattle.std.specs.List.{slice_get}
use Rattle.asn_model.specs.Shape.{all_alternatives, identifiers}
use Rattle.asn_coding.specs.Writing.{Maps, as_choice, close}
use Rattle.asn_coding.proofs.ByPlace.{choice_written, name_there, place_listed}
use Rattle.asn_traits.proofs.alternative.write_choice.Goals as goal

pub identifier-requires : goal.identifier-requires
identifier-requires g c =
    let all = all_alternatives g.T.ChoicePayload.alternatives g.T.ChoicePayload.additions in
    let x = g.T.ChoicePayload.chosen c.args.value.now in
    let names = c.listed_names.result.now in
    let count : length names ≡ length (identifiers all) = sym (length-map names (λ (s : Bor (List ℕ)). s.now)) ∙ ap length c.listed_names.ensures in
    let below : x.place < length names = subst (λ m. x.place < m) (sym count) (place_listed all x.place (x.name, x.shape) (g.met.T.ChoicePayload.is_chosen c.args.value.now)) in
    subst (λ k. k < length names) (sym c.alternative_place.ensures) below

pub returns-clause-written : goal.returns-clause-written
returns-clause-written g c =
    let alts = g.T.ChoicePayload.alternatives in
    let added = g.T.ChoicePayload.additions in
    let all = all_alternatives alts added in
    let x = g.T.ChoicePayload.chosen c.args.value.now in
    let there = g.met.T.ChoicePayload.is_chosen c.args.value.now in
    let names = map (λ (s : Bor (List ℕ)). s.now) c.listed_names.result.now in
    let found : slice_get names x.place ≡ Some c.identifier.result.now = subst (λ k. slice_get names k ≡ Some c.identifier.result.now) c.alternative_place.ensures c.identifier.ensures in
    let name = name_there all x.place (x.name, x.shape) names c.identifier.result.now c.listed_names.ensures there found in
    on_ok_weaker c.close_choice.result (λ w.
    choice_written alts added x.place there c.in_ok-open_frame.ensures.opened c.in_ok-write_alternative.ensures.written (subst (λ i. Maps g.E.Encoder.holds (close (as_choice i)) c.write_alternative.new.encoder c.close_choice.new.self) name w))
    c.close_choice.ensures.closed
