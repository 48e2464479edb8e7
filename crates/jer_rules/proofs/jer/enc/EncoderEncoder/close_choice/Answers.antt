use Rattle.std.proofs.Common.{ap, Some, None, ◌∙◌}
use Rattle.std.specs.Prelude.{option_map}
use Rattle.std.proofs.lemmas.Result.{IfOk-at_ok, on_ok_weaker}
use Rattle.jer_values.specs.Views.{data_of}
use Rattle.asn_names.specs.Text.{name_text}
use Rattle.asn_slots.proofs.Trees.{frame_closed}
use Rattle.asn_traits.specs.Canonical.{jer_data}
use Rattle.asn_coding.specs.Writing.{as_choice}
use Rattle.jer_rules.specs.Holding.{one_member}
use Rattle.jer_rules.proofs.Building.{choice_built}
use Rattle.jer_rules.proofs.jer.enc.EncoderEncoder.close_choice.Goals as goal

pub returns-in_default-clause-closed : goal.returns-in_default-clause-closed
returns-in_default-clause-closed c =
    let id = name_text c.args.identifier in
    let built = choice_built None _ id (ap (λ o. option_map (one_member id) (option_map data_of o)) c.in_default.ensures.2) in
    on_ok_weaker c.put.result (λ a. frame_closed jer_data data_of (as_choice id) _ _ _ _ _ c.in_default.ensures.1 built a) c.put.ensures.added

pub returns-clause-closed : goal.returns-clause-closed
returns-clause-closed c =
    let id = name_text c.args.identifier in
    let built = choice_built (Some c.in_ok-choice.choice) _ id (ap Some (IfOk-at_ok _ c.in_ok-choice.ensures.same c.one_member.ensures ∙ ap (λ n. one_member n (data_of c.in-Some.payload)) (IfOk-at_ok _ c.in_ok-name.ensures.same c.member_name.ensures)) ∙ ap (λ o. option_map (one_member id) (option_map data_of o)) c.in-Some.ensures.2) in
    on_ok_weaker c.put-2.result (λ a. frame_closed jer_data data_of (as_choice id) _ _ _ _ _ c.in-Some.ensures.1 built a) c.put-2.ensures.added
