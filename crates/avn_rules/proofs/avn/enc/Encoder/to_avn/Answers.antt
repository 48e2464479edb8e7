use Rattle.std.proofs.Common.{◌≡◌, Some, None, ap, sym, ◌∙◌, inr, subst, MatchOption}
use Rattle.std.proofs.lemmas.Result.{IfOk-at_ok, IfOk-weaker}
use Rattle.asn_slots.specs.Slots.{last_present}
use Rattle.avn_frames.specs.Listing.{IsListOf, last_frame}
use Rattle.avn_rules.proofs.Roots.{last_held, none_held, slot_listed, tree_listed}
use Rattle.avn_rules.proofs.avn.enc.Encoder.to_avn.Goals as goal

pub from_nodes-table-requires : goal.from_nodes-table-requires
from_nodes-table-requires c =
    let last = last_present (last_frame c.args.self.frames) in
    tree_listed c.in-Some.nodes last (subst (λ o. MatchOption o (last ≡ None) (λ list. IsListOf list last)) c.in-Some.is (IfOk-at_ok _ c.in_ok-nodes.ensures.same c.into_last.ensures))

pub returns-in-Some-clause-tree : goal.returns-in-Some-clause-tree
returns-in-Some-clause-tree c =
    let last = last_present (last_frame c.args.self.frames) in
    let listed = slot_listed c.in-Some.nodes last (subst (λ o. MatchOption o (last ≡ None) (λ list. IsListOf list last)) c.in-Some.is (IfOk-at_ok _ c.in_ok-nodes.ensures.same c.into_last.ensures)) in
    IfOk-weaker c.in_avn-in-Some.result _ _ (λ t same f fs held. sym (last_held c.args.self.frames f fs held) ∙ listed ∙ ap Some (sym c.from_nodes-table.ensures) ∙ IfOk-at_ok _ same c.to_value.ensures) c.in_avn-in-Some.ensures.same

pub returns-clause-refused : goal.returns-clause-refused
returns-clause-refused c =
    let last = last_present (last_frame c.args.self.frames) in
    inr (c.no_root_value.ensures.kind, λ f fs held. none_held c.args.self.frames f fs (subst (λ o. MatchOption o (last ≡ None) (λ list. IsListOf list last)) c.in-None.is (IfOk-at_ok _ c.in_ok-nodes.ensures.same c.into_last.ensures)) held)
