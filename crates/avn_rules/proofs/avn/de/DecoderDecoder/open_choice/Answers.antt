use Rattle.std.proofs.Common.{◌≡◌, ap, sym, subst, ◌∙◌, Some, None}
use Rattle.std.proofs.lemmas.Result.{err_from_is_err_and}
use Rattle.asn_fault.specs.Failure.{failure_of}
use Rattle.asn_coding.specs.Answer.{RefusesLeaf}
use Rattle.asn_traits.specs.Leaf.{LeafFailure}
use Rattle.asn_traits.specs.Notation.{Notation}
use Rattle.asn_traits.specs.Shape.{Shape}
use Rattle.asn_traits.specs.Tree.{as_choice}
use Rattle.avn_nodes.specs.Preorder.{tree_at}
use Rattle.avn_rules.specs.Pending.{DecoderView, value_at}
use Rattle.avn_rules.proofs.Opened.{choice_opened, choice_refused, choice_unnamed}
use Rattle.avn_rules.proofs.Walks.{choice_parts, no_choice_here}
use Rattle.asn_model.specs.declared.words.TheConstants.{AVN_CHOICE}
use Rattle.avn_rules.proofs.avn.de.DecoderDecoder.open_choice.Goals as goal

pub returns-in_err-node : goal.returns-in_err-node
returns-in_err-node g c =
    let p = err_from_is_err_and c.from_residual.result c.from_residual.ensures.1 in
    rw (p.1, p.2) (λ alts added. c.in_err-node.ensures (Shape.choice alts added))

pub returns-in_default : goal.returns-in_default
returns-in_default g c =
    let node = c.in_ok-node.node in
    let root : c.self.inside.table ≡ c.take.new.self.root = ap (λ (d : DecoderView). d.root) c.self.view_is in
    let none = no_choice_here (tree_at c.self.inside.table node) (λ e. c.in_default.not-Choice (c.kind.ensures ∙ e)) in
    choice_refused _ _ node _ c.in_ok-node.ensures (subst (λ t. as_choice Notation.avn (value_at t node) ≡ None) root none) (subst (λ t. RefusesLeaf Notation.avn (value_at t node) (LeafFailure.mismatch AVN_CHOICE.now) (failure_of c.mismatch.result)) root c.mismatch.ensures)

pub returns-in_ok-put-in-Some : goal.returns-in_ok-put-in-Some
returns-in_ok-put-in-Some g c =
    let node = c.in_ok-node.node in
    let root : c.self.inside.table ≡ c.take.new.self.root = ap (λ (d : DecoderView). d.root) c.self.view_is in
    let table = c.self.inside.table in
    let payload = c.payload-payload.result in
    let name = c.name.result.now in
    let parts = subst (λ t. as_choice Notation.avn (value_at t node) ≡ Some (Some (name, value_at t payload))) root (choice_parts table node payload name c.payload-payload.ensures.choice c.payload-payload.ensures.present c.name.ensures) in
    choice_opened _ _ _ node payload c.in-Some.place _ name c.in_ok-node.ensures parts (sym c.in-Some.ensures.is) c.in_ok-put-in-Some.ensures

pub returns-in_ok-put-in-None : goal.returns-in_ok-put-in-None
returns-in_ok-put-in-None g c =
    let node = c.in_ok-node.node in
    let root : c.self.inside.table ≡ c.take.new.self.root = ap (λ (d : DecoderView). d.root) c.self.view_is in
    let table = c.self.inside.table in
    let payload = c.payload-payload.result in
    let name = c.name.result.now in
    let parts = subst (λ t. as_choice Notation.avn (value_at t node) ≡ Some (Some (name, value_at t payload))) root (choice_parts table node payload name c.payload-payload.ensures.choice c.payload-payload.ensures.present c.name.ensures) in
    choice_unnamed _ _ _ node payload _ name c.in_ok-node.ensures parts (sym c.in-None.ensures.is) c.in_ok-put-in-None.ensures
