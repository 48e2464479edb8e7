use Rattle.std.proofs.Common.{◌≡◌, ap, sym, subst, ◌∙◌, length, map, Some, false, is_some, arith}
use Rattle.std.proofs.lemmas.Result.{err_from_is_err_and}
use Rattle.asn_fault.specs.Failure.{failure_of}
use Rattle.asn_coding.specs.Answer.{RefusesLeaf}
use Rattle.asn_traits.specs.Notation.{Notation}
use Rattle.asn_coding.specs.Opening.{list_shape}
use Rattle.asn_traits.specs.ShapeView.{kind_view}
use Rattle.asn_slots.specs.Trees.{trees_of}
use Rattle.asn_traits.specs.Tree.{as_list}
use Rattle.avn_rules.specs.Parts.{list_failure}
use Rattle.avn_rules.specs.Pending.{DecoderView, value_at}
use Rattle.avn_rules.proofs.Opened.{list_opened, list_refused}
use Rattle.avn_rules.proofs.avn.de.DecoderDecoder.open_list.Goals as goal

pub returns-in_err-node : goal.returns-in_err-node
returns-in_err-node c =
    let p = err_from_is_err_and c.from_residual.result c.from_residual.ensures.1 in
    rw (p.1, p.2) (λ s. c.in_err-node.ensures (list_shape (kind_view c.args.kind) s))

pub returns-then-not-is_list : goal.returns-then-not-is_list
returns-then-not-is_list c =
    let node = c.in_ok-node.node in
    let root : c.self.inside.table ≡ c.take.new.self.root = ap (λ (d : DecoderView). d.root) c.self.view_is in
    list_refused (kind_view c.args.kind) _ _ node _ c.in_ok-node.ensures (subst (λ t. is_some (as_list Notation.avn (value_at t node)) ≡ false) root (sym c.is_list.ensures ∙ c.if-not-is_list.true)) (subst (λ t. RefusesLeaf Notation.avn (value_at t node) (list_failure (kind_view c.args.kind)) (failure_of c.mismatch.result)) root (rw c.needed_list.ensures at c.mismatch.ensures))

pub returns : goal.returns
returns c =
    let node = c.in_ok-node.node in
    let root : c.self.inside.table ≡ c.take.new.self.root = ap (λ (d : DecoderView). d.root) c.self.view_is in
    let items = c.in-Ok.items.items in
    let count : c.len-count.result ≡ length items = omega (arith, c.len-count.ensures, c.in-Ok.items.ok.0) in
    list_opened (kind_view c.args.kind) _ _ _ node c.len-count.result items c.in_ok-node.ensures (subst (λ t. as_list Notation.avn (value_at t node) ≡ Some (trees_of (value_at t) (map Some items))) root c.in-Ok.ensures.items) c.in_ok-put_items.ensures count
