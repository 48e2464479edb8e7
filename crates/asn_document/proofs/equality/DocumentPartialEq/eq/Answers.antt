use Rattle.std.proofs.Common.{◌≡◌, true, sym, ap, ◌∙◌, subst}
use Rattle.asn_document.specs.Equality.{same_tree}
use Rattle.asn_document.specs.SameTrees.{trees-equal, tree-same}
use Rattle.serde_json.specs.View.{view}
use Rattle.asn_document.proofs.equality.DocumentPartialEq.eq.Goals as goal

pub returns-clause-same : goal.returns-clause-same
returns-clause-same c =
    let left = view c.value.result.now in
    let right = view c.value-2.result.now in
    let this = ap view c.value.ensures.is in
    let that = ap view c.value-2.ensures.is in (
      λ h. sym this ∙ trees-equal left right (sym c.is_same_tree.ensures ∙ h) ∙ that,
      λ h. c.is_same_tree.ensures ∙ subst (λ e. same_tree left e ≡ true) (this ∙ h ∙ sym that) (tree-same left c.value.ensures.whole),
    )
