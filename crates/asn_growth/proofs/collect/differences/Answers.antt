use Rattle.std.proofs.Common.{◌≡◌, ◌++◌, ap, sym, ◌∙◌, subst}
use Rattle.asn_model.specs.ShapeView.{shape_view}
use Rattle.asn_growth.specs.Differences.{Ascends, differences_of}
use Rattle.asn_growth.specs.Parts.{node_count}
use Rattle.asn_growth.proofs.Growing.{grown-none, no-difference}
use Rattle.asn_growth.proofs.Ordered.{all-below, in-order}
use Rattle.asn_growth.proofs.collect.differences.Goals as goal

pub returns-clause-none : goal.returns-clause-none
returns-clause-none c =
    let s = shape_view c.args.old.now in
    let r = shape_view c.args.new.now in
    let e : c.add_differences.new.found.items ≡ differences_of s r 0 = c.in_ok-add_differences.ensures.1 ∙ ap (λ l. l ++ differences_of s r 0) c.new-found.ensures.items in
    (λ k. no-difference s r 0 (sym e ∙ k), λ g. e ∙ grown-none 0 g)

pub returns-clause-in_order : goal.returns-clause-in_order
returns-clause-in_order c =
    let s = shape_view c.args.old.now in
    let r = shape_view c.args.new.now in
    let e : c.add_differences.new.found.items ≡ differences_of s r 0 = c.in_ok-add_differences.ensures.1 ∙ ap (λ l. l ++ differences_of s r 0) c.new-found.ensures.items in
    subst (Ascends 0 (node_count s)) (sym e) (in-order s r)

pub returns-clause-within : goal.returns-clause-within
returns-clause-within c =
    let s = shape_view c.args.old.now in
    let r = shape_view c.args.new.now in
    let e : c.add_differences.new.found.items ≡ differences_of s r 0 = c.in_ok-add_differences.ensures.1 ∙ ap (λ l. l ++ differences_of s r 0) c.new-found.ensures.items in
    all-below c.add_differences.new.found.items 0 (node_count s) (subst (Ascends 0 (node_count s)) (sym e) (in-order s r))
