use Rattle.std.proofs.Common.{◌≡◌, take, map, ap, ◌∙◌, arith}
use Rattle.std.specs.Fmt.{decimal}
use Rattle.std.proofs.lemmas.List.{take_all}
use Rattle.avn_grammar.specs.Tree.{integer}
use Rattle.avn_value.specs.View.{tree_of}
use Rattle.avn_nodes.specs.TreeLists.{trees_in}
use Rattle.avn_value.specs.declared.value.AvnValue.{Integer}
use Rattle.avn_value.proofs.Views.{view-Integer}
use Rattle.avn_value.proofs.Joins.{map-next, arcs-list}
use Rattle.avn_value.proofs.normal.arc_integers.Goals as goal

pub loop-arc-preserved : goal.loop-arc-preserved
loop-arc-preserved c =
    map-next tree_of (λ a. integer (decimal a)) c.loop-arc.integers.items c.push.new.self.items c.deref-arc-items.result.now c.loop-arc.arc-index (Integer c.in_ok-text.text) 0 c.loop-arc-test.true c.loop-arc.invariant c.in_ok-push.ensures.items
    (view-Integer c.in_ok-text.text ∙ ap integer c.in_ok-text.ensures.ok)

pub returns : goal.returns
returns c =
    let all : take c.loop-arc.arc-index c.deref-arc-items.result.now ≡ c.args.arcs.now.items = take_all c.loop-arc.arc-index c.deref-arc-items.result.now (omega arith) ∙ c.deref-arc-items.ensures.value in
    ap trees_in (c.loop-arc.invariant ∙ ap (map (λ a. integer (decimal a))) all) ∙ arcs-list c.args.arcs.now.items
