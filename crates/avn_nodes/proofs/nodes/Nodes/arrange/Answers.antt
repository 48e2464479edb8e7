use Rattle.std.proofs.Common.{◌≡◌, ◌+◌, ◌<◌, ◌≤◌, ◌++◌, List, length, take, map, string_bytes, arith, get_or, ap, sym, ◌∙◌, refl, ◌^◌, length-append, length-take-le}
use Rattle.std.specs.Prelude.{slice_range}
use Rattle.avn_nodes.specs.NodeRanges.{moved_node, view_of}
use Rattle.avn_nodes.specs.NodeLists.{NodeList}
use Rattle.std.proofs.lemmas.List.{length-map}
use Rattle.avn_nodes.proofs.Moving.{raw_slot, moved_next, arranged, arranged_within}
use Rattle.avn_nodes.specs.declared.nodes.Node.{Node}
use Rattle.avn_nodes.proofs.nodes.Nodes.arrange.Goals as goal

pub slice_bounds-push_moved-count : goal.slice_bounds-push_moved-count
slice_bounds-push_moved-count c =
    let i = get_or c.args.order.now c.loop-node.node-index 0 in
    let h = c.requires.subtrees c.loop-node.node-index 0 c.loop-node-test.true in
    let k = raw_slot (string_bytes c.self.inside.text) c.self.inside.octets.items c.self.inside.arcs.items c.self.inside.nodes.items c.args.self.now c.self.inside.name c.self.inside.word i c.index.result.now c.self.view_is h c.index.ensures in
    omega (arith, k.order)

pub slice_bounds-push_moved-start : goal.slice_bounds-push_moved-start
slice_bounds-push_moved-start c =
    let i = get_or c.args.order.now c.loop-node.node-index 0 in
    let h = c.requires.subtrees c.loop-node.node-index 0 c.loop-node-test.true in
    let k = raw_slot (string_bytes c.self.inside.text) c.self.inside.octets.items c.self.inside.arcs.items c.self.inside.nodes.items c.args.self.now c.self.inside.name c.self.inside.word i c.index.result.now c.self.view_is h c.index.ensures in
    omega (arith, k.order)

pub slice_bounds-push_moved-end : goal.slice_bounds-push_moved-end
slice_bounds-push_moved-end c =
    let i = get_or c.args.order.now c.loop-node.node-index 0 in
    let h = c.requires.subtrees c.loop-node.node-index 0 c.loop-node-test.true in
    let k = raw_slot (string_bytes c.self.inside.text) c.self.inside.octets.items c.self.inside.arcs.items c.self.inside.nodes.items c.args.self.now c.self.inside.name c.self.inside.word i c.index.result.now c.self.view_is h c.index.ensures in
    let long : length c.deref.result.now ≡ length c.self.inside.nodes.items = ap (λ (x : List Node). length x) c.deref.ensures.value in
    omega (arith, k.within, long)

pub loop-node-preserved : goal.loop-node-preserved
loop-node-preserved c =
    let i = get_or c.args.order.now c.loop-node.node-index 0 in
    let h = c.requires.subtrees c.loop-node.node-index 0 c.loop-node-test.true in
    let to : c.args.place + c.len.result ≡ c.args.place + length c.loop-node.moved.items = omega (arith, c.len.ensures, c.loop-node.moved.ok.0) in
    let moved : c.push_moved.new.moved.items ≡ c.loop-node.moved.items ++ map (moved_node i (c.args.place + c.len.result)) (slice_range c.self.inside.nodes.items i c.index.result.now.end) =
    c.in_ok-push_moved.ensures ∙ ap (λ x. c.loop-node.moved.items ++ map (moved_node i (c.args.place + c.len.result)) (slice_range x i c.index.result.now.end)) c.deref.ensures.value in
    moved_next (string_bytes c.self.inside.text) c.self.inside.octets.items c.self.inside.arcs.items c.self.inside.nodes.items c.loop-node.moved.items c.push_moved.new.moved.items c.args.self.now c.self.inside.name c.self.inside.word c.args.place
    (c.args.place + c.len.result) i c.loop-node.node-index c.index.result.now c.args.order.now c.self.view_is c.self.invariant.0 h c.index.ensures to c.loop-node.invariant moved c.loop-node-test.true refl

pub invariant_of-self-2 : goal.invariant_of-self-2
invariant_of-self-2 c =
    let e : c.append.new.self.items ≡ take c.args.place c.self.inside.nodes.items ++ c.loop-node.moved.items = c.in_ok-append.ensures.items ∙ ap (λ x. x ++ c.loop-node.moved.items) c.truncate.ensures.items in
    let long : length c.args.self.now.nodes ≡ length c.self.inside.nodes.items =
    sym (ap (λ (s : NodeList). length s.nodes) c.self.view_is) ∙ length-map c.self.inside.nodes.items (view_of (string_bytes c.self.inside.text) c.self.inside.octets.items c.self.inside.arcs.items) in
    let few : c.args.place ≤ length c.self.inside.nodes.items = omega (arith, c.requires.within, long) in
    let short : length c.append.new.self.items < 2 ^ 32 =
    omega (arith, ap (λ (x : List Node). length x) e, length-append (take c.args.place c.self.inside.nodes.items) c.loop-node.moved.items, length-take-le c.args.place c.self.inside.nodes.items few, c.if-place-len-gt-GREATEST.false, c.len-2.ensures, c.loop-node.moved.ok.0) in (
      arranged_within (string_bytes c.self.inside.text) c.self.inside.octets.items c.self.inside.arcs.items c.self.inside.nodes.items c.loop-node.moved.items c.append.new.self.items c.args.place (take c.loop-node.node-index c.args.order.now) e c.loop-node.invariant c.self.invariant.0,
      c.self.invariant.1,
      short,
    )

pub returns : goal.returns
returns c =
    let e : c.append.new.self.items ≡ take c.args.place c.self.inside.nodes.items ++ c.loop-node.moved.items = c.in_ok-append.ensures.items ∙ ap (λ x. x ++ c.loop-node.moved.items) c.truncate.ensures.items in
    arranged (string_bytes c.self.inside.text) c.self.inside.octets.items c.self.inside.arcs.items c.self.inside.nodes.items c.loop-node.moved.items c.append.new.self.items c.args.place c.loop-node.node-index c.args.order.now c.args.self.now c.self.inside.name c.self.inside.word c.self.view_is e c.loop-node.invariant c.loop-node-test.false
