use Rattle.avn_nodes.specs.NodeLists.{NodeList, closed_node}
use Rattle.std.specs.Prelude.{slice_range}
use Rattle.std.proofs.Common.{◌≡◌, ◌<◌, ◌++◌, ◌∷◌, length, ℕ, ap, ◌∙◌, string_bytes, arith, map, drop}
use Rattle.std.proofs.lemmas.Grind.{common_steps}
use Rattle.avn_nodes.proofs.NodeForms.{list_as}
use Rattle.avn_nodes.proofs.RangesGrow.{closed_views, closed_within}
use Rattle.avn_nodes.specs.NodeRanges.{view_of}
use Rattle.avn_nodes.proofs.nodes.Nodes.close.Goals as goal

pub invariant_of-self : goal.invariant_of-self
invariant_of-self c =
    let l : c.args.place < length c.self.inside.nodes.items = grind (arith, common_steps) in
    (closed_within _ _ _ _ _ _ c.args.kind c.len-end.result c.index_mut-node.ensures.value l c.requires.plain c.self.invariant.0, c.self.invariant.1, grind (arith, common_steps))

pub returns : goal.returns
returns c = λ before after d e l.
    let i : c.args.place < length c.self.inside.nodes.items = grind (arith, common_steps) in
    let f : map (view_of (string_bytes c.self.inside.text) c.self.inside.octets.items c.self.inside.arcs.items) c.self.inside.nodes.items ≡ before ++ d ∷ after = ap (λ s. s.nodes) c.self.view_is ∙ e in
    let n : c.len-end.result ≡ length c.args.self.now.nodes = grind (arith, common_steps) in
    ap (λ cs. list_as cs (slice_range (string_bytes c.self.inside.text) c.self.inside.name c.self.inside.word) (drop c.self.inside.word (string_bytes c.self.inside.text)))
    (closed_views _ _ _ _ _ _ c.args.kind c.len-end.result before after d c.index_mut-node.ensures.value i c.requires.plain f l)
    ∙ ap (λ (n : ℕ). list_as (before ++ closed_node c.args.kind n d ∷ after) (slice_range (string_bytes c.self.inside.text) c.self.inside.name c.self.inside.word) (drop c.self.inside.word (string_bytes c.self.inside.text))) n
    ∙ ap (λ (s : NodeList). list_as (before ++ closed_node c.args.kind (length c.args.self.now.nodes) d ∷ after) s.name s.word) c.self.view_is
