-- Nodes that get a name.
use Rattle.std.proofs.Common.{◌≡◌, ℕ, ◌<◌, List, [], ◌∷◌, ◌++◌, length, drop, get_or, set, map, sym, ap, subst, ◌∙◌}
use Rattle.std.specs.Prelude.{slice_range}
use Rattle.std.specs.List.{All}
use Rattle.std.proofs.lemmas.List.{map-set, set_at, get_or_at, get_or-map}
use Rattle.std.proofs.lemmas.List.Elements.{All-set}
use Rattle.avn_nodes.specs.NodeViews.{NodeView}
use Rattle.avn_nodes.specs.NodeLists.{NodeList}
use Rattle.avn_nodes.specs.NodeRanges.{HasRanges, IsCharRange, view_of, node_list}
use Rattle.avn_nodes.specs.declared.nodes.Node.{Node}
use Rattle.avn_nodes.proofs.NodeForms.{list_as}
use Rattle.avn_nodes.proofs.RangesGrow.{no-part, no-rest, rest-part}

-- A node whose name is a range.
abbrev pub renamed : Node → ℕ → ℕ → Node
renamed n a b = record { kind = n.kind; name_start = a; name_end = b; start = n.start; bound = n.bound; bit_length = n.bit_length; end = n.end }

module _ (xs ys zs : List ℕ) where
  pub renamed_within : (ns : List Node) (i : ℕ) (n : Node) (a b : ℕ) → n ≡ get_or ns i n → i < length ns → IsCharRange xs a b → All (HasRanges xs ys zs) ns → All (HasRanges xs ys zs) (set ns i (renamed n a b))
  renamed_within ns i n a b e l r all =
      let P : Node → Type 0 = HasRanges xs ys zs in
      let w = subst P (sym e) (all i n l) in
      All-set P ns i (renamed n a b) (record { name = r; text = w.text; octets = w.octets; arcs = w.arcs }) all

  renamed_views : (ns : List Node) (i : ℕ) (n : Node) (a b : ℕ) (before after : List NodeView) (d : NodeView) → n ≡ get_or ns i n → i < length ns → map (view_of xs ys zs) ns ≡ before ++ (d ∷ after) → length before ≡ i
      → map (view_of xs ys zs) (set ns i (renamed n a b)) ≡ before ++ (record d { name = slice_range xs a b } ∷ after)
  renamed_views ns i n a b before after d e l f g =
      let same : view_of xs ys zs n ≡ d = ap (view_of xs ys zs) e ∙ sym (get_or-map (view_of xs ys zs) ns i n d l) ∙ ap (λ cs. get_or cs i d) f ∙ get_or_at before d after d i g in
      map-set (view_of xs ys zs) ns i (renamed n a b) ∙ ap (λ cs. set cs i (view_of xs ys zs (renamed n a b))) f ∙ set_at before d after (view_of xs ys zs (renamed n a b)) i g
      ∙ ap (λ (x : NodeView). before ++ (record x { name = slice_range xs a b } ∷ after)) same

  -- The word is the name of the node now, and none is pending.
  pub named_listed : (ns : List Node) (s : NodeList) (i m a b : ℕ) (n : Node) (before after : List NodeView) (d : NodeView) → node_list xs ys zs ns a b ≡ s → n ≡ get_or ns i n → i < length ns → m ≡ length xs → s.nodes ≡ before ++ (d ∷ after) → length before ≡ i
      → node_list xs ys zs (set ns i (renamed n b m)) m m ≡ record { nodes = before ++ (record d { name = s.word } ∷ after); name = []; word = [] }
  named_listed ns s i m a b n before after d v e l h f g =
      let nodes : map (view_of xs ys zs) ns ≡ before ++ (d ∷ after) = ap (λ (x : NodeList). x.nodes) v ∙ f in
      let word : slice_range xs b m ≡ s.word = rest-part xs b m h ∙ ap (λ (x : NodeList). x.word) v in
      ap (λ cs. list_as cs (slice_range xs m m) (drop m xs)) (renamed_views ns i n b m before after d e l nodes g)
      ∙ ap (λ x. list_as (before ++ (record d { name = x } ∷ after)) (slice_range xs m m) (drop m xs)) word
      ∙ ap (λ x. list_as (before ++ (record d { name = s.word } ∷ after)) x (drop m xs)) (no-part xs m)
      ∙ ap (list_as (before ++ (record d { name = s.word } ∷ after)) []) (no-rest xs m h)
