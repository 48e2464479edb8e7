-- The items of braces, as far as the reader knows of them.
use Rattle.std.specs.Prelude.{◌≡◌, true, false, List, Some}
use Rattle.avn_grammar.specs.Tree.{Tree}
use Rattle.avn_grammar.specs.Grammar.{Item, AllIntegers, AllNamed, AllBare, AreBraceItems}
use Rattle.avn_nodes.specs.NodeViews.{kind_of}
use Rattle.avn_nodes.specs.declared.node_kind.NodeKind.{NodeKind}
use Rattle.avn_value.specs.declared.brace_items.BraceItems.{BraceItems}

-- The flags say what the items are.
pub record Holds (g : BraceItems) (items : List Item) : Type 0 where
  pub named : g.named ≡ true → AllBare items → ⊥
  pub only_bare : g.named ≡ false → AllBare items
  pub bare : g.bare ≡ true → AllNamed items → ⊥
  pub only_named : g.bare ≡ false → AllNamed items
  pub integers : g.integers ≡ true → AllIntegers items
  pub only_integers : AllIntegers items → g.integers ≡ true

-- The items make a tree of the kind.
abbrev pub MakesKind : List Item → NodeKind → Type 0
MakesKind items k = (t : Tree) × AreBraceItems items t × (k ≡ kind_of (Some t))
