-- Items that were read, and what may follow them.
use Rattle.std.proofs.Common.{◌≡◌, ℕ, List, [], ◌++◌, ◌≤◌, length}
use Rattle.avn_grammar.specs.Depth.{ItemsExceedDepth}
use Rattle.avn_grammar.specs.Grammar.{Item, ItemsParse}
use Rattle.avn_value.specs.Gathering.{Holds}
use Rattle.avn_nodes.specs.Preorder.{items_preorder}
use Rattle.avn_nodes.specs.NodeLists.{NodeList, extended}
use Rattle.avn_value.specs.declared.brace_items.BraceItems.{BraceItems}

pub record Going (limit m : ℕ) (start now : List ℕ) (g : BraceItems) (opened nodes : NodeList) : Type 0 where
  pub before : List Item
  pub holds : Holds g before
  pub grew : nodes ≡ extended opened (items_preorder before)
  pub completes : (xs : List Item) (rest : List ℕ) → ItemsParse limit m before now xs rest → ItemsParse limit m [] start (before ++ xs) rest
  pub only : (ys : List Item) (rest : List ℕ) → ItemsParse limit m [] start ys rest → (xs : List Item) × (ys ≡ before ++ xs) × ItemsParse limit m before now xs rest
  pub deeper : ItemsExceedDepth limit m before now → ItemsExceedDepth limit m [] start
  pub shallower : ItemsExceedDepth limit m [] start → ItemsExceedDepth limit m before now
  pub shorter : length now ≤ length start
