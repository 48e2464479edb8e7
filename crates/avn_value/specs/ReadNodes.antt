-- What was read into nodes.
use Rattle.std.specs.Prelude.{◌≡◌, Bool, cond}
use Rattle.avn_grammar.specs.Tree.{Tree}
use Rattle.avn_grammar.specs.Grammar.{Item, named, bare, is_integer}
use Rattle.avn_nodes.specs.Preorder.{preorder, item_preorder}
use Rattle.avn_nodes.specs.NodeLists.{NodeList, extended}
use Rattle.avn_value.specs.declared.brace_items.ItemKind.{ItemKind}
use Rattle.avn_value.specs.declared.brace_items.ItemKind.TheVariants as kind

-- A tree of which the fact holds is in the nodes now, and the answer says whether it is an integer.
abbrev pub IsRead : (Tree → Type 0) → NodeList → NodeList → Bool → Type 0
IsRead P old new integer = (t : Tree) × P t × (integer ≡ is_integer t) × (new ≡ extended old (preorder old.name t))

-- What the reader of items has to know of an item.
abbrev pub kind_of_item : Item → ItemKind
kind_of_item (named id t) = kind.Named
kind_of_item (bare t) = cond (is_integer t) kind.Integer kind.Value

-- An item of which the fact holds is in the nodes now, and the answer is its kind.
abbrev pub IsItemRead : (Item → Type 0) → NodeList → NodeList → ItemKind → Type 0
IsItemRead P old new k = (x : Item) × P x × (k ≡ kind_of_item x) × (new ≡ extended old (item_preorder x))
