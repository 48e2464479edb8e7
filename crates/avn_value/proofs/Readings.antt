-- Values and items that were read into nodes.
use Rattle.std.proofs.Common.{◌≡◌, ℕ, ◌≤◌, List, [], Bool, cond, Result, Ok, Err, IfOk, ap, subst, ◌∙◌}
use Rattle.avn_grammar.specs.Chars.{skip}
use Rattle.avn_grammar.specs.Grammar.{Item, bare, is_integer, Token, Parses, token}
use Rattle.avn_grammar.specs.Tree.{Tree}
use Rattle.avn_value.specs.ReadNodes.{IsRead, IsItemRead}
use Rattle.avn_nodes.specs.Preorder.{preorder}
use Rattle.avn_nodes.specs.NodeLists.{NodeList, extended}
use Rattle.avn_value.specs.declared.brace_items.ItemKind.{ItemKind}
use Rattle.avn_value.specs.declared.brace_items.ItemKind.TheVariants as kind

pub value_read : {E : Type 0} (limit level : ℕ) (u w n : List ℕ) → w ≡ skip u → (s then : NodeList) (r : Result Bool E) → level ≤ limit → IfOk r (IsRead (λ t. Token w t n) s then) → IfOk r (IsRead (λ t. Parses limit level u t n) s then)
value_read limit level u w n at s then (Err e) le k = tt
value_read limit level u w n at s then (Ok i) le k = (k.0, token le (subst (λ y. Token y k.0 n) at k.1), k.2, k.3)

pub item_read : {P : Item → Type 0} (s then : NodeList) (e : ItemKind) (t : Tree) (i : Bool) → s.name ≡ [] → e ≡ cond i kind.Integer kind.Value → i ≡ is_integer t → then ≡ extended s (preorder s.name t) → P (bare t) → IsItemRead P s then e
item_read s then e t i n f g h p = (bare t, p, f ∙ ap (λ b. cond b kind.Integer kind.Value) g, h ∙ ap (λ w. extended s (preorder w t)) n)
