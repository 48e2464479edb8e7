-- The tree of a value, by its variant, and numbers by their parts.
use Rattle.std.proofs.Common.{◌≡◌, rules, Bool}
use Rattle.avn_grammar.specs.Tree.{boolean, null}
use Rattle.avn_value.specs.View.{tree_of}
use Rattle.avn_value.specs.declared.value.AvnValue.{the_lemmas}
use Rattle.avn_value.specs.declared.value.AvnValue as avn

pub view-Boolean : (b : Bool) → tree_of (avn.Boolean b) ≡ boolean b
view-Boolean b = search (rules, the_lemmas)

pub view-Null : tree_of avn.Null ≡ null
view-Null = search (rules, the_lemmas)
