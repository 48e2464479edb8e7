-- Lists of trees, and of named trees, as what a value of the notation has.
use Rattle.std.specs.Prelude.{List, [], ◌∷◌, Option, Some, None, string_bytes}
use Rattle.std.specs.declared.string.String.{String}
use Rattle.avn_grammar.specs.Tree.{Tree, Trees, Fields, no_trees, tree, no_fields, field, absent}

-- Trees as the values of a list.
abbrev pub trees_in : List Tree → Trees
trees_in [] = no_trees
trees_in (t ∷ ts) = tree t (trees_in ts)

-- Names, each with a tree or with none, as the fields of a sequence.
abbrev pub fields_in : {A : Type 0} → List (String A × Option Tree) → Fields
fields_in [] = no_fields
fields_in ((name, Some t) ∷ fs) = field (string_bytes name) t (fields_in fs)
fields_in ((name, None) ∷ fs) = absent (string_bytes name) (fields_in fs)
