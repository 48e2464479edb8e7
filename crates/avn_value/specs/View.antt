-- Values of the notation as trees.
use Rattle.std.specs.Prelude.{map, option_map, List, Option, string_bytes}
use Rattle.std.specs.declared.string.String.{String}
use Rattle.avn_grammar.specs.Tree.{Tree, Trees, Fields, boolean, null, integer, real, octet_string, bit_string, oid, enumerated, char_string, sequence, sequence_of, choice}
use Rattle.avn_nodes.specs.TreeLists.{trees_in, fields_in}
use Rattle.avn_value.specs.declared.value.AvnValue.{AvnValue, fold-AvnValue}
use Rattle.avn_value.specs.declared.value.AvnValue.TheOpen.{AvnValue-F}

-- The tree of a value, of the trees of the values in it.
abbrev pub view_step : AvnValue-F Tree → Tree
view_step (AvnValue-F.Boolean b) = boolean b
view_step AvnValue-F.Null = null
view_step (AvnValue-F.Integer s) = integer (string_bytes s)
view_step (AvnValue-F.Real s) = real (string_bytes s)
view_step (AvnValue-F.OctetString v) = octet_string v.items
view_step (AvnValue-F.BitString v n) = bit_string v.items n
view_step (AvnValue-F.Oid v) = oid v.items
view_step (AvnValue-F.Enumerated s) = enumerated (string_bytes s)
view_step (AvnValue-F.CharString s) = char_string (string_bytes s)
view_step (AvnValue-F.Sequence v) = sequence (fields_in v.items)
view_step (AvnValue-F.SequenceOf v) = sequence_of (trees_in v.items)
view_step (AvnValue-F.Choice i t) = choice (string_bytes i) t.value

-- The tree of a value.
abbrev pub tree_of : AvnValue → Tree
tree_of = fold-AvnValue Tree view_step

-- The trees of values.
abbrev pub list_trees : List AvnValue → Trees
list_trees xs = trees_in (map tree_of xs)

-- The fields of names, each with a value or with none.
abbrev pub fields_trees : {A : Type 0} → List (String A × Option AvnValue) → Fields
fields_trees xs = fields_in (map (λ f. (f.0, option_map tree_of f.1)) xs)
