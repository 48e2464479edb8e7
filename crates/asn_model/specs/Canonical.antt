-- The one tree and the one text that each notation writes for a value.
use Rattle.std.specs.Prelude.{ℕ, pos, Bool, List, [], ◌∷◌, length, Option, Some, None, codes}
use Rattle.std.specs.Fmt.{signed_decimal}
use Rattle.serde_json.specs.Data.{Data, Items, Members, put}
use Rattle.serde_json.specs.Find.{of_integer}
use Rattle.serde_json.specs.Written.{compact_text}
use Rattle.avn_grammar.specs.Tree.{Tree as AvnTree, Trees as AvnTrees, Fields as AvnFields}
use Rattle.hex.specs.Hex.{encode_upper}
use Rattle.avn_grammar.specs.Print.{print}
use Rattle.asn_strings.specs.Units.{text_of_units}
use Rattle.asn_times.specs.Written.{day_text, generalized_text, utc_text}
use Rattle.asn_core.specs.BitStrings.{padded}
use Rattle.asn_model.specs.Arcs.{dotted_text}
use Rattle.asn_model.specs.Notation.{Notation}
use Rattle.asn_model.specs.Sorting.{sort, by_text}
use Rattle.asn_model.specs.Tree.{Tree}
use Rattle.asn_model.specs.Value.{Value, Values, Slots}

-- The JSON value that JER writes for bits: the digits of their octets, and beside them the length where no size is fixed.
abbrev pub bits_data : Option ℕ → List Bool → Data
bits_data (Some size) bs = Data.string (encode_upper (padded bs))
bits_data None bs = Data.object (Members.member (codes "length") (Data.number (of_integer (pos (length bs)))) (Members.member (codes "value") (Data.string (encode_upper (padded bs))) Members.no_members))

-- The elements of a JSON array as a list.
abbrev pub json_list : Items → List Data
json_list Items.no_items = []
json_list (Items.item d ds) = d ∷ json_list ds

-- The JSON array with these elements.
abbrev pub json_items : List Data → Items
json_items [] = Items.no_items
json_items (d ∷ ds) = Items.item d (json_items ds)

-- The elements in byte order of their texts, repeats kept.
abbrev pub sorted_items : Items → Items
sorted_items ds = json_items (sort (by_text compact_text) (json_list ds))

abbrev mutual
  -- The JSON value that JER writes for a value.
  pub jer_data : Value → Data
  jer_data (Value.boolean b) = Data.boolean b
  jer_data (Value.int n) = Data.number (of_integer n)
  jer_data (Value.text t) = Data.string t
  jer_data (Value.units u) = Data.string (text_of_units u)
  jer_data (Value.utc n) = Data.string (utc_text n)
  jer_data (Value.gen n) = Data.string (generalized_text n)
  jer_data (Value.day n) = Data.string (day_text n)
  jer_data (Value.item i) = Data.string i
  jer_data (Value.octets o) = Data.string (encode_upper o)
  jer_data (Value.arcs a) = Data.string (dotted_text a)
  jer_data (Value.bits bs size) = bits_data size bs
  jer_data (Value.members ms) = Data.object (jer_members ms)
  jer_data (Value.list vs) = Data.array (jer_items vs)
  jer_data (Value.bag vs) = Data.array (sorted_items (jer_items vs))
  jer_data (Value.choice i v) = Data.object (Members.member i (jer_data v) Members.no_members)
  jer_data v = Data.null

  -- The elements of a JSON array.
  pub jer_items : Values → Items
  jer_items Values.no_values = Items.no_items
  jer_items (Values.value v vs) = Items.item (jer_data v) (jer_items vs)

  -- The members of a JSON object, which are in byte order of their names; absent ones are left out.
  pub jer_members : Slots → Members
  jer_members Slots.no_slots = Members.no_members
  jer_members (Slots.absent n ms) = jer_members ms
  jer_members (Slots.present n v ms) = put n (jer_data v) (jer_members ms)

-- The values of a list in braces as a list.
abbrev pub tree_list : AvnTrees → List AvnTree
tree_list AvnTrees.no_trees = []
tree_list (AvnTrees.tree t ts) = t ∷ tree_list ts

-- The list in braces with these values.
abbrev pub listed_trees : List AvnTree → AvnTrees
listed_trees [] = AvnTrees.no_trees
listed_trees (t ∷ ts) = AvnTrees.tree t (listed_trees ts)

-- The values in byte order of their texts, repeats kept.
abbrev pub sorted_trees : AvnTrees → AvnTrees
sorted_trees ts = listed_trees (sort (by_text (print 0)) (tree_list ts))

abbrev mutual
  -- The AVN value that AVN writes for a value.
  pub avn_tree : Value → AvnTree
  avn_tree (Value.boolean b) = AvnTree.boolean b
  avn_tree (Value.int n) = AvnTree.integer (signed_decimal n)
  avn_tree (Value.text t) = AvnTree.char_string t
  avn_tree (Value.units u) = AvnTree.char_string (text_of_units u)
  avn_tree (Value.utc n) = AvnTree.char_string (utc_text n)
  avn_tree (Value.gen n) = AvnTree.char_string (generalized_text n)
  avn_tree (Value.day n) = AvnTree.char_string (day_text n)
  avn_tree (Value.item i) = AvnTree.enumerated i
  avn_tree (Value.octets o) = AvnTree.octet_string o
  avn_tree (Value.arcs a) = AvnTree.oid a
  avn_tree (Value.bits bs size) = AvnTree.bit_string (padded bs) (length bs)
  avn_tree (Value.members ms) = AvnTree.sequence (avn_fields ms)
  avn_tree (Value.list vs) = AvnTree.sequence_of (avn_trees vs)
  avn_tree (Value.bag vs) = AvnTree.sequence_of (sorted_trees (avn_trees vs))
  avn_tree (Value.choice i v) = AvnTree.choice i (avn_tree v)
  avn_tree v = AvnTree.null

  -- The values of a list in braces.
  pub avn_trees : Values → AvnTrees
  avn_trees Values.no_values = AvnTrees.no_trees
  avn_trees (Values.value v vs) = AvnTrees.tree (avn_tree v) (avn_trees vs)

  -- The named fields in braces.
  pub avn_fields : Slots → AvnFields
  avn_fields Slots.no_slots = AvnFields.no_fields
  avn_fields (Slots.absent n ms) = AvnFields.absent n (avn_fields ms)
  avn_fields (Slots.present n v ms) = AvnFields.field n (avn_tree v) (avn_fields ms)

-- The tree that a notation writes for a value.
abbrev pub canonical_tree : Notation → Value → Tree
canonical_tree Notation.avn v = Tree.avn (avn_tree v)
canonical_tree _ v = Tree.json (jer_data v)

-- The text that a notation writes for a value.
abbrev pub canonical_text : Notation → Value → List ℕ
canonical_text Notation.avn v = print 0 (avn_tree v)
canonical_text _ v = compact_text (jer_data v)
