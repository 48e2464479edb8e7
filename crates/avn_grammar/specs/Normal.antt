-- The normal form of a tree, which its printed text is read as.
use Rattle.std.specs.Prelude.{ℕ, List, [], ◌∷◌, cond, ◌==◌, ◌%◌, take}
use Rattle.std.specs.Fmt.{decimal}
use Rattle.avn_grammar.specs.Tree.{Tree, Trees, Fields, boolean, null, integer, real, octet_string, bit_string, oid, enumerated, char_string, sequence, sequence_of, choice, no_trees, tree, no_fields, field, absent}
use Rattle.avn_grammar.specs.Octets.{packed, bit_text}
use Rattle.avn_grammar.specs.WellFormed.{is_number}

-- The arcs as integers in decimal.
abbrev pub arc_trees : List ℕ → Trees
arc_trees [] = no_trees
arc_trees (a ∷ arcs) = tree (integer (decimal a)) (arc_trees arcs)

-- The fields in braces: none is the empty list.
abbrev pub braced : Fields → Tree
braced no_fields = sequence_of no_trees
braced (field id t fs) = sequence (field id t fs)
braced (absent id fs) = sequence (absent id fs)

unfoldable mutual
  -- Absent fields are left out and a sequence of none is the empty list, arcs are a list of integers, whole octets of bits are an octet string, bits past a length are zero, and a real without a point is an integer.
  pub normal : Tree → Tree
  normal (boolean b) = boolean b
  normal null = null
  normal (integer n) = integer n
  normal (real n) = cond (is_number n) (integer n) (real n)
  normal (octet_string octets) = octet_string octets
  normal (bit_string octets n) = cond (n == 0) (octet_string []) (cond (n % 8 == 0) (octet_string octets) (bit_string (packed (take n (bit_text octets))) n))
  normal (oid arcs) = sequence_of (arc_trees arcs)
  normal (enumerated id) = enumerated id
  normal (char_string text) = char_string text
  normal (sequence fs) = braced (normal_fields fs)
  normal (sequence_of ts) = sequence_of (normal_trees ts)
  normal (choice id t) = choice id (normal t)

  -- The normal forms of the values of a list.
  pub normal_trees : Trees → Trees
  normal_trees no_trees = no_trees
  normal_trees (tree t ts) = tree (normal t) (normal_trees ts)

  -- The normal forms of the fields that are present.
  pub normal_fields : Fields → Fields
  normal_fields no_fields = no_fields
  normal_fields (field id t fs) = field id (normal t) (normal_fields fs)
  normal_fields (absent id fs) = normal_fields fs
