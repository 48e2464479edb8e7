-- The trees whose printed text can be read again.
use Rattle.std.specs.Prelude.{ℕ, ◌+◌, List, [], ◌∷◌, Bool, true, false, cond, not, ◌&&◌, ◌||◌, ◌==◌, codes, ◌/◌, ◌^◌, nat_lt, length}
use Rattle.std.specs.Str.{is_utf8, bytes_eq}
use Rattle.avn_grammar.specs.Tree.{Tree, Trees, Fields, boolean, null, integer, real, octet_string, bit_string, oid, enumerated, char_string, sequence, sequence_of, choice, no_trees, tree, no_fields, field, absent}
use Rattle.avn_grammar.specs.Chars.{starts_with, is_digit, is_letter, is_name, all, skip_while}
use Rattle.avn_grammar.specs.Grammar.{is_real_keyword}

-- The text without its sign.
abbrev pub unsigned : List ℕ → List ℕ
unsigned [] = []
unsigned (c ∷ cs) = cond (c == 45) cs (c ∷ cs)

-- One digit or more, and nothing else.
abbrev pub is_digits : List ℕ → Bool
is_digits cs = starts_with is_digit cs && all is_digit cs

-- An optional `-` and digits.
abbrev pub is_number : List ℕ → Bool
is_number n = is_digits (unsigned n)

-- A point and digits.
abbrev pub is_fraction : List ℕ → Bool
is_fraction [] = false
is_fraction (c ∷ cs) = (c == 46) && is_digits cs

-- An optional `-`, digits, a point and digits.
abbrev pub is_decimal : List ℕ → Bool
is_decimal n = starts_with is_digit (unsigned n) && is_fraction (skip_while is_digit (unsigned n))

-- The number fits an octet.
abbrev pub is_octet : ℕ → Bool
is_octet o = nat_lt o 256

-- The number fits an arc.
abbrev pub is_arc : ℕ → Bool
is_arc a = nat_lt a (2 ^ 32)

-- An ASCII letter and then letters, digits, `-` and `_`.
abbrev pub is_identifier : List ℕ → Bool
is_identifier id = starts_with is_letter id && all is_name id

-- One of the six names that mean a value of their own.
abbrev pub is_keyword : List ℕ → Bool
is_keyword id = bytes_eq id (codes "TRUE") || (bytes_eq id (codes "FALSE") || (bytes_eq id (codes "NULL") || is_real_keyword id))

unfoldable mutual
  -- Numbers and names are spelled as the notation has them, no item of an enumeration is a keyword, a bit string has the octets of its length, and octets, arcs and texts are what their types hold.
  pub is_well_formed : Tree → Bool
  is_well_formed (boolean b) = true
  is_well_formed null = true
  is_well_formed (integer n) = is_number n
  is_well_formed (real n) = is_number n || is_decimal n || is_real_keyword n
  is_well_formed (octet_string octets) = all is_octet octets
  is_well_formed (bit_string octets n) = all is_octet octets && (length octets == (n + 7) / 8)
  is_well_formed (oid arcs) = all is_arc arcs
  is_well_formed (enumerated id) = is_identifier id && not (is_keyword id)
  is_well_formed (char_string text) = is_utf8 text
  is_well_formed (sequence fs) = are_fields_well_formed fs
  is_well_formed (sequence_of ts) = are_well_formed ts
  is_well_formed (choice id t) = is_identifier id && is_well_formed t

  -- All trees of a list are well formed.
  pub are_well_formed : Trees → Bool
  are_well_formed no_trees = true
  are_well_formed (tree t ts) = is_well_formed t && are_well_formed ts

  -- All names of a sequence are identifiers, absent ones too, and all its values are well formed.
  pub are_fields_well_formed : Fields → Bool
  are_fields_well_formed no_fields = true
  are_fields_well_formed (field id t fs) = is_identifier id && (is_well_formed t && are_fields_well_formed fs)
  are_fields_well_formed (absent id fs) = is_identifier id && are_fields_well_formed fs
