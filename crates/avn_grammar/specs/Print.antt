-- The printed text of a tree, as bytes.
use Rattle.std.specs.Prelude.{ℕ, zero, suc, List, [], ◌∷◌, ◌++◌, Bool, true, false, cond, codes, ◌%◌, ◌==◌, take}
use Rattle.std.specs.Fmt.{decimal}
use Rattle.avn_grammar.specs.Tree.{Tree, Trees, Fields, boolean, null, integer, real, octet_string, bit_string, oid, enumerated, char_string, sequence, sequence_of, choice, no_trees, tree, no_fields, field, absent}
use Rattle.avn_grammar.specs.Chars.{quote_is_doubled}
use Rattle.avn_grammar.specs.Octets.{hex_text, bit_text}

-- Two spaces for each level of braces.
abbrev pub indent : ℕ → List ℕ
indent zero = []
indent (suc d) = 32 ∷ 32 ∷ indent d

-- What stands before the i-th row: the first follows the opening brace, each other a comma.
abbrev pub separator : ℕ → List ℕ
separator zero = 10 ∷ []
separator (suc i) = 44 ∷ 10 ∷ []

-- Some field is present.
abbrev pub has_fields : Fields → Bool
has_fields no_fields = false
has_fields (field id t fs) = true
has_fields (absent id fs) = has_fields fs

-- Octets in hexadecimal, as `'AB05'H`.
abbrev pub hex_quoted : List ℕ → List ℕ
hex_quoted octets = (39 ∷ []) ++ hex_text octets ++ (39 ∷ 72 ∷ [])

-- Binary digits, as `'101'B`.
abbrev pub bits_quoted : List ℕ → List ℕ
bits_quoted bits = (39 ∷ []) ++ bits ++ (39 ∷ 66 ∷ [])

-- A space and a number for each arc.
abbrev pub arc_text : List ℕ → List ℕ
arc_text [] = []
arc_text (a ∷ arcs) = (32 ∷ decimal a) ++ arc_text arcs

unfoldable mutual
  -- The text of a tree below d open braces.
  pub print : ℕ → Tree → List ℕ
  print d (boolean true) = codes "TRUE"
  print d (boolean false) = codes "FALSE"
  print d null = codes "NULL"
  print d (integer n) = n
  print d (real n) = n
  print d (octet_string octets) = hex_quoted octets
  print d (bit_string octets n) = cond (n == 0) (hex_quoted []) (cond (n % 8 == 0) (hex_quoted octets) (bits_quoted (take n (bit_text octets))))
  print d (oid arcs) = (123 ∷ []) ++ arc_text arcs ++ codes " }"
  print d (enumerated id) = id
  print d (char_string text) = (34 ∷ []) ++ quote_is_doubled text ++ (34 ∷ [])
  print d (sequence fs) = cond (has_fields fs) ((123 ∷ []) ++ print_fields (suc d) 0 fs ++ (10 ∷ []) ++ indent d ++ (125 ∷ [])) (codes "{}")
  print d (sequence_of no_trees) = codes "{}"
  print d (sequence_of (tree t ts)) = (123 ∷ []) ++ print_rows (suc d) 0 (tree t ts) ++ (10 ∷ []) ++ indent d ++ (125 ∷ [])
  print d (choice id t) = id ++ codes " : " ++ print d t

  -- The rows of a list, from the i-th on: an indented line for each value.
  pub print_rows : ℕ → ℕ → Trees → List ℕ
  print_rows d i no_trees = []
  print_rows d i (tree t ts) = (separator i ++ indent d ++ print d t) ++ print_rows d (suc i) ts

  -- The rows of a sequence, from the i-th on: an indented line for each field that is present.
  pub print_fields : ℕ → ℕ → Fields → List ℕ
  print_fields d i no_fields = []
  print_fields d i (field id t fs) = (separator i ++ indent d ++ id ++ codes " " ++ print d t) ++ print_fields d (suc i) fs
  print_fields d i (absent id fs) = print_fields d i fs
