-- The tree of a value, by its variant.
use Rattle.std.proofs.Common.{◌≡◌, ℕ, Bool, Option, rules, string_bytes, String, Vec, Box, Global}
use Rattle.avn_grammar.specs.Tree.{boolean, null, integer, real, oid, octet_string, bit_string, enumerated, char_string, sequence, sequence_of, choice}
use Rattle.avn_value.specs.View.{tree_of, list_trees, fields_trees}
use Rattle.avn_value.specs.declared.value.AvnValue.{AvnValue, Boolean, Null, Real, Oid, Integer, OctetString, BitString, Enumerated, CharString, Sequence, SequenceOf, Choice, the_lemmas}

pub view-Integer : (s : String Global) → tree_of (Integer s) ≡ integer (string_bytes s)
view-Integer s = search (rules, the_lemmas)

pub view-OctetString : (v : Vec ℕ Global) → tree_of (OctetString v) ≡ octet_string v.items
view-OctetString v = search (rules, the_lemmas)

pub view-BitString : (v : Vec ℕ Global) (n : ℕ) → tree_of (BitString v n) ≡ bit_string v.items n
view-BitString v n = search (rules, the_lemmas)

pub view-Enumerated : (s : String Global) → tree_of (Enumerated s) ≡ enumerated (string_bytes s)
view-Enumerated s = search (rules, the_lemmas)

pub view-CharString : (s : String Global) → tree_of (CharString s) ≡ char_string (string_bytes s)
view-CharString s = search (rules, the_lemmas)

pub view-Sequence : (v : Vec (String Global × Option AvnValue) Global) → tree_of (Sequence v) ≡ sequence (fields_trees v.items)
view-Sequence v = search (rules, the_lemmas)

pub view-SequenceOf : (v : Vec AvnValue Global) → tree_of (SequenceOf v) ≡ sequence_of (list_trees v.items)
view-SequenceOf v = search (rules, the_lemmas)

pub view-Choice : (s : String Global) (b : Box AvnValue Global) → tree_of (Choice s b) ≡ choice (string_bytes s) (tree_of b.value)
view-Choice s b = search (rules, the_lemmas)

pub view-Boolean : (b : Bool) → tree_of (Boolean b) ≡ boolean b
view-Boolean b = search (rules, the_lemmas)

pub view-Null : tree_of Null ≡ null
view-Null = search (rules, the_lemmas)

pub view-Real : (s : String Global) → tree_of (Real s) ≡ real (string_bytes s)
view-Real s = search (rules, the_lemmas)

pub view-Oid : (v : Vec ℕ Global) → tree_of (Oid v) ≡ oid v.items
view-Oid v = search (rules, the_lemmas)
