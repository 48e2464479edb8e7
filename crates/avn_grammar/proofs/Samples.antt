-- What the definitions compute at samples.
use Rattle.std.proofs.Common.{◌≡◌, [], ◌∷◌, ◌++◌, true, false, refl, codes}
use Rattle.std.specs.Fmt.{digits}
use Rattle.std.specs.Char.{encode_utf8}
use Rattle.avn_grammar.specs.Tree.{boolean, null, integer, real, octet_string, bit_string, oid, enumerated, char_string, sequence, sequence_of, choice, no_trees, tree, no_fields, field, absent}
use Rattle.avn_grammar.specs.Chars.{without_whitespace}
use Rattle.avn_grammar.specs.Octets.{are_pairs, octets_of, packed, bit_text}
use Rattle.avn_grammar.specs.Grammar.{number_tree, past_number, word, word_of}
use Rattle.avn_grammar.specs.Print.{print}
use Rattle.avn_grammar.specs.WellFormed.{is_well_formed}
use Rattle.avn_grammar.specs.Normal.{normal}
use Rattle.avn_grammar.specs.Depth.{deepest}

-- Tokens and words.
pub whole_number : number_tree [] (codes "12 .5") ≡ integer (codes "12")
unfolding encode_utf8
whole_number = refl

pub negative_real : number_tree (codes "-") (codes "12.50, 3") ≡ real (codes "-12.50")
unfolding encode_utf8
negative_real = refl

pub after_real : past_number (codes "12.50, 3") ≡ codes ", 3"
after_real = refl

pub after_point : past_number (codes "12.x") ≡ codes ".x"
after_point = refl

pub either_case : octets_of (without_whitespace (codes " 01 fF ")) ≡ 1 ∷ 255 ∷ []
either_case = refl

pub odd_digits : are_pairs (codes "012") ≡ false
odd_digits = refl

pub padded : packed (codes "101000001") ≡ 160 ∷ 128 ∷ []
unfolding packed
padded = refl

pub keyword : word (codes "NOT-A-NUMBER") ≡ real (codes "NOT-A-NUMBER")
unfolding word_of encode_utf8
keyword = refl

pub item : word (codes "True") ≡ enumerated (codes "True")
unfolding word_of encode_utf8
item = refl

-- Printed text.
pub arcs : print 0 (oid (1 ∷ 2 ∷ 840 ∷ [])) ≡ codes "{ 1 2 840 }"
unfolding print digits
arcs = refl

pub no_arcs : print 0 (oid []) ≡ codes "{ }"
unfolding print
no_arcs = refl

pub hex : print 0 (octet_string (171 ∷ 5 ∷ [])) ≡ codes "'AB05'H"
unfolding print
hex = refl

pub no_bits : print 0 (bit_string [] 0) ≡ codes "''H"
unfolding print
no_bits = refl

pub whole_bits : print 0 (bit_string (160 ∷ []) 8) ≡ codes "'A0'H"
unfolding print
whole_bits = refl

pub some_bits : print 0 (bit_string (160 ∷ 255 ∷ []) 11) ≡ codes "'10100000111'B"
unfolding print bit_text
some_bits = refl

pub rows : print 0 (sequence (absent (codes "z") (field (codes "a") (integer (codes "1")) (field (codes "b") (sequence_of (tree (boolean true) no_trees)) no_fields))))
    ≡ codes "{" ++ (10 ∷ []) ++ codes "  a 1," ++ (10 ∷ []) ++ codes "  b {" ++ (10 ∷ []) ++ codes "    TRUE" ++ (10 ∷ []) ++ codes "  }" ++ (10 ∷ []) ++ codes "}"
unfolding print
rows = refl

pub none_present : print 3 (sequence (absent (codes "z") no_fields)) ≡ codes "{}"
unfolding print
none_present = refl

pub quote_is_doubled : print 0 (choice (codes "c") (char_string (codes "a\"b"))) ≡ codes "c : \"a\"\"b\""
unfolding print
quote_is_doubled = refl

-- Well-formed trees.
pub signed : is_well_formed (real (codes "-0.50")) ≡ true
unfolding is_well_formed
signed = refl

pub bare_point : is_well_formed (real (codes "1.")) ≡ false
unfolding is_well_formed
bare_point = refl

pub keyword_item : is_well_formed (enumerated (codes "NULL")) ≡ false
unfolding is_well_formed
keyword_item = refl

pub too_few_octets : is_well_formed (bit_string (160 ∷ []) 9) ≡ false
unfolding is_well_formed
too_few_octets = refl

-- Normal forms.
pub bits_zeroed : normal (bit_string (255 ∷ []) 3) ≡ bit_string (224 ∷ []) 3
unfolding normal packed bit_text
bits_zeroed = refl

pub bits_whole : normal (bit_string (160 ∷ []) 8) ≡ octet_string (160 ∷ [])
unfolding normal
bits_whole = refl

pub absent_dropped : normal (sequence (absent (codes "z") no_fields)) ≡ sequence_of no_trees
unfolding normal
absent_dropped = refl

pub arcs_listed : normal (oid (2 ∷ 5 ∷ [])) ≡ sequence_of (tree (integer (codes "2")) (tree (integer (codes "5")) no_trees))
unfolding normal digits
arcs_listed = refl

pub real_without_point : normal (real (codes "5")) ≡ integer (codes "5")
unfolding normal
real_without_point = refl

-- Levels: a payload directly in braces is looked for at the level of the items, a bare word at none, and arcs one level up.
pub levels : deepest 0 (sequence_of (tree (choice (codes "c") (integer (codes "1"))) (tree (enumerated (codes "e")) no_trees))) ≡ 1
unfolding deepest
levels = refl

pub arc_level : deepest 7 (oid (2 ∷ 5 ∷ [])) ≡ 8
unfolding deepest
arc_level = refl

pub payload_level : deepest 0 (choice (codes "a") (choice (codes "b") null)) ≡ 2
unfolding deepest
payload_level = refl
