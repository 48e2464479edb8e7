-- The grammar of the notation (after X.680): which tree stands at the front of a text, and what follows it.
use Rattle.std.specs.Prelude.{Bool, ◌≡◌, ◌≢◌, ◌⊎◌, ℕ, suc, ◌≤◌, List, [], ◌∷◌, ◌++◌, true, false, cond, ⊤, codes, ◌||◌, length}
use Rattle.std.specs.Str.{bytes_eq}
use Rattle.std.specs.Char.{is_whitespace}
use Rattle.avn_grammar.specs.Tree.{Tree, Trees, Fields, boolean, null, integer, real, octet_string, bit_string, oid, enumerated, char_string, sequence, sequence_of, choice, no_trees, tree, no_fields, field}
use Rattle.avn_grammar.specs.Chars.{class_of_next, tail, take_while, skip_while, skip, is_digit, is_name, quote_is_doubled, has_fraction, is_not_apostrophe, without_whitespace, all, utf8_of}
use Rattle.avn_grammar.specs.Octets.{are_pairs, octets_of, is_bit, packed}
use Rattle.avn_grammar.specs.declared.chars.CharClass.TheVariants as is
use Rattle.avn_grammar.specs.declared.chars.CharClass.{CharClass}

-- The name is one of the keywords for a real number without digits.
abbrev pub is_real_keyword : List ℕ → Bool
is_real_keyword id = bytes_eq id (codes "PLUS-INFINITY") || bytes_eq id (codes "MINUS-INFINITY") || bytes_eq id (codes "NOT-A-NUMBER")

-- What the bytes of a bare identifier mean: one of the six keywords, else an item of an enumeration.
unfoldable pub word_of : List ℕ → Tree
word_of id =
    cond (bytes_eq id (codes "TRUE")) (boolean true) (cond (bytes_eq id (codes "FALSE")) (boolean false)
    (cond (bytes_eq id (codes "NULL")) null (cond (is_real_keyword id) (real id) (enumerated id))))

-- What a bare identifier means.
abbrev pub word : List ℕ → Tree
word id = word_of (utf8_of id)

-- The tree of a number after its sign: a real where digits follow a point, else an integer.
abbrev pub number_tree : List ℕ → List ℕ → Tree
number_tree sign w =
    cond (has_fraction (skip_while is_digit w)) (real (sign ++ utf8_of (take_while is_digit w) ++ (46 ∷ []) ++ utf8_of (take_while is_digit (tail (skip_while is_digit w)))))
    (integer (sign ++ utf8_of (take_while is_digit w)))

-- What follows a number after its sign.
abbrev pub past_number : List ℕ → List ℕ
past_number w = cond (has_fraction (skip_while is_digit w)) (skip_while is_digit (tail (skip_while is_digit w))) (skip_while is_digit w)

-- A token is the front of the text, and the rest follows it.
pub data Token : List ℕ → Tree → List ℕ → Type 0 where
  number_token : {w : List ℕ} → class_of_next w ≡ is.Digit → Token w (number_tree [] w) (past_number w)
  negative_token : {w : List ℕ} → class_of_next w ≡ is.Minus → class_of_next (tail w) ≡ is.Digit → Token w (number_tree (45 ∷ []) (tail w)) (past_number (tail w))
  octets_token : {w rest : List ℕ} → class_of_next w ≡ is.Apostrophe → skip_while is_not_apostrophe (tail w) ≡ 39 ∷ 72 ∷ rest → are_pairs (without_whitespace (take_while is_not_apostrophe (tail w))) ≡ true → Token w (octet_string (octets_of (without_whitespace (take_while is_not_apostrophe (tail w))))) rest
  bits_token : {w rest : List ℕ} → class_of_next w ≡ is.Apostrophe → skip_while is_not_apostrophe (tail w) ≡ 39 ∷ 66 ∷ rest → all is_bit (without_whitespace (take_while is_not_apostrophe (tail w))) ≡ true
      → Token w (bit_string (packed (without_whitespace (take_while is_not_apostrophe (tail w)))) (length (without_whitespace (take_while is_not_apostrophe (tail w))))) rest
  text_token : {w rest : List ℕ} (cs : List ℕ) → w ≡ (34 ∷ quote_is_doubled cs) ++ (34 ∷ rest) → class_of_next rest ≢ is.Quote → Token w (char_string (utf8_of cs)) rest

-- An item of braces: a field's name with its value, or a value.
pub data Item : Type 0 where
  named : List ℕ → Tree → Item
  bare : Tree → Item

-- All items have names.
abbrev pub AllNamed : List Item → Type 0
AllNamed [] = ⊤
AllNamed (named id t ∷ xs) = AllNamed xs
AllNamed (bare t ∷ xs) = ⊥

-- No item has a name.
abbrev pub AllBare : List Item → Type 0
AllBare [] = ⊤
AllBare (named id t ∷ xs) = ⊥
AllBare (bare t ∷ xs) = AllBare xs

-- The tree is an integer.
abbrev pub is_integer : Tree → Bool
is_integer (boolean b) = false
is_integer null = false
is_integer (integer n) = true
is_integer (real n) = false
is_integer (octet_string octets) = false
is_integer (bit_string octets n) = false
is_integer (oid arcs) = false
is_integer (enumerated id) = false
is_integer (char_string text) = false
is_integer (sequence fs) = false
is_integer (sequence_of ts) = false
is_integer (choice id t) = false

-- All items are integers without a name.
abbrev pub AllIntegers : List Item → Type 0
AllIntegers [] = ⊤
AllIntegers (named id t ∷ xs) = ⊥
AllIntegers (bare t ∷ xs) = (is_integer t ≡ true) × AllIntegers xs

-- The fields that the named items are, in order.
abbrev pub fields_of : List Item → Fields
fields_of [] = no_fields
fields_of (named id t ∷ xs) = field id t (fields_of xs)
fields_of (bare t ∷ xs) = fields_of xs

-- The values that the items without a name are, in order.
abbrev pub trees_of : List Item → Trees
trees_of [] = no_trees
trees_of (named id t ∷ xs) = trees_of xs
trees_of (bare t ∷ xs) = tree t (trees_of xs)

-- The text begins with the identifier, which is as long as can be, and the rest follows it.
pub record Ident (u id rest : List ℕ) : Type 0 where
  pub starts : class_of_next u ≡ is.Letter
  pub longest : id ≡ take_while is_name u
  pub left : rest ≡ skip_while is_name u

-- What may follow a bare identifier in braces.
abbrev pub ComesAfterWord : CharClass → Type 0
ComesAfterWord k = (k ≡ is.Comma) ⊎ (k ≡ is.CloseBrace)

-- What may follow a printed value.
abbrev pub ComesAfterValue : CharClass → Type 0
ComesAfterValue k = (k ≡ is.AtEnd) ⊎ ComesAfterWord k

-- What a number begins with.
abbrev pub BeginsNumber : CharClass → Type 0
BeginsNumber k = (k ≡ is.Digit) ⊎ (k ≡ is.Minus)

mutual
  -- Looked for at the level, which is at most the limit, the tree stands at the front of the text, and the rest follows it.
  pub data Parses (limit : ℕ) : ℕ → List ℕ → Tree → List ℕ → Type 0 where
    token : {level : ℕ} {u rest : List ℕ} {t : Tree} → level ≤ limit → Token (skip u) t rest → Parses limit level u t rest
    bare_word : {level : ℕ} {u id rest : List ℕ} → level ≤ limit → Ident (skip u) id rest → class_of_next (skip rest) ≢ is.Colon → Parses limit level u (word id) rest
    choose : {level : ℕ} {u id r rest : List ℕ} {p : Tree} → level ≤ limit → Ident (skip u) id r → class_of_next (skip r) ≡ is.Colon
        → Parses limit (suc level) (tail (skip r)) p rest → Parses limit level u (choice (utf8_of id) p) rest
    empty_braces : {level : ℕ} {u : List ℕ} → level ≤ limit → class_of_next (skip u) ≡ is.OpenBrace → class_of_next (skip (tail (skip u))) ≡ is.CloseBrace
        → Parses limit level u (sequence_of no_trees) (tail (skip (tail (skip u))))
    fields_in_braces : {level : ℕ} {u rest : List ℕ} {xs : List Item} → level ≤ limit → class_of_next (skip u) ≡ is.OpenBrace → class_of_next (skip (tail (skip u))) ≢ is.CloseBrace
        → ItemsParse limit (suc level) [] (tail (skip u)) xs rest → AllNamed xs → Parses limit level u (sequence (fields_of xs)) rest
    list_in_braces : {level : ℕ} {u rest : List ℕ} {xs : List Item} → level ≤ limit → class_of_next (skip u) ≡ is.OpenBrace → class_of_next (skip (tail (skip u))) ≢ is.CloseBrace
        → ItemsParse limit (suc level) [] (tail (skip u)) xs rest → AllBare xs → Parses limit level u (sequence_of (trees_of xs)) rest

  -- In braces, whose items look for values at the level m, the item stands at the front of the text, and the rest follows it.
  pub data ItemParses (limit : ℕ) : ℕ → List ℕ → Item → List ℕ → Type 0 where
    choice_item : {m : ℕ} {u id r rest : List ℕ} {p : Tree} → Ident (skip u) id r → class_of_next (skip r) ≡ is.Colon
        → Parses limit m (tail (skip r)) p rest → ItemParses limit m u (bare (choice (utf8_of id) p)) rest
    word_item : {m : ℕ} {u id rest : List ℕ} → Ident (skip u) id rest → ComesAfterWord (class_of_next (skip rest)) → ItemParses limit m u (bare (word id)) rest
    field_item : {m : ℕ} {u id r rest : List ℕ} {p : Tree} → Ident (skip u) id r → class_of_next (skip r) ≢ is.Colon → (ComesAfterWord (class_of_next (skip r)) → ⊥)
        → Parses limit m r p rest → ItemParses limit m u (named (utf8_of id) p) rest
    value_item : {m : ℕ} {u rest : List ℕ} {t : Tree} → class_of_next (skip u) ≢ is.Letter → Parses limit m (skip u) t rest → ItemParses limit m u (bare t) rest

  -- After the items before, the items stand at the front of the text up to the closing brace, and the rest follows it; a comma between two is left out only while all items so far are integers.
  pub data ItemsParse (limit : ℕ) : ℕ → List Item → List ℕ → List Item → List ℕ → Type 0 where
    last_item : {m : ℕ} {before : List Item} {u r : List ℕ} {x : Item} → ItemParses limit m u x r → class_of_next (skip r) ≡ is.CloseBrace
        → ItemsParse limit m before u (x ∷ []) (tail (skip r))
    comma_item : {m : ℕ} {before xs : List Item} {u r rest : List ℕ} {x : Item} → ItemParses limit m u x r → class_of_next (skip r) ≡ is.Comma
        → ItemsParse limit m (before ++ (x ∷ [])) (tail (skip r)) xs rest → ItemsParse limit m before u (x ∷ xs) rest
    number_item : {m : ℕ} {before xs : List Item} {u r rest : List ℕ} {x : Item} → ItemParses limit m u x r → AllIntegers (before ++ (x ∷ [])) → BeginsNumber (class_of_next (skip r))
        → ItemsParse limit m (before ++ (x ∷ [])) (skip r) xs rest → ItemsParse limit m before u (x ∷ xs) rest

-- The items make the tree: a sequence where all have names, a list where none has.
abbrev pub AreBraceItems : List Item → Tree → Type 0
AreBraceItems xs t = (AllNamed xs × (t ≡ sequence (fields_of xs))) ⊎ (AllBare xs × (t ≡ sequence_of (trees_of xs)))

-- After an opening brace, the tree stands up to the closing one, and the rest follows it.
abbrev pub BracesParse : ℕ → ℕ → List ℕ → Tree → List ℕ → Type 0
BracesParse limit m u t rest = (xs : List Item) × ItemsParse limit m [] u xs rest × AreBraceItems xs t

-- The whole text is the tree, and Unicode white space after it.
abbrev pub ParsesWhole : ℕ → List ℕ → Tree → Type 0
ParsesWhole limit u t = (rest : List ℕ) × Parses limit 0 u t rest × (skip_while is_whitespace rest ≡ [])
