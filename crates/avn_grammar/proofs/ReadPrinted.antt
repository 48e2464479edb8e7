-- A printed text is read as the normal form of its tree.
use Rattle.std.proofs.Common.{◌≡◌, ◌≢◌, inl, inr, ℕ, suc, ◌+◌, ◌≤◌, List, [], ◌∷◌, ◌++◌, true, false, cond, not, ◌==◌, ◌&&◌, ◌||◌, refl, sym, ap, subst, ◌∙◌, length, arith, codes}
use Rattle.std.proofs.lemmas.Bool.{cases_Bool, eqb-true, and_parts, or_cases, cond-true, cond-false, not-true}
use Rattle.std.specs.Str.{is_utf8}
use Rattle.std.proofs.lemmas.Str.{IsUtf8-from_is_utf8}
use Rattle.avn_grammar.specs.declared.chars.CharClass.{CharClass}
use Rattle.avn_grammar.specs.declared.chars.CharClass.TheVariants as is
use Rattle.avn_grammar.specs.Chars.{class_of_next, class_of_char, tail, skip, is_digit, is_name, is_letter, is_space, starts_with, quote_is_doubled, all}
use Rattle.avn_grammar.specs.Depth.{deepest, deepest_field, deepest_item, deepest_in}
use Rattle.avn_grammar.specs.Grammar.{word, is_real_keyword, Token, number_token, negative_token, octets_token, bits_token, text_token, Item, named, bare, AllNamed, AllBare, fields_of, trees_of, Ident, ComesAfterWord, Parses, token, bare_word, choose, empty_braces, fields_in_braces, list_in_braces, ItemParses, choice_item, word_item, field_item, value_item, ItemsParse, last_item, comma_item, number_item, ComesAfterValue, AllIntegers}
use Rattle.avn_grammar.specs.Normal.{normal, normal_trees, normal_fields, arc_trees}
use Rattle.avn_grammar.specs.Octets.{is_bit, packed, hex_text, bit_text}
use Rattle.avn_grammar.specs.Print.{indent, has_fields}
use Rattle.avn_grammar.specs.Tree.{Tree, Trees, Fields, boolean, null, integer, real, octet_string, bit_string, oid, enumerated, char_string, sequence, sequence_of, choice, no_trees, tree, no_fields, field, absent}
use Rattle.avn_grammar.specs.WellFormed.{is_number, is_identifier, is_keyword, is_well_formed, are_well_formed, are_fields_well_formed, is_decimal, is_octet, is_arc}
use Rattle.std.proofs.Common.{◌/◌, ◌%◌, take, length-take-le}
use Rattle.std.specs.Fmt.{decimal}
use Rattle.avn_grammar.proofs.Runs.{fraction-other}
use Rattle.avn_grammar.proofs.Digits.{bit_text-bits, length-bit_text, every-take, digits-arc}
use Rattle.avn_grammar.proofs.PrintedBefore.{put_arcs}
use Rattle.avn_grammar.proofs.PrintedTokens.{plain, decimal_of, decimal_lead, decimal_is_token, octets_is_token, bits_is_token, bits_lead}
use Rattle.avn_grammar.proofs.Runs.{past-past}
use Rattle.avn_grammar.proofs.OneTree.{quote_first}
use Rattle.avn_grammar.proofs.RunsBefore.{skip-indent, skip-lead, After, after_of, lead-letter, lead-digit}
use Rattle.avn_grammar.proofs.PrintedBefore.{put, put_rows, put_fields, shown}
use Rattle.avn_grammar.proofs.PrintedTokens.{value_space, value_colon, value_word, number_of, number_is_token, quoted_token, number_lead, real_word, word_enumerated, word-true, word-false, word-null, ident_of, plain_name, begins_value, brace, level_deepest, level_fields, level_items}

-- The tree is read behind blanks, as a value and as an item.
abbrev pub DecodesTo : ℕ → Tree → Type 0
DecodesTo limit t = (d level : ℕ) (w u : List ℕ) → skip w ≡ put shown d t u → deepest level t ≤ limit → ComesAfterValue (class_of_next (skip u)) → Parses limit level w (normal t) u

abbrev pub DecodesIn : ℕ → Tree → Type 0
DecodesIn limit t = (d level : ℕ) (w u : List ℕ) → skip w ≡ put shown d t u → deepest_in level t ≤ limit → ComesAfterWord (class_of_next (skip u)) → ItemParses limit (suc level) w (bare (normal t)) u

parses_as : {limit level : ℕ} {w u : List ℕ} {t v : Tree} → t ≡ v → Parses limit level w t u → Parses limit level w v u
parses_as {limit = limit} {level = level} {w = w} {u = u} e s = subst (λ x. Parses limit level w x u) e s

bare_as : {limit m : ℕ} {w u : List ℕ} {t v : Tree} → t ≡ v → ItemParses limit m w (bare t) u → ItemParses limit m w (bare v) u
bare_as {limit = limit} {m = m} {w = w} {u = u} e s = subst (λ x. ItemParses limit m w (bare x) u) e s

-- A token.
pub token_parses : (limit level : ℕ) (w u x : List ℕ) (t : Tree) → skip w ≡ x → level ≤ limit → Token x t u → Parses limit level w t u
token_parses limit level w u x t e l k = token l (subst (λ y. Token y t u) (sym e) k)

-- A bare word.
module _ (limit : ℕ) (id : List ℕ) (t : Tree) (i : is_identifier id ≡ true) (s : word id ≡ t) where
  word_parses : (level : ℕ) (w u : List ℕ) → skip w ≡ id ++ u → level ≤ limit → ComesAfterValue (class_of_next (skip u)) → Parses limit level w t u
  word_parses level w u e l a = let f = after_of u a in parses_as s (bare_word l (ident_of w id u e i f.no_name) f.no_colon)

  word_in : (m : ℕ) (w u : List ℕ) → skip w ≡ id ++ u → ComesAfterWord (class_of_next (skip u)) → ItemParses limit m w (bare t) u
  word_in m w u e a = let f = after_of u (inr a) in bare_as s (word_item (ident_of w id u e i f.no_name) a)

-- A value that doesn't begin with a letter, as an item.
pub value_in : (limit : ℕ) (t : Tree) → ((level : ℕ) → deepest (suc level) t ≡ deepest_in level t) → ((d : ℕ) (u : List ℕ) → class_of_next (put shown d t u) ≢ is.Letter) → DecodesTo limit t → DecodesIn limit t
value_in limit t same n s = λ d level w u e l a.
    value_item (λ k. n d u (sym (ap class_of_next e) ∙ k)) (s d (suc level) (skip w) u (past-past is_space w ∙ e) (omega (arith, l, same level)) (inr a))

-- A choice.
pub choice_at : (d : ℕ) (id : List ℕ) (t : Tree) (w u : List ℕ) → skip w ≡ put shown d (choice id t) u → is_identifier id ≡ true → Ident (skip w) id (32 ∷ 58 ∷ 32 ∷ put shown d t u)
unfolding put
choice_at d id t w u e i = ident_of w id (32 ∷ 58 ∷ 32 ∷ put shown d t u) e i refl

pub lead-colon : (u : List ℕ) → class_of_next (skip (32 ∷ 58 ∷ u)) ≡ is.Colon
unfolding class_of_char
lead-colon u = refl

-- Behind a blank.
pub behind : (d : ℕ) (t : Tree) (u : List ℕ) → is_well_formed t ≡ true → skip (put shown d t u) ≡ put shown d t u
behind d t u h = skip-lead (put shown d t u) (value_space _ (begins_value d t u h))

choice_decodes : (limit : ℕ) (id : List ℕ) (t : Tree) → is_identifier id ≡ true → is_well_formed t ≡ true → DecodesTo limit t → DecodesTo limit (choice id t)
unfolding normal deepest
choice_decodes limit id t i h s = λ d level w u e l a.
    parses_as (ap (λ x. choice x (normal t)) (plain_name id i))
    (choose (omega (arith, l, level_deepest (suc level) t)) (choice_at d id t w u e i) (lead-colon (32 ∷ put shown d t u)) (s d (suc level) (32 ∷ put shown d t u) u (behind d t u h) l a))

choice_in : (limit : ℕ) (id : List ℕ) (t : Tree) → is_identifier id ≡ true → is_well_formed t ≡ true → DecodesTo limit t → DecodesIn limit (choice id t)
unfolding normal deepest
choice_in limit id t i h s = λ d level w u e l a.
    bare_as (ap (λ x. choice x (normal t)) (plain_name id i))
    (choice_item (choice_at d id t w u e i) (lead-colon (32 ∷ put shown d t u)) (s d (suc level) (32 ∷ put shown d t u) u (behind d t u h) l (inr a)))

-- A field.
pub field_parses : (limit d level : ℕ) (id : List ℕ) (t : Tree) (w u : List ℕ) → skip w ≡ id ++ (32 ∷ put shown d t u) → is_identifier id ≡ true → is_well_formed t ≡ true → DecodesTo limit t → deepest (suc level) t ≤ limit
    → ComesAfterWord (class_of_next (skip u)) → ItemParses limit (suc level) w (named id (normal t)) u
field_parses limit d level id t w u e i h s l a =
    let b = ap class_of_next (behind d t u h) in
    let o = begins_value d t u h in
    subst (λ x. ItemParses limit (suc level) w (named x (normal t)) u) (plain_name id i)
    (field_item (ident_of w id (32 ∷ put shown d t u) e i refl) (λ k. value_colon _ o (sym b ∙ k)) (λ k. value_word _ o (subst ComesAfterWord b k)) (s d (suc level) (32 ∷ put shown d t u) u (behind d t u h) l (inr a)))

-- The items that the rows say.
pub row_items : Trees → List Item
row_items no_trees = []
row_items (tree t ts) = bare (normal t) ∷ row_items ts

pub field_items : Fields → List Item
field_items no_fields = []
field_items (field id t fs) = named id (normal t) ∷ field_items fs
field_items (absent id fs) = field_items fs

rows_bare : (ts : Trees) → AllBare (row_items ts)
unfolding row_items
rows_bare no_trees = tt
rows_bare (tree t ts) = rows_bare ts

fields_named : (fs : Fields) → AllNamed (field_items fs)
unfolding field_items
fields_named no_fields = tt
fields_named (field id t fs) = fields_named fs
fields_named (absent id fs) = fields_named fs

rows_trees : (ts : Trees) → trees_of (row_items ts) ≡ normal_trees ts
unfolding row_items normal
rows_trees no_trees = refl
rows_trees (tree t ts) = ap (tree (normal t)) (rows_trees ts)

fields_fields : (fs : Fields) → fields_of (field_items fs) ≡ normal_fields fs
unfolding field_items normal
fields_fields no_fields = refl
fields_fields (field id t fs) = ap (field id (normal t)) (fields_fields fs)
fields_fields (absent id fs) = fields_fields fs

fields_braced : (fs : Fields) → has_fields fs ≡ true → sequence (fields_of (field_items fs)) ≡ normal (sequence fs)
unfolding field_items normal
fields_braced no_fields h = let n : ⊥ = cc in absurd n
fields_braced (field id t fs) h = ap (λ x. sequence (field id (normal t) x)) (fields_fields fs)
fields_braced (absent id fs) h = fields_braced fs h

no_fields_braced : (fs : Fields) → has_fields fs ≡ false → normal (sequence fs) ≡ sequence_of no_trees
unfolding normal
no_fields_braced no_fields h = refl
no_fields_braced (field id t fs) h = let n : ⊥ = cc in absurd n
no_fields_braced (absent id fs) h = no_fields_braced fs h

-- Braces.
empty_parses : (limit level : ℕ) (w u : List ℕ) → skip w ≡ 123 ∷ 125 ∷ u → level ≤ limit → Parses limit level w (sequence_of no_trees) u
unfolding class_of_char
empty_parses limit level w u e l =
    subst (λ x. Parses limit level w (sequence_of no_trees) x) (ap (λ x. tail (skip (tail x))) e) (empty_braces l (ap class_of_next e) (ap (λ x. class_of_next (skip (tail x))) e))

pub parses_close : {limit level : ℕ} {u r : List ℕ} {t : Tree} → Parses limit level u t r → class_of_next (skip u) ≢ is.CloseBrace
parses_close (token l (number_token a)) e = cc
parses_close (token l (negative_token a b)) e = cc
parses_close (token l (octets_token a b c)) e = cc
parses_close (token l (bits_token a b c)) e = cc
parses_close {u = u} (token l (text_token {rest = r} cs f n)) e = let q = quote_first (skip u) (quote_is_doubled cs ++ (34 ∷ r)) f in cc
parses_close (bare_word l i c) e = let q = i.starts in cc
parses_close (choose l i c s) e = let q = i.starts in cc
parses_close (empty_braces l a b) e = cc
parses_close (fields_in_braces l a b c d) e = cc
parses_close (list_in_braces l a b c d) e = cc

item_close : {limit m : ℕ} {u r : List ℕ} {x : Item} → ItemParses limit m u x r → class_of_next (skip u) ≢ is.CloseBrace
item_close (choice_item i c s) e = let q = i.starts in cc
item_close (word_item i c) e = let q = i.starts in cc
item_close (field_item i c d s) e = let q = i.starts in cc
item_close {u = u} (value_item n s) e = parses_close s (ap class_of_next (past-past is_space u) ∙ e)

items_close : {limit m : ℕ} {before xs : List Item} {u r : List ℕ} → ItemsParse limit m before u xs r → class_of_next (skip u) ≢ is.CloseBrace
items_close (last_item i c) = item_close i
items_close (comma_item i c s) = item_close i
items_close (number_item i a c s) = item_close i

module _ (limit level : ℕ) (w v u : List ℕ) (xs : List Item) (e : skip w ≡ 123 ∷ v) (l : level ≤ limit) (s : ItemsParse limit (suc level) [] v xs u) where
  within : ItemsParse limit (suc level) [] (tail (skip w)) xs u
  within = subst (λ x. ItemsParse limit (suc level) [] x xs u) (sym (ap tail e)) s

  list_parses : AllBare xs → Parses limit level w (sequence_of (trees_of xs)) u
  list_parses a = list_in_braces l (brace _ v e) (items_close within) within a

  fields_parse : AllNamed xs → Parses limit level w (sequence (fields_of xs)) u
  fields_parse a = fields_in_braces l (brace _ v e) (items_close within) within a

-- The line that closes braces.
unfoldable pub closing : ℕ → List ℕ → List ℕ
closing d u = 10 ∷ (indent d ++ (125 ∷ u))

pub closing-lead : (d : ℕ) (u : List ℕ) → class_of_next (skip (closing d u)) ≡ is.CloseBrace
unfolding closing class_of_char
closing-lead d u = ap class_of_next (skip-indent d (125 ∷ u))

pub closing-rest : (d : ℕ) (u : List ℕ) → tail (skip (closing d u)) ≡ u
unfolding closing
closing-rest d u = ap tail (skip-indent d (125 ∷ u))

-- What follows a row.
pub rows_after : (d i : ℕ) (ts : Trees) (v : List ℕ) → class_of_next (skip v) ≡ is.CloseBrace → ComesAfterWord (class_of_next (skip (put_rows shown d (suc i) ts v)))
unfolding put class_of_char
rows_after d i no_trees v h = inr h
rows_after d i (tree t ts) v h = inl refl

pub fields_after : (d i : ℕ) (fs : Fields) (v : List ℕ) → class_of_next (skip v) ≡ is.CloseBrace → ComesAfterWord (class_of_next (skip (put_fields shown d (suc i) fs v)))
unfolding put class_of_char
fields_after d i no_fields v h = inr h
fields_after d i (field id t fs) v h = inl refl
fields_after d i (absent id fs) v h = fields_after d i fs v h

pub lead-comma : (u : List ℕ) → class_of_next (skip (44 ∷ u)) ≡ is.Comma
unfolding class_of_char
lead-comma u = refl

-- After an item, the rows follow.
abbrev pub RowsDecode : ℕ → Trees → Type 0
RowsDecode limit ts = (d i level : ℕ) (before : List Item) (w v : List ℕ) (x : Item) → deepest_item level ts ≤ limit → class_of_next (skip v) ≡ is.CloseBrace → ItemParses limit (suc level) w x (put_rows shown d (suc i) ts v)
    → ItemsParse limit (suc level) before w (x ∷ row_items ts) (tail (skip v))

abbrev pub FieldsDecode : ℕ → Fields → Type 0
FieldsDecode limit fs = (d i level : ℕ) (before : List Item) (w v : List ℕ) (x : Item) → deepest_field level fs ≤ limit → class_of_next (skip v) ≡ is.CloseBrace → ItemParses limit (suc level) w x (put_fields shown d (suc i) fs v)
    → ItemsParse limit (suc level) before w (x ∷ field_items fs) (tail (skip v))

no_rows : (limit : ℕ) → RowsDecode limit no_trees
unfolding put row_items
no_rows limit = λ d i level before w v x l c k. last_item k c

pub row_at : (d : ℕ) (t : Tree) (u : List ℕ) → is_well_formed t ≡ true → skip (10 ∷ (indent d ++ put shown d t u)) ≡ put shown d t u
row_at d t u h = skip-indent d (put shown d t u) ∙ behind d t u h

more_rows : (limit : ℕ) (t : Tree) (ts : Trees) → is_well_formed t ≡ true → DecodesIn limit t → RowsDecode limit ts → RowsDecode limit (tree t ts)
unfolding put row_items deepest
more_rows limit t ts h s f = λ d i level before w v x l c k.
    let r = put_rows shown d (suc (suc i)) ts v in
    comma_item k (lead-comma (10 ∷ (indent d ++ put shown d t r)))
    (f d (suc i) level (before ++ (x ∷ [])) (10 ∷ (indent d ++ put shown d t r)) v (bare (normal t)) (omega arith) c (s d level (10 ∷ (indent d ++ put shown d t r)) r (row_at d t r h) (omega arith) (rows_after d (suc i) ts v c)))

first_row : (limit : ℕ) (t : Tree) (ts : Trees) → is_well_formed t ≡ true → DecodesIn limit t → RowsDecode limit ts → DecodesTo limit (sequence_of (tree t ts))
unfolding put row_items deepest normal closing
first_row limit t ts h s f = λ d level w u e l a.
    let v = closing d u in
    let r = put_rows shown (suc d) 1 ts v in
    let x = 10 ∷ (indent (suc d) ++ put shown (suc d) t r) in
    let items : ItemsParse limit (suc level) [] x (bare (normal t) ∷ row_items ts) u =
    subst (λ y. ItemsParse limit (suc level) [] x (bare (normal t) ∷ row_items ts) y) (closing-rest d u)
    (f (suc d) 0 level [] x v (bare (normal t)) (omega arith) (closing-lead d u) (s (suc d) level x r (row_at (suc d) t r h) (omega arith) (rows_after (suc d) 0 ts v (closing-lead d u)))) in
    parses_as (ap (λ y. sequence_of (tree (normal t) y)) (rows_trees ts))
    (list_parses limit level w x u (bare (normal t) ∷ row_items ts) e (omega (arith, level_items level ts)) items (rows_bare (tree t ts)))

no_more_fields : (limit : ℕ) → FieldsDecode limit no_fields
unfolding put field_items
no_more_fields limit = λ d i level before w v x l c k. last_item k c

absent_field : (limit : ℕ) (id : List ℕ) (fs : Fields) → FieldsDecode limit fs → FieldsDecode limit (absent id fs)
unfolding put field_items deepest
absent_field limit id fs f = λ d i level before w v x l c k. f d i level before w v x l c k

pub field_at : (d : ℕ) (id x : List ℕ) → is_identifier id ≡ true → skip (10 ∷ (indent d ++ (id ++ x))) ≡ id ++ x
field_at d id x i = skip-indent d (id ++ x) ∙ skip-lead (id ++ x) (λ k. let q = lead-letter id x (and_parts (starts_with is_letter id) (all is_name id) i).0 in let n : ⊥ = cc in n)

more_fields : (limit : ℕ) (id : List ℕ) (t : Tree) (fs : Fields) → is_identifier id ≡ true → is_well_formed t ≡ true → DecodesTo limit t → FieldsDecode limit fs → FieldsDecode limit (field id t fs)
unfolding put field_items deepest
more_fields limit id t fs i h s f = λ d j level before w v x l c k.
    let r = put_fields shown d (suc (suc j)) fs v in
    let y = 10 ∷ (indent d ++ (id ++ (32 ∷ put shown d t r))) in
    comma_item k (lead-comma y)
    (f d (suc j) level (before ++ (x ∷ [])) y v (named id (normal t)) (omega arith) c (field_parses limit d level id t y r (field_at d id (32 ∷ put shown d t r) i) i h s (omega arith) (fields_after d (suc j) fs v c)))

-- The fields from the first that is present on.
abbrev pub FieldsBegin : ℕ → Fields → Type 0
FieldsBegin limit fs = (d level : ℕ) (v : List ℕ) → has_fields fs ≡ true → deepest_field level fs ≤ limit → class_of_next (skip v) ≡ is.CloseBrace → ItemsParse limit (suc level) [] (put_fields shown d 0 fs v) (field_items fs) (tail (skip v))

first_field : (limit : ℕ) (id : List ℕ) (t : Tree) (fs : Fields) → is_identifier id ≡ true → is_well_formed t ≡ true → DecodesTo limit t → FieldsDecode limit fs → FieldsBegin limit (field id t fs)
unfolding put field_items deepest
first_field limit id t fs i h s f = λ d level v p l c.
    let r = put_fields shown d 1 fs v in
    let y = 10 ∷ (indent d ++ (id ++ (32 ∷ put shown d t r))) in
    f d 0 level [] y v (named id (normal t)) (omega arith) c (field_parses limit d level id t y r (field_at d id (32 ∷ put shown d t r) i) i h s (omega arith) (fields_after d 0 fs v c))

absent_first : (limit : ℕ) (id : List ℕ) (fs : Fields) → FieldsBegin limit fs → FieldsBegin limit (absent id fs)
unfolding put field_items deepest
absent_first limit id fs f = λ d level v p l c. f d level v p l c

none_first : (limit : ℕ) → FieldsBegin limit no_fields
none_first limit = λ d level v p l c. let n : ⊥ = cc in absurd n

fields_decode : (limit : ℕ) (fs : Fields) → FieldsBegin limit fs → DecodesTo limit (sequence fs)
unfolding put deepest closing
fields_decode limit fs f = λ d level w u e l a. elim (cases_Bool (has_fields fs)) [
  | inl h ↦
      let v = closing d u in
      let b = put_fields shown (suc d) 0 fs v in
      let items : ItemsParse limit (suc level) [] b (field_items fs) u = subst (λ y. ItemsParse limit (suc level) [] b (field_items fs) y) (closing-rest d u) (f (suc d) level v h l (closing-lead d u)) in
      parses_as (fields_braced fs h) (fields_parse limit level w b u (field_items fs) (e ∙ cond-true (has_fields fs) (123 ∷ b) (123 ∷ 125 ∷ u) h) (omega (arith, l, level_fields level fs)) items (fields_named fs))
  | inr h ↦
      parses_as (sym (no_fields_braced fs h)) (empty_parses limit level w u (e ∙ cond-false (has_fields fs) (123 ∷ put_fields shown (suc d) 0 fs (closing d u)) (123 ∷ 125 ∷ u) h) (omega (arith, l, level_fields level fs)))
]

-- A number, as an integer and as a real without a point.
number_parses : (limit : ℕ) (n : List ℕ) → is_number n ≡ true → (level : ℕ) (w u : List ℕ) → skip w ≡ n ++ u → level ≤ limit → ComesAfterValue (class_of_next (skip u)) → Parses limit level w (integer n) u
number_parses limit n h level w u e l a = token_parses limit level w u (n ++ u) (integer n) e l (number_is_token n u (number_of n h) (after_of u a))

pub number_letter : (n u : List ℕ) → is_number n ≡ true → class_of_next (n ++ u) ≢ is.Letter
number_letter n u h k = elim (number_lead n u (number_of n h)) [ inl a ↦ let x : ⊥ = cc in x | inr a ↦ let x : ⊥ = cc in x ]

number_in : (limit : ℕ) (n : List ℕ) → is_number n ≡ true → (level : ℕ) (w u : List ℕ) → skip w ≡ n ++ u → suc level ≤ limit → ComesAfterWord (class_of_next (skip u)) → ItemParses limit (suc level) w (bare (integer n)) u
number_in limit n h level w u e l a = value_item (λ k. number_letter n u h (sym (ap class_of_next e) ∙ k)) (number_parses limit n h (suc level) (skip w) u (past-past is_space w ∙ e) l (inr a))

true_decodes : (limit : ℕ) → DecodesTo limit (boolean true) × DecodesIn limit (boolean true)
unfolding put normal deepest
true_decodes limit = ((λ d level w u e l a. word_parses limit (codes "TRUE") (boolean true) refl word-true level w u e l a), (λ d level w u e l a. word_in limit (codes "TRUE") (boolean true) refl word-true (suc level) w u e a))

false_decodes : (limit : ℕ) → DecodesTo limit (boolean false) × DecodesIn limit (boolean false)
unfolding put normal deepest
false_decodes limit = ((λ d level w u e l a. word_parses limit (codes "FALSE") (boolean false) refl word-false level w u e l a), (λ d level w u e l a. word_in limit (codes "FALSE") (boolean false) refl word-false (suc level) w u e a))

null_decodes : (limit : ℕ) → DecodesTo limit null × DecodesIn limit null
unfolding put normal deepest
null_decodes limit = ((λ d level w u e l a. word_parses limit (codes "NULL") null refl word-null level w u e l a), (λ d level w u e l a. word_in limit (codes "NULL") null refl word-null (suc level) w u e a))

integer_decodes : (limit : ℕ) (n : List ℕ) → is_number n ≡ true → DecodesTo limit (integer n) × DecodesIn limit (integer n)
unfolding put normal deepest
integer_decodes limit n h = ((λ d level w u e l a. number_parses limit n h level w u e l a), (λ d level w u e l a. number_in limit n h level w u e l a))

-- Numbers with a point.
decimal_parses : (limit : ℕ) (n : List ℕ) → is_decimal n ≡ true → (level : ℕ) (w u : List ℕ) → skip w ≡ n ++ u → level ≤ limit → ComesAfterValue (class_of_next (skip u)) → Parses limit level w (real n) u
decimal_parses limit n h level w u e l a = token_parses limit level w u (n ++ u) (real n) e l (decimal_is_token n u (decimal_of n h) (after_of u a))

pub decimal_letter : (n u : List ℕ) → is_decimal n ≡ true → class_of_next (n ++ u) ≢ is.Letter
decimal_letter n u h k = elim (decimal_lead n u (decimal_of n h)) [ inl a ↦ let x : ⊥ = cc in x | inr a ↦ let x : ⊥ = cc in x ]

decimal_in : (limit : ℕ) (n : List ℕ) → is_decimal n ≡ true → (level : ℕ) (w u : List ℕ) → skip w ≡ n ++ u → suc level ≤ limit → ComesAfterWord (class_of_next (skip u)) → ItemParses limit (suc level) w (bare (real n)) u
decimal_in limit n h level w u e l a = value_item (λ k. decimal_letter n u h (sym (ap class_of_next e) ∙ k)) (decimal_parses limit n h (suc level) (skip w) u (past-past is_space w ∙ e) l (inr a))

-- What a real is: a keyword, a number without a point, or one with it.
pub data Shape (n : List ℕ) : Type 0 where
  keyword : is_real_keyword n ≡ true → Shape n
  whole : is_real_keyword n ≡ false → is_number n ≡ true → Shape n
  parted : is_real_keyword n ≡ false → is_number n ≡ false → is_decimal n ≡ true → Shape n

pub shape_of : (n : List ℕ) → is_number n || is_decimal n || is_real_keyword n ≡ true → Shape n
shape_of n h = elim (cases_Bool (is_real_keyword n)) [
  | inl k ↦ keyword k
  | inr k ↦ elim (cases_Bool (is_number n)) [
    | inl l ↦ whole k l
    | inr l ↦ elim (or_cases (is_number n || is_decimal n) (is_real_keyword n) h) [
      | inl a ↦ elim (or_cases (is_number n) (is_decimal n) a) [ inl b ↦ let x : ⊥ = cc in absurd x | inr b ↦ parted k l b ]
      | inr a ↦ let x : ⊥ = cc in absurd x
    ]
  ]
]

real_decodes : (limit : ℕ) (n : List ℕ) → Shape n → DecodesTo limit (real n) × DecodesIn limit (real n)
unfolding put normal deepest
real_decodes limit n (keyword k) =
    let r = real_word n k in
    let e = sym (cond-false (is_number n) (integer n) (real n) r.no_number) in
    ((λ d level w u f l a. parses_as e (word_parses limit n (real n) r.name r.says level w u f l a)), (λ d level w u f l a. bare_as e (word_in limit n (real n) r.name r.says (suc level) w u f a)))
real_decodes limit n (whole k h) =
    let e = sym (cond-true (is_number n) (integer n) (real n) h) in (
      (λ d level w u f l a. parses_as e (number_parses limit n h level w u f l a)),
      (λ d level w u f l a. bare_as e (number_in limit n h level w u f (subst (λ x. x ≤ limit) (cond-false (is_real_keyword n) level (suc level) k) l) a)),
    )
real_decodes limit n (parted k m h) =
    let e = sym (cond-false (is_number n) (integer n) (real n) m) in (
      (λ d level w u f l a. parses_as e (decimal_parses limit n h level w u f l a)),
      (λ d level w u f l a. bare_as e (decimal_in limit n h level w u f (subst (λ x. x ≤ limit) (cond-false (is_real_keyword n) level (suc level) k) l) a)),
    )

-- Octets and bits.
octets_decode : (limit : ℕ) (octets : List ℕ) → all is_octet octets ≡ true → DecodesTo limit (octet_string octets)
unfolding put normal deepest
octets_decode limit octets h = λ d level w u e l a. token_parses limit level w u (39 ∷ (hex_text octets ++ (39 ∷ 72 ∷ u))) (octet_string octets) e l (octets_is_token octets u h)

bits_decode : (limit : ℕ) (octets : List ℕ) (n : ℕ) → all is_octet octets ≡ true → length octets ≡ (n + 7) / 8 → DecodesTo limit (bit_string octets n)
unfolding put normal deepest
bits_decode limit octets n h r = λ d level w u e l a.
    let x = 39 ∷ (hex_text octets ++ (39 ∷ 72 ∷ u)) in
    let b = take n (bit_text octets) in
    let y = 39 ∷ (b ++ (39 ∷ 66 ∷ u)) in
    elim (cases_Bool (n == 0)) [
      | inl k ↦
          parses_as (sym (cond-true (n == 0) (octet_string []) (cond (n % 8 == 0) (octet_string octets) (bit_string (packed b) n)) k))
          (token_parses limit level w u (39 ∷ 39 ∷ 72 ∷ u) (octet_string []) (e ∙ cond-true (n == 0) (39 ∷ 39 ∷ 72 ∷ u) (cond (n % 8 == 0) x y) k) l (octets_is_token [] u refl))
      | inr k ↦
          let f = e ∙ cond-false (n == 0) (39 ∷ 39 ∷ 72 ∷ u) (cond (n % 8 == 0) x y) k in
          let g = sym (cond-false (n == 0) (octet_string []) (cond (n % 8 == 0) (octet_string octets) (bit_string (packed b) n)) k) in
          elim (cases_Bool (n % 8 == 0)) [
            | inl q ↦ parses_as (sym (cond-true (n % 8 == 0) (octet_string octets) (bit_string (packed b) n) q) ∙ g) (token_parses limit level w u x (octet_string octets) (f ∙ cond-true (n % 8 == 0) x y q) l (octets_is_token octets u h))
            | inr q ↦
                let m : length b ≡ n = omega (arith, length-take-le n (bit_text octets), length-bit_text octets, r) in
                parses_as (ap (bit_string (packed b)) m ∙ sym (cond-false (n % 8 == 0) (octet_string octets) (bit_string (packed b) n) q) ∙ g)
                (token_parses limit level w u y (bit_string (packed b) (length b)) (f ∙ cond-false (n % 8 == 0) x y q) l (bits_is_token b u (every-take is_bit n (bit_text octets) (bit_text-bits octets))))
          ]
    ]

pub apostrophe_letter : (u : List ℕ) → class_of_next (39 ∷ u) ≢ is.Letter
unfolding class_of_char
apostrophe_letter u e = cc

octets_in : (limit : ℕ) (octets : List ℕ) → DecodesTo limit (octet_string octets) → DecodesIn limit (octet_string octets)
unfolding put deepest
octets_in limit octets s = value_in limit (octet_string octets) (λ level. refl) (λ d u. apostrophe_letter (hex_text octets ++ (39 ∷ 72 ∷ u))) s

pub bits_letter : (d : ℕ) (octets : List ℕ) (n : ℕ) (u : List ℕ) → class_of_next (put shown d (bit_string octets n) u) ≢ is.Letter
unfolding put
bits_letter d octets n u k = let e = bits_lead octets n u in let x : ⊥ = cc in x

bits_in : (limit : ℕ) (octets : List ℕ) (n : ℕ) → DecodesTo limit (bit_string octets n) → DecodesIn limit (bit_string octets n)
unfolding deepest
bits_in limit octets n s = value_in limit (bit_string octets n) (λ level. refl) (λ d u. bits_letter d octets n u) s

-- Arcs.
arc_items : List ℕ → List Item
arc_items [] = []
arc_items (a ∷ arcs) = bare (integer (decimal a)) ∷ arc_items arcs

arcs_bare : (arcs : List ℕ) → AllBare (arc_items arcs)
unfolding arc_items
arcs_bare [] = tt
arcs_bare (a ∷ arcs) = arcs_bare arcs

arcs_trees : (arcs : List ℕ) → trees_of (arc_items arcs) ≡ arc_trees arcs
unfolding arc_items
arcs_trees [] = refl
arcs_trees (a ∷ arcs) = ap (tree (integer (decimal a))) (arcs_trees arcs)

integers_more : (xs : List Item) (n : List ℕ) → AllIntegers xs → AllIntegers (xs ++ (bare (integer n) ∷ []))
integers_more [] n h = (refl, tt)
integers_more (named id t ∷ xs) n h = h
integers_more (bare t ∷ xs) n h = (h.0, integers_more xs n h.1)

after_space : (x : List ℕ) → class_of_next (skip x) ≢ is.Colon → After (32 ∷ x)
unfolding class_of_char
after_space x h = record { no_name = refl; no_digit = refl; no_fraction = fraction-other (32 ∷ x) x 32 refl refl; no_quote = λ e. let n : ⊥ = cc in n; no_colon = h }

-- An arc's text begins with a digit.
pub arc_lead : (a : ℕ) (u : List ℕ) → is_arc a ≡ true → class_of_next (decimal a ++ u) ≡ is.Digit
arc_lead a u h = let k = and_parts (starts_with is_digit (decimal a)) (all is_digit (decimal a)) (digits-arc a h) in lead-digit (decimal a) u k.0

pub arc_skip : (a : ℕ) (u : List ℕ) → is_arc a ≡ true → skip (decimal a ++ u) ≡ decimal a ++ u
arc_skip a u h = let e = arc_lead a u h in skip-lead (decimal a ++ u) (λ k. let n : ⊥ = cc in n)

close_colon : (u : List ℕ) → class_of_next (skip (125 ∷ u)) ≢ is.Colon
unfolding class_of_char
close_colon u e = cc

arcs_after : (arcs u : List ℕ) → all is_arc arcs ≡ true → After (put_arcs arcs (32 ∷ 125 ∷ u))
unfolding put_arcs
arcs_after [] u h = after_space (125 ∷ u) (close_colon u)
arcs_after (a ∷ arcs) u h =
    let k = and_parts (is_arc a) (all is_arc arcs) h in
    let r = put_arcs arcs (32 ∷ 125 ∷ u) in
    after_space (decimal a ++ r) (λ e. let f = ap class_of_next (arc_skip a r k.0) in let g = arc_lead a r k.0 in let n : ⊥ = cc in n)

digit_letter : (k : CharClass) → k ≡ is.Digit → k ≡ is.Letter → ⊥
digit_letter k a b = cc

arc_parses : (limit level a : ℕ) (w u : List ℕ) → is_arc a ≡ true → skip w ≡ decimal a ++ u → suc level ≤ limit → After u → ItemParses limit (suc level) w (bare (integer (decimal a))) u
arc_parses limit level a w u h e l f =
    let k = and_parts (starts_with is_digit (decimal a)) (all is_digit (decimal a)) (digits-arc a h) in
    let g = arc_lead a u h in
    value_item (λ q. digit_letter _ g (sym (ap class_of_next e) ∙ q))
    (token_parses limit (suc level) (skip w) u (decimal a ++ u) (integer (decimal a)) (past-past is_space w ∙ e) l (number_is_token (decimal a) u (plain (decimal a) k.0 k.1) f))

close_lead : (u : List ℕ) → class_of_next (skip (32 ∷ 125 ∷ u)) ≡ is.CloseBrace
unfolding class_of_char
close_lead u = refl

arcs_follow : (limit level : ℕ) (arcs : List ℕ) (before : List Item) (w u : List ℕ) (x : Item) → all is_arc arcs ≡ true → suc level ≤ limit → AllIntegers (before ++ (x ∷ [])) → ItemParses limit (suc level) w x (put_arcs arcs (32 ∷ 125 ∷ u))
    → ItemsParse limit (suc level) before w (x ∷ arc_items arcs) u
unfolding put_arcs arc_items
arcs_follow limit level [] before w u x h l i k = last_item k (close_lead u)
arcs_follow limit level (a ∷ arcs) before w u x h l i k =
    let p = and_parts (is_arc a) (all is_arc arcs) h in
    let r = put_arcs arcs (32 ∷ 125 ∷ u) in
    let s = arc_skip a r p.0 in
    number_item k i (inl (ap class_of_next s ∙ arc_lead a r p.0))
    (arcs_follow limit level arcs (before ++ (x ∷ [])) (skip (decimal a ++ r)) u (bare (integer (decimal a))) p.1 l (integers_more (before ++ (x ∷ [])) (decimal a) i) (arc_parses limit level a (skip (decimal a ++ r)) r p.0 (past-past is_space (decimal a ++ r) ∙ s) l (arcs_after arcs u p.1)))

no_arcs_parse : (limit level : ℕ) (w u : List ℕ) → skip w ≡ 123 ∷ 32 ∷ 125 ∷ u → level ≤ limit → Parses limit level w (sequence_of no_trees) u
unfolding class_of_char
no_arcs_parse limit level w u e l =
    subst (λ x. Parses limit level w (sequence_of no_trees) x) (ap (λ x. tail (skip (tail x))) e) (empty_braces l (ap class_of_next e) (ap (λ x. class_of_next (skip (tail x))) e))

arcs_decode : (limit : ℕ) (arcs : List ℕ) → all is_arc arcs ≡ true → DecodesTo limit (oid arcs)
unfolding put put_arcs normal deepest arc_items
arcs_decode limit [] h = λ d level w u e l a. no_arcs_parse limit level w u e l
arcs_decode limit (b ∷ arcs) h = λ d level w u e l a.
    let p = and_parts (is_arc b) (all is_arc arcs) h in
    let r = put_arcs arcs (32 ∷ 125 ∷ u) in
    let v = 32 ∷ (decimal b ++ r) in
    let items : ItemsParse limit (suc level) [] v (arc_items (b ∷ arcs)) u =
    arcs_follow limit level arcs [] v u (bare (integer (decimal b))) p.1 l (refl, tt) (arc_parses limit level b v r p.0 (arc_skip b r p.0) l (arcs_after arcs u p.1)) in
    parses_as (ap sequence_of (arcs_trees (b ∷ arcs))) (list_parses limit level w v u (arc_items (b ∷ arcs)) e (omega (arith, l)) items (arcs_bare (b ∷ arcs)))

pub arcs_level : (arcs : List ℕ) (level : ℕ) → deepest (suc level) (oid arcs) ≡ deepest_in level (oid arcs)
unfolding deepest
arcs_level [] level = refl
arcs_level (a ∷ arcs) level = refl

pub arcs_letter : (d : ℕ) (arcs u : List ℕ) → class_of_next (put shown d (oid arcs) u) ≢ is.Letter
unfolding put class_of_char
arcs_letter d arcs u e = cc

arcs_in : (limit : ℕ) (arcs : List ℕ) → DecodesTo limit (oid arcs) → DecodesIn limit (oid arcs)
arcs_in limit arcs s = value_in limit (oid arcs) (arcs_level arcs) (λ d u. arcs_letter d arcs u) s

enumerated_decodes : (limit : ℕ) (id : List ℕ) → is_identifier id ≡ true → is_keyword id ≡ false → DecodesTo limit (enumerated id) × DecodesIn limit (enumerated id)
unfolding put normal deepest
enumerated_decodes limit id i k =
    let s = word_enumerated id i k in ((λ d level w u e l a. word_parses limit id (enumerated id) i s level w u e l a), (λ d level w u e l a. word_in limit id (enumerated id) i s (suc level) w u e a))

text_decodes : (limit : ℕ) (text : List ℕ) → is_utf8 text ≡ true → DecodesTo limit (char_string text)
unfolding put normal deepest
text_decodes limit text h = λ d level w u e l a. token_parses limit level w u (34 ∷ (shown text ++ (34 ∷ u))) (char_string text) e l (quoted_token text u (IsUtf8-from_is_utf8 text h) (after_of u a))

empty_decodes : (limit : ℕ) → DecodesTo limit (sequence_of no_trees)
unfolding put normal deepest
empty_decodes limit = λ d level w u e l a. empty_parses limit level w u e l

pub quote_letter : (u : List ℕ) → class_of_next (34 ∷ u) ≢ is.Letter
unfolding class_of_char
quote_letter u e = cc

pub brace_letter : (u : List ℕ) → class_of_next (123 ∷ u) ≢ is.Letter
unfolding class_of_char
brace_letter u e = cc

text_in : (limit : ℕ) (text : List ℕ) → DecodesTo limit (char_string text) → DecodesIn limit (char_string text)
unfolding put deepest
text_in limit text s = value_in limit (char_string text) (λ level. refl) (λ d u. quote_letter (shown text ++ (34 ∷ u))) s

list_in : (limit : ℕ) (ts : Trees) → DecodesTo limit (sequence_of ts) → DecodesIn limit (sequence_of ts)
unfolding put deepest
list_in limit no_trees s = value_in limit (sequence_of no_trees) (λ level. refl) (λ d u. brace_letter (125 ∷ u)) s
list_in limit (tree t ts) s = value_in limit (sequence_of (tree t ts)) (λ level. refl) (λ d u. brace_letter (put_rows shown (suc d) 0 (tree t ts) (10 ∷ (indent d ++ (125 ∷ u))))) s

sequence_in : (limit : ℕ) (fs : Fields) → DecodesTo limit (sequence fs) → DecodesIn limit (sequence fs)
unfolding put deepest
sequence_in limit fs s = value_in limit (sequence fs) (λ level. refl)
    (λ d u. elim (has_fields fs) as (λ b. class_of_next (cond b (123 ∷ put_fields shown (suc d) 0 fs (10 ∷ (indent d ++ (125 ∷ u)))) (123 ∷ 125 ∷ u)) ≢ is.Letter) [
      | true ↦ brace_letter (put_fields shown (suc d) 0 fs (10 ∷ (indent d ++ (125 ∷ u))))
      | false ↦ brace_letter (125 ∷ u)
    ]) s

mutual
  unfolding is_well_formed

  pub says : (limit : ℕ) (t : Tree) → is_well_formed t ≡ true → DecodesTo limit t × DecodesIn limit t
  says limit (boolean true) h = true_decodes limit
  says limit (boolean false) h = false_decodes limit
  says limit null h = null_decodes limit
  says limit (integer n) h = integer_decodes limit n h
  says limit (real n) h = real_decodes limit n (shape_of n h)
  says limit (octet_string octets) h = let s = octets_decode limit octets h in (s, octets_in limit octets s)
  says limit (bit_string octets n) h =
      let k = and_parts (all is_octet octets) (length octets == (n + 7) / 8) h in
      let s = bits_decode limit octets n k.0 (eqb-true (length octets) ((n + 7) / 8) k.1) in (s, bits_in limit octets n s)
  says limit (oid arcs) h = let s = arcs_decode limit arcs h in (s, arcs_in limit arcs s)
  says limit (enumerated id) h = let k = and_parts (is_identifier id) (not (is_keyword id)) h in enumerated_decodes limit id k.0 (not-true (is_keyword id) k.1)
  says limit (char_string text) h = let s = text_decodes limit text h in (s, text_in limit text s)
  says limit (sequence fs) h = let s = fields_decode limit fs (fields_begin limit fs h) in (s, sequence_in limit fs s)
  says limit (sequence_of no_trees) h = let s = empty_decodes limit in (s, list_in limit no_trees s)
  says limit (sequence_of (tree t ts)) h =
      let k = and_parts (is_well_formed t) (are_well_formed ts) h in
      let p = says limit t k.0 in
      let s = first_row limit t ts k.0 p.1 (rows_decode limit ts k.1) in (s, list_in limit (tree t ts) s)
  says limit (choice id t) h =
      let k = and_parts (is_identifier id) (is_well_formed t) h in
      let p = says limit t k.1 in (choice_decodes limit id t k.0 k.1 p.0, choice_in limit id t k.0 k.1 p.0)

  pub rows_decode : (limit : ℕ) (ts : Trees) → are_well_formed ts ≡ true → RowsDecode limit ts
  rows_decode limit no_trees h = no_rows limit
  rows_decode limit (tree t ts) h =
      let k = and_parts (is_well_formed t) (are_well_formed ts) h in
      let p = says limit t k.0 in
      more_rows limit t ts k.0 p.1 (rows_decode limit ts k.1)

  pub fields_follow : (limit : ℕ) (fs : Fields) → are_fields_well_formed fs ≡ true → FieldsDecode limit fs
  fields_follow limit no_fields h = no_more_fields limit
  fields_follow limit (field id t fs) h =
      let k = and_parts (is_identifier id) (is_well_formed t && are_fields_well_formed fs) h in
      let l = and_parts (is_well_formed t) (are_fields_well_formed fs) k.1 in
      let p = says limit t l.0 in
      more_fields limit id t fs k.0 l.0 p.0 (fields_follow limit fs l.1)
  fields_follow limit (absent id fs) h = absent_field limit id fs (fields_follow limit fs (and_parts (is_identifier id) (are_fields_well_formed fs) h).1)

  pub fields_begin : (limit : ℕ) (fs : Fields) → are_fields_well_formed fs ≡ true → FieldsBegin limit fs
  fields_begin limit no_fields h = none_first limit
  fields_begin limit (field id t fs) h =
      let k = and_parts (is_identifier id) (is_well_formed t && are_fields_well_formed fs) h in
      let l = and_parts (is_well_formed t) (are_fields_well_formed fs) k.1 in
      let p = says limit t l.0 in
      first_field limit id t fs k.0 l.0 p.0 (fields_follow limit fs l.1)
  fields_begin limit (absent id fs) h = absent_first limit id fs (fields_begin limit fs (and_parts (is_identifier id) (are_fields_well_formed fs) h).1)
