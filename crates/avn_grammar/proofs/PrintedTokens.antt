-- A printed text says the normal form of its tree.
use Rattle.std.proofs.Common.{◌≡◌, ◌≢◌, ◌⊎◌, inl, inr, ℕ, suc, ◌≤◌, List, [], ◌∷◌, ◌++◌, true, false, cond, not, ◌==◌, ◌&&◌, ◌||◌, refl, sym, ap, subst, ◌∙◌, length, arith, append_assoc, codes}
use Rattle.std.proofs.lemmas.Bool.{cases_Bool, eqb-true, and_parts, or_cases, or_parts, cond-true, cond-false}
use Rattle.std.specs.Str.{IsUtf8, chars, bytes_eq}
use Rattle.std.specs.Char.{encode_utf8}
use Rattle.std.proofs.lemmas.Str.{encodes-IsAscii, encodes-chars}
use Rattle.std.proofs.lemmas.Slice.Eq.{bytes_eq-Decides}
use Rattle.avn_grammar.specs.declared.chars.CharClass.{CharClass}
use Rattle.avn_grammar.specs.declared.chars.CharClass.TheVariants as is
use Rattle.avn_grammar.specs.Chars.{class_of_next, class_of_char, tail, take_while, skip_while, skip, is_digit, is_name, is_letter, starts_with, has_fraction, utf8_of, all, is_not_apostrophe, without_whitespace}
use Rattle.avn_grammar.specs.Depth.{deepest, deepest_field, deepest_item}
use Rattle.avn_grammar.specs.Grammar.{word, word_of, is_real_keyword, number_tree, past_number, Token, number_token, negative_token, octets_token, bits_token, text_token, Ident, ComesAfterWord}
use Rattle.avn_grammar.specs.Octets.{are_pairs, octets_of, is_bit, packed, hex_text, bit_text}
use Rattle.avn_grammar.specs.Print.{indent, has_fields}
use Rattle.avn_grammar.specs.Tree.{Tree, Trees, Fields, boolean, null, integer, real, octet_string, bit_string, oid, enumerated, char_string, sequence, sequence_of, choice, no_trees, tree, no_fields, field, absent}
use Rattle.avn_grammar.specs.WellFormed.{is_number, is_digits, is_identifier, is_keyword, is_well_formed, is_decimal, is_fraction, is_octet}
use Rattle.std.proofs.Common.{◌%◌, take}
use Rattle.avn_grammar.proofs.Digits.{hex_of, bits_of, every-front, begins-front, front-past}
use Rattle.avn_grammar.proofs.RunsBefore.{ascii-every, digit-low, front-run, past-run, After, lead-letter, lead-digit}
use Rattle.avn_grammar.proofs.PrintedBefore.{put, put_fields, shown, ascii-identifier}

-- What a printed value begins with.
abbrev pub OfValue : CharClass → Type 0
OfValue k = (k ≡ is.Letter) ⊎ ((k ≡ is.Digit) ⊎ ((k ≡ is.Minus) ⊎ ((k ≡ is.Quote) ⊎ ((k ≡ is.OpenBrace) ⊎ (k ≡ is.Apostrophe)))))

pub value_space : (k : CharClass) → OfValue k → k ≢ is.Space
value_space k (inl a) b = cc
value_space k (inr (inl a)) b = cc
value_space k (inr (inr (inl a))) b = cc
value_space k (inr (inr (inr (inl a)))) b = cc
value_space k (inr (inr (inr (inr (inl a))))) b = cc
value_space k (inr (inr (inr (inr (inr a))))) b = cc

pub value_colon : (k : CharClass) → OfValue k → k ≢ is.Colon
value_colon k (inl a) b = cc
value_colon k (inr (inl a)) b = cc
value_colon k (inr (inr (inl a))) b = cc
value_colon k (inr (inr (inr (inl a)))) b = cc
value_colon k (inr (inr (inr (inr (inl a))))) b = cc
value_colon k (inr (inr (inr (inr (inr a))))) b = cc

value_comma : (k : CharClass) → OfValue k → k ≢ is.Comma
value_comma k (inl a) b = cc
value_comma k (inr (inl a)) b = cc
value_comma k (inr (inr (inl a))) b = cc
value_comma k (inr (inr (inr (inl a)))) b = cc
value_comma k (inr (inr (inr (inr (inl a))))) b = cc
value_comma k (inr (inr (inr (inr (inr a))))) b = cc

pub value_close : (k : CharClass) → OfValue k → k ≢ is.CloseBrace
value_close k (inl a) b = cc
value_close k (inr (inl a)) b = cc
value_close k (inr (inr (inl a))) b = cc
value_close k (inr (inr (inr (inl a)))) b = cc
value_close k (inr (inr (inr (inr (inl a))))) b = cc
value_close k (inr (inr (inr (inr (inr a))))) b = cc

pub value_word : (k : CharClass) → OfValue k → ComesAfterWord k → ⊥
value_word k a (inl b) = value_comma k a b
value_word k a (inr b) = value_close k a b

-- Numbers.
pub data Number : List ℕ → Type 0 where
  plain : (m : List ℕ) → starts_with is_digit m ≡ true → all is_digit m ≡ true → Number m
  minus : (m : List ℕ) → starts_with is_digit m ≡ true → all is_digit m ≡ true → Number (45 ∷ m)

pub number_of : (n : List ℕ) → is_number n ≡ true → Number n
number_of [] h = let e : ⊥ = cc in absurd e
number_of (c ∷ n) h = elim (cases_Bool (c == 45)) [
  | inl e ↦
      let k : is_digits n ≡ true = ap is_digits (sym (cond-true (c == 45) n (c ∷ n) e)) ∙ h in
      let p = and_parts (starts_with is_digit n) (all is_digit n) k in
      subst (λ x. Number (x ∷ n)) (sym (eqb-true c 45 e)) (minus n p.0 p.1)
  | inr e ↦
      let k : is_digits (c ∷ n) ≡ true = ap is_digits (sym (cond-false (c == 45) n (c ∷ n) e)) ∙ h in
      let p = and_parts (starts_with is_digit (c ∷ n)) (all is_digit (c ∷ n)) k in
      plain (c ∷ n) p.0 p.1
]

pub number_lead : (n u : List ℕ) → Number n → (class_of_next (n ++ u) ≡ is.Digit) ⊎ (class_of_next (n ++ u) ≡ is.Minus)
unfolding class_of_char
number_lead n u (plain m a b) = inl (lead-digit m u a)
number_lead n u (minus m a b) = inr refl

spelled-digits : (m : List ℕ) → all is_digit m ≡ true → utf8_of m ≡ m
spelled-digits m h = encodes-IsAscii m (ascii-every is_digit digit-low m h)

token_as : {w r s : List ℕ} {t v : Tree} → Token w t r → t ≡ v → r ≡ s → Token w v s
token_as {w = w} {r = r} {v = v} k e f = subst (λ x. Token w v x) f (subst (λ x. Token w x r) e k)

-- A number without a point before other text, after its sign.
module _ (sign m u : List ℕ) (digits : all is_digit m ≡ true) (ends : After u) where
  past-digits : skip_while is_digit (m ++ u) ≡ u
  past-digits = past-run is_digit m u digits ends.no_digit

  no_fraction : has_fraction (skip_while is_digit (m ++ u)) ≡ false
  no_fraction = ap has_fraction past-digits ∙ ends.no_fraction

  pub number_tree-integer : number_tree sign (m ++ u) ≡ integer (sign ++ m)
  number_tree-integer = cond-false (has_fraction (skip_while is_digit (m ++ u))) _ _ no_fraction ∙ ap (λ x. integer (sign ++ utf8_of x)) (front-run is_digit m u digits ends.no_digit) ∙ ap (λ x. integer (sign ++ x)) (spelled-digits m digits)

  pub past_number-integer : past_number (m ++ u) ≡ u
  past_number-integer = cond-false (has_fraction (skip_while is_digit (m ++ u))) _ _ no_fraction ∙ past-digits

pub number_is_token : (n u : List ℕ) → Number n → After u → Token (n ++ u) (integer n) u
unfolding class_of_char
number_is_token n u (plain m a b) f = token_as (number_token (lead-digit m u a)) (number_tree-integer [] m u b f) (past_number-integer [] m u b f)
number_is_token n u (minus m a b) f = token_as (negative_token refl (lead-digit m u a)) (number_tree-integer (45 ∷ []) m u b f) (past_number-integer (45 ∷ []) m u b f)

-- Numbers with a point.
pub data Decimal : List ℕ → Type 0 where
  point : (m f : List ℕ) → starts_with is_digit m ≡ true → all is_digit m ≡ true → starts_with is_digit f ≡ true → all is_digit f ≡ true → Decimal (m ++ (46 ∷ f))
  minus_point : (m f : List ℕ) → starts_with is_digit m ≡ true → all is_digit m ≡ true → starts_with is_digit f ≡ true → all is_digit f ≡ true → Decimal (45 ∷ (m ++ (46 ∷ f)))

pub record Fraction (v : List ℕ) : Type 0 where
  pub digits : List ℕ
  pub is : v ≡ 46 ∷ digits
  pub starts : starts_with is_digit digits ≡ true
  pub whole : all is_digit digits ≡ true

pub fraction_of : (v : List ℕ) → is_fraction v ≡ true → Fraction v
fraction_of [] h = let n : ⊥ = cc in absurd n
fraction_of (c ∷ f) h =
    let k = and_parts (c == 46) (is_digits f) h in
    let l = and_parts (starts_with is_digit f) (all is_digit f) k.1 in
    record { digits = f; is = ap (λ x. x ∷ f) (eqb-true c 46 k.0); starts = l.0; whole = l.1 }

unsigned_decimal : (P : List ℕ → Type 0) → ((m f : List ℕ) → starts_with is_digit m ≡ true → all is_digit m ≡ true → starts_with is_digit f ≡ true → all is_digit f ≡ true → P (m ++ (46 ∷ f)))
    → (u : List ℕ) → starts_with is_digit u && is_fraction (skip_while is_digit u) ≡ true → P u
unsigned_decimal P p u h =
    let k = and_parts (starts_with is_digit u) (is_fraction (skip_while is_digit u)) h in
    let f = fraction_of (skip_while is_digit u) k.1 in
    subst P (ap (λ x. take_while is_digit u ++ x) (sym f.is) ∙ front-past is_digit u) (p (take_while is_digit u) f.digits (begins-front is_digit u k.0) (every-front is_digit u) f.starts f.whole)

pub decimal_of : (n : List ℕ) → is_decimal n ≡ true → Decimal n
decimal_of [] h = let e : ⊥ = cc in absurd e
decimal_of (c ∷ n) h = elim (cases_Bool (c == 45)) [
  | inl e ↦
      let k : starts_with is_digit n && is_fraction (skip_while is_digit n) ≡ true = ap (λ x. starts_with is_digit x && is_fraction (skip_while is_digit x)) (sym (cond-true (c == 45) n (c ∷ n) e)) ∙ h in
      subst (λ x. Decimal (x ∷ n)) (sym (eqb-true c 45 e)) (unsigned_decimal (λ x. Decimal (45 ∷ x)) minus_point n k)
  | inr e ↦
      let k : starts_with is_digit (c ∷ n) && is_fraction (skip_while is_digit (c ∷ n)) ≡ true = ap (λ x. starts_with is_digit x && is_fraction (skip_while is_digit x)) (sym (cond-false (c == 45) n (c ∷ n) e)) ∙ h in
      unsigned_decimal Decimal point (c ∷ n) k
]

pub decimal_lead : (n u : List ℕ) → Decimal n → (class_of_next (n ++ u) ≡ is.Digit) ⊎ (class_of_next (n ++ u) ≡ is.Minus)
unfolding class_of_char
decimal_lead n u (point m f a b c d) = inl (ap class_of_next (append_assoc m (46 ∷ f) u) ∙ lead-digit m (46 ∷ (f ++ u)) a)
decimal_lead n u (minus_point m f a b c d) = inr refl

has_point : (f u : List ℕ) → starts_with is_digit f ≡ true → has_fraction (46 ∷ (f ++ u)) ≡ true
has_point [] u h = let n : ⊥ = cc in absurd n
has_point (c ∷ f) u h = h

-- A number with a point before other text, after its sign.
module _ (sign m f u : List ℕ) (digits : all is_digit m ≡ true) (starts : starts_with is_digit f ≡ true) (decimals : all is_digit f ≡ true) (ends : After u) where
  past-whole : skip_while is_digit (m ++ (46 ∷ (f ++ u))) ≡ 46 ∷ (f ++ u)
  past-whole = past-run is_digit m (46 ∷ (f ++ u)) digits refl

  fraction : has_fraction (skip_while is_digit (m ++ (46 ∷ (f ++ u)))) ≡ true
  fraction = ap has_fraction past-whole ∙ has_point f u starts

  fraction-digits : take_while is_digit (tail (skip_while is_digit (m ++ (46 ∷ (f ++ u))))) ≡ f
  fraction-digits = ap (λ x. take_while is_digit (tail x)) past-whole ∙ front-run is_digit f u decimals ends.no_digit

  joined : (a b : List ℕ) → a ≡ m → b ≡ f → sign ++ utf8_of a ++ (46 ∷ []) ++ utf8_of b ≡ sign ++ (m ++ (46 ∷ f))
  joined a b e g =
      ap (λ x. sign ++ utf8_of x ++ (46 ∷ []) ++ utf8_of b) e ∙ ap (λ x. sign ++ x ++ (46 ∷ []) ++ utf8_of b) (spelled-digits m digits)
      ∙ ap (λ x. sign ++ m ++ (46 ∷ []) ++ utf8_of x) g ∙ ap (λ x. sign ++ m ++ (46 ∷ []) ++ x) (spelled-digits f decimals)
      ∙ append_assoc (sign ++ m) (46 ∷ []) f ∙ append_assoc sign m (46 ∷ f)

  pub number_tree-real : number_tree sign (m ++ (46 ∷ (f ++ u))) ≡ real (sign ++ (m ++ (46 ∷ f)))
  number_tree-real = cond-true (has_fraction (skip_while is_digit (m ++ (46 ∷ (f ++ u))))) _ _ fraction ∙ ap real (joined _ _ (front-run is_digit m (46 ∷ (f ++ u)) digits refl) fraction-digits)

  pub past_number-real : past_number (m ++ (46 ∷ (f ++ u))) ≡ u
  past_number-real = cond-true (has_fraction (skip_while is_digit (m ++ (46 ∷ (f ++ u))))) _ _ fraction ∙ ap (λ x. skip_while is_digit (tail x)) past-whole ∙ past-run is_digit f u decimals ends.no_digit

pub decimal_is_token : (n u : List ℕ) → Decimal n → After u → Token (n ++ u) (real n) u
unfolding class_of_char
decimal_is_token n u (point m f a b c d) g =
    subst (λ x. Token x (real (m ++ (46 ∷ f))) u) (sym (append_assoc m (46 ∷ f) u)) (token_as (number_token (lead-digit m (46 ∷ (f ++ u)) a)) (number_tree-real [] m f u b c d g) (past_number-real [] m f u b c d g))
decimal_is_token n u (minus_point m f a b c d) g =
    subst (λ x. Token (45 ∷ x) (real (45 ∷ (m ++ (46 ∷ f)))) u) (sym (append_assoc m (46 ∷ f) u))
    (token_as (negative_token {w = 45 ∷ (m ++ (46 ∷ (f ++ u)))} refl (lead-digit m (46 ∷ (f ++ u)) a)) (number_tree-real (45 ∷ []) m f u b c d g) (past_number-real (45 ∷ []) m f u b c d g))

-- Octets and bits.
pub octets_is_token : (octets u : List ℕ) → all is_octet octets ≡ true → Token (39 ∷ (hex_text octets ++ (39 ∷ 72 ∷ u))) (octet_string octets) u
unfolding class_of_char
octets_is_token octets u h =
    let x = hex_of octets h in
    let f : take_while is_not_apostrophe (hex_text octets ++ (39 ∷ 72 ∷ u)) ≡ hex_text octets = front-run is_not_apostrophe (hex_text octets) (39 ∷ 72 ∷ u) x.within refl in
    let s : without_whitespace (take_while is_not_apostrophe (hex_text octets ++ (39 ∷ 72 ∷ u))) ≡ hex_text octets = ap without_whitespace f ∙ x.whole in
    token_as (octets_token {w = 39 ∷ (hex_text octets ++ (39 ∷ 72 ∷ u))} {rest = u} refl (past-run is_not_apostrophe (hex_text octets) (39 ∷ 72 ∷ u) x.within refl) (ap are_pairs s ∙ x.pairs)) (ap (λ y. octet_string (octets_of y)) s ∙ ap octet_string x.says) refl

pub bits_is_token : (bits u : List ℕ) → all is_bit bits ≡ true → Token (39 ∷ (bits ++ (39 ∷ 66 ∷ u))) (bit_string (packed bits) (length bits)) u
unfolding class_of_char
bits_is_token bits u h =
    let x = bits_of bits h in
    let f : take_while is_not_apostrophe (bits ++ (39 ∷ 66 ∷ u)) ≡ bits = front-run is_not_apostrophe bits (39 ∷ 66 ∷ u) x.within refl in
    let s : without_whitespace (take_while is_not_apostrophe (bits ++ (39 ∷ 66 ∷ u))) ≡ bits = ap without_whitespace f ∙ x.whole in
    token_as (bits_token {w = 39 ∷ (bits ++ (39 ∷ 66 ∷ u))} {rest = u} refl (past-run is_not_apostrophe bits (39 ∷ 66 ∷ u) x.within refl) (ap (all is_bit) s ∙ h)) (ap (λ y. bit_string (packed y) (length y)) s) refl

pub quoted_token : (text u : List ℕ) → IsUtf8 text → After u → Token (34 ∷ (shown text ++ (34 ∷ u))) (char_string text) u
quoted_token text u i f = token_as (text_token (chars text) refl f.no_quote) (ap char_string (encodes-chars text i)) refl

-- Words.
pub word_enumerated : (id : List ℕ) → is_identifier id ≡ true → is_keyword id ≡ false → word id ≡ enumerated id
unfolding word_of
word_enumerated id i h =
    let a = or_parts (bytes_eq id (codes "TRUE")) (bytes_eq id (codes "FALSE") || (bytes_eq id (codes "NULL") || is_real_keyword id)) h in
    let b = or_parts (bytes_eq id (codes "FALSE")) (bytes_eq id (codes "NULL") || is_real_keyword id) a.1 in
    let c = or_parts (bytes_eq id (codes "NULL")) (is_real_keyword id) b.1 in
    ap word_of (encodes-IsAscii id (ascii-identifier id i)) ∙ cond-false (bytes_eq id (codes "TRUE")) _ _ a.0 ∙ cond-false (bytes_eq id (codes "FALSE")) _ _ b.0 ∙ cond-false (bytes_eq id (codes "NULL")) _ _ c.0 ∙ cond-false (is_real_keyword id) _ _ c.1

pub record RealWord (n : List ℕ) : Type 0 where
  pub name : is_identifier n ≡ true
  pub no_number : is_number n ≡ false
  pub says : word n ≡ real n

real_word_at : (n m : List ℕ) → bytes_eq n m ≡ true → RealWord m → RealWord n
real_word_at n m h r = subst RealWord (sym ((bytes_eq-Decides n m).0 h)) r

pub real_word : (n : List ℕ) → is_real_keyword n ≡ true → RealWord n
unfolding word_of encode_utf8
real_word n h = elim (or_cases (bytes_eq n (codes "PLUS-INFINITY") || bytes_eq n (codes "MINUS-INFINITY")) (bytes_eq n (codes "NOT-A-NUMBER")) h) [
  | inl a ↦ elim (or_cases (bytes_eq n (codes "PLUS-INFINITY")) (bytes_eq n (codes "MINUS-INFINITY")) a) [
    | inl b ↦ real_word_at n (codes "PLUS-INFINITY") b (record { name = refl; no_number = refl; says = refl })
    | inr b ↦ real_word_at n (codes "MINUS-INFINITY") b (record { name = refl; no_number = refl; says = refl })
  ]
  | inr a ↦ real_word_at n (codes "NOT-A-NUMBER") a (record { name = refl; no_number = refl; says = refl })
]

pub word-true : word (codes "TRUE") ≡ boolean true
unfolding word_of encode_utf8
word-true = refl

pub word-false : word (codes "FALSE") ≡ boolean false
unfolding word_of encode_utf8
word-false = refl

pub word-null : word (codes "NULL") ≡ null
unfolding word_of encode_utf8
word-null = refl

-- An identifier, and what stops it.
pub ident_of : (w id u : List ℕ) → skip w ≡ id ++ u → is_identifier id ≡ true → starts_with is_name u ≡ false → Ident (skip w) id u
ident_of w id u e i n =
    let k = and_parts (starts_with is_letter id) (all is_name id) i in
    record {
      starts = ap class_of_next e ∙ lead-letter id u k.0;
      longest = sym (ap (take_while is_name) e ∙ front-run is_name id u k.1 n);
      left = sym (ap (skip_while is_name) e ∙ past-run is_name id u k.1 n);
    }

pub plain_name : (id : List ℕ) → is_identifier id ≡ true → utf8_of id ≡ id
plain_name id i = encodes-IsAscii id (ascii-identifier id i)

-- What a printed value begins with.
begins_letter : (id u : List ℕ) → is_identifier id ≡ true → OfValue (class_of_next (id ++ u))
begins_letter id u i = inl (lead-letter id u (and_parts (starts_with is_letter id) (all is_name id) i).0)

begins_number : (n u : List ℕ) → is_number n ≡ true → OfValue (class_of_next (n ++ u))
begins_number n u h = elim (number_lead n u (number_of n h)) [ inl a ↦ inr (inl a) | inr a ↦ inr (inr (inl a)) ]

pub brace : (w u : List ℕ) → w ≡ 123 ∷ u → class_of_next w ≡ is.OpenBrace
unfolding class_of_char
brace w u e = ap class_of_next e

begins_decimal : (n u : List ℕ) → is_decimal n ≡ true → OfValue (class_of_next (n ++ u))
begins_decimal n u h = elim (decimal_lead n u (decimal_of n h)) [ inl a ↦ inr (inl a) | inr a ↦ inr (inr (inl a)) ]

pub bits_lead : (octets : List ℕ) (n : ℕ) (u : List ℕ)
    → class_of_next (cond (n == 0) (39 ∷ 39 ∷ 72 ∷ u) (cond (n % 8 == 0) (39 ∷ (hex_text octets ++ (39 ∷ 72 ∷ u))) (39 ∷ (take n (bit_text octets) ++ (39 ∷ 66 ∷ u))))) ≡ is.Apostrophe
unfolding class_of_char
bits_lead octets n u = elim (n == 0) as (λ b. class_of_next (cond b (39 ∷ 39 ∷ 72 ∷ u) (cond (n % 8 == 0) (39 ∷ (hex_text octets ++ (39 ∷ 72 ∷ u))) (39 ∷ (take n (bit_text octets) ++ (39 ∷ 66 ∷ u))))) ≡ is.Apostrophe) [
  | true ↦ refl
  | false ↦ elim (n % 8 == 0) as (λ b. class_of_next (cond b (39 ∷ (hex_text octets ++ (39 ∷ 72 ∷ u))) (39 ∷ (take n (bit_text octets) ++ (39 ∷ 66 ∷ u)))) ≡ is.Apostrophe) [ true ↦ refl | false ↦ refl ]
]

pub begins_value : (d : ℕ) (t : Tree) (u : List ℕ) → is_well_formed t ≡ true → OfValue (class_of_next (put shown d t u))
unfolding put is_well_formed class_of_char
begins_value d (boolean true) u h = inl refl
begins_value d (boolean false) u h = inl refl
begins_value d null u h = inl refl
begins_value d (integer n) u h = begins_number n u h
begins_value d (real n) u h = elim (or_cases (is_number n || is_decimal n) (is_real_keyword n) h) [
  | inl a ↦ elim (or_cases (is_number n) (is_decimal n) a) [ inl b ↦ begins_number n u b | inr b ↦ begins_decimal n u b ]
  | inr a ↦ begins_letter n u (real_word n a).name
]
begins_value d (octet_string octets) u h = inr (inr (inr (inr (inr refl))))
begins_value d (bit_string octets n) u h = inr (inr (inr (inr (inr (bits_lead octets n u)))))
begins_value d (oid arcs) u h = inr (inr (inr (inr (inl refl))))
begins_value d (enumerated id) u h = begins_letter id u (and_parts (is_identifier id) (not (is_keyword id)) h).0
begins_value d (char_string text) u h = inr (inr (inr (inl refl)))
begins_value d (sequence fs) u h =
    elim (has_fields fs) as (λ b. OfValue (class_of_next (cond b (123 ∷ put_fields shown (suc d) 0 fs (10 ∷ (indent d ++ (125 ∷ u)))) (123 ∷ 125 ∷ u)))) [ true ↦ inr (inr (inr (inr (inl refl)))) | false ↦ inr (inr (inr (inr (inl refl)))) ]
begins_value d (sequence_of no_trees) u h = inr (inr (inr (inr (inl refl))))
begins_value d (sequence_of (tree t ts)) u h = inr (inr (inr (inr (inl refl))))
begins_value d (choice id t) u h = begins_letter id (32 ∷ 58 ∷ 32 ∷ put shown d t u) (and_parts (is_identifier id) (is_well_formed t) h).0

-- Levels.
mutual
  unfolding deepest

  pub level_deepest : (level : ℕ) (t : Tree) → level ≤ deepest level t
  level_deepest level (boolean b) = omega arith
  level_deepest level null = omega arith
  level_deepest level (integer n) = omega arith
  level_deepest level (real n) = omega arith
  level_deepest level (octet_string octets) = omega arith
  level_deepest level (bit_string octets n) = omega arith
  level_deepest level (oid []) = omega arith
  level_deepest level (oid (a ∷ arcs)) = omega arith
  level_deepest level (enumerated id) = omega arith
  level_deepest level (char_string text) = omega arith
  level_deepest level (sequence fs) = level_fields level fs
  level_deepest level (sequence_of ts) = level_items level ts
  level_deepest level (choice id t) = omega (arith, level_deepest (suc level) t)

  pub level_fields : (level : ℕ) (fs : Fields) → level ≤ deepest_field level fs
  level_fields level no_fields = omega arith
  level_fields level (field id t fs) = omega (arith, level_fields level fs)
  level_fields level (absent id fs) = level_fields level fs

  pub level_items : (level : ℕ) (ts : Trees) → level ≤ deepest_item level ts
  level_items level no_trees = omega arith
  level_items level (tree t ts) = omega (arith, level_items level ts)
