-- The strings of a JSON text that is UTF-8 are UTF-8.
use Rattle.std.proofs.Common.{◌≡◌, refl, ap, sym, ◌∙◌, subst, arith, ℕ, ◌+◌, ◌*◌, ◌-◌, ◌<◌, ◌≤◌, List, [], ◌∷◌, ◌++◌, append_assoc, length, drop, take, Bool, true, false, cond, ◌&&◌, ◌||◌, ◌==◌, nat_eq, nat_lt, nat_le, Option, Some, None}
use Rattle.std.specs.Prelude.{option_map, option_and_then}
use Rattle.std.specs.Char.{digit_value, encode_utf8, is_digit}
use Rattle.std.specs.List.{AllByRecursion, starts_with}
use Rattle.std.specs.Str.{IsUtf8, is_utf8}
use Rattle.std.proofs.Math.Seq.{drop-append-add, get_or-append_seam, take-append_seam}
use Rattle.std.proofs.lemmas.Bool.{eqb-true, le-leb, le-ltb, leb-true, lt-ltb, ltb-false, ltb-true}
use Rattle.std.proofs.Math.Dec.{leb, ltb}
use Rattle.std.proofs.Math.Utf8.{scalar}
use Rattle.std.proofs.lemmas.List.{append-nil, length-append}
use Rattle.std.proofs.lemmas.Str.{IsCharBoundary-after_ascii, IsCharBoundary-before_ascii, IsUtf8-append, IsUtf8-drop, IsUtf8-encode, IsUtf8-take, encode_ascii, is_utf8-from_IsUtf8}
use Rattle.json.specs.Lex.{Class, Lexeme, Mode, Place, begins_colon, class, if_allowed, lex, lex_byte, may_begin, may_close, operator_lexeme, place_token, punctuate, string_token, tokens}
use Rattle.json.specs.Text.{Within, code_unit, content, is_high_surrogate, is_low_surrogate, prepend, short_escape, surrogate_pair}
use Rattle.json.specs.Token.{Token}
use Rattle.json.specs.Ascii.{false_text, null_text, true_text}
use Rattle.json.specs.Word.{after_number, ends_word, head, is_operator, is_space, literal, number_before, word}
use Rattle.asn_model.proofs.Nesting.{no_list, same_some}
use Rattle.asn_model.proofs.Readables.{and-left, and-right}

-- What stands before a byte of ASCII is UTF-8, and so is what follows it.
before : (p q : List ℕ) (a : ℕ) → a < 128 → IsUtf8 (p ++ a ∷ q) → IsUtf8 p
before p q a h u =
    subst IsUtf8 (take-append_seam p (a ∷ q))
    (IsUtf8-take (p ++ a ∷ q) (length p) u (IsCharBoundary-before_ascii (p ++ a ∷ q) (length p) (omega (arith, length-append p (a ∷ q))) (omega (arith, h, get_or-append_seam p a q 0))))

after : (p q : List ℕ) (a : ℕ) → a < 128 → IsUtf8 (p ++ a ∷ q) → IsUtf8 q
after p q a h u =
    subst IsUtf8 (drop-append-add p (a ∷ q) 1)
    (IsUtf8-drop (p ++ a ∷ q) (length p + 1) u (IsCharBoundary-after_ascii (p ++ a ∷ q) (length p) u (omega (arith, length-append p (a ∷ q))) (omega (arith, h, get_or-append_seam p a q 0))))

rest : (a : ℕ) (q : List ℕ) → a < 128 → IsUtf8 (a ∷ q) → IsUtf8 q
rest a q h u = after [] q a h u

low-scalar : (c : ℕ) → c < 55296 → scalar c ≡ true
low-scalar c h = ap (λ b. cond b true (leb 57344 c && ltb c 1114112)) (lt-ltb c 55296 h)

high-scalar : (c : ℕ) → 57344 ≤ c → c < 1114112 → scalar c ≡ true
high-scalar c l h = rw (le-ltb c 55296 (omega (arith, l)), le-leb 57344 c l, lt-ltb c 1114112 h) refl

ascii : (a : ℕ) → a < 128 → IsUtf8 (a ∷ [])
ascii a h = subst IsUtf8 (encode_ascii a h) (IsUtf8-encode a (low-scalar a (omega (arith, h))))

pub then-some : {A B : Type 0} (f : A → Option B) (o : Option A) {b : B} → option_and_then f o ≡ Some b → (a : A) × (o ≡ Some a) × (f a ≡ Some b)
then-some f None e = no_list e
then-some f (Some a) e = (a, refl, e)

pub map-some : {A B : Type 0} (f : A → B) (o : Option A) {b : B} → option_map f o ≡ Some b → (a : A) × (o ≡ Some a) × (f a ≡ b)
map-some f None e = no_list e
map-some f (Some a) e = (a, refl, same_some e)

not_false : true ≡ false → ⊥
not_false e = cc e

prepend-some : (bytes : List ℕ) (o : Option (List ℕ)) {s : List ℕ} → prepend bytes o ≡ Some s → (r : List ℕ) × (o ≡ Some r) × (bytes ++ r ≡ s)
prepend-some bytes o e = map-some (λ r. bytes ++ r) o e

one_of : (b : Bool) (x n c : ℕ) (o : Option ℕ) → (b ≡ true → x < 128) → (b ≡ true → n < 128) → (o ≡ Some c → (x < 128) × (c < 128)) → cond b (Some n) o ≡ Some c → (x < 128) × (c < 128)
one_of true x n c o f h later e = (f refl, subst (λ m. m < 128) (same_some e) (h refl))
one_of false x n c o f h later e = later e

one_mark : {P : Type 0} (a b c : Bool) → (a ≡ true → P) → (b ≡ true → P) → (c ≡ true → P) → (a || b || c) ≡ true → P
one_mark true b c f g h e = f refl
one_mark false true c f g h e = g refl
one_mark false false true f g h e = h refl
one_mark false false false f g h e = let d : false ≡ true = e in cc d

mark-ascii : (x : ℕ) → ((x == 34) || (x == 92) || (x == 47)) ≡ true → x < 128
mark-ascii x e = one_mark (x == 34) (x == 92) (x == 47) (λ f. omega (arith, eqb-true x 34 f)) (λ f. omega (arith, eqb-true x 92 f)) (λ f. omega (arith, eqb-true x 47 f)) e

-- A short escape and what it stands for are ASCII.
short-ascii : (x c : ℕ) → short_escape x ≡ Some c → (x < 128) × (c < 128)
unfolding short_escape
short-ascii x c e =
    one_of ((x == 34) || (x == 92) || (x == 47)) x x c _ (mark-ascii x) (mark-ascii x)
    (one_of (x == 98) x 8 c _ (λ f. omega (arith, eqb-true x 98 f)) (λ f. omega arith)
    (one_of (x == 102) x 12 c _ (λ f. omega (arith, eqb-true x 102 f)) (λ f. omega arith)
    (one_of (x == 110) x 10 c _ (λ f. omega (arith, eqb-true x 110 f)) (λ f. omega arith)
    (one_of (x == 114) x 13 c _ (λ f. omega (arith, eqb-true x 114 f)) (λ f. omega arith)
    (one_of (x == 116) x 9 c None (λ f. omega (arith, eqb-true x 116 f)) (λ f. omega arith) no_list))))) e

-- A hexadecimal digit is ASCII.
digit-ascii : (x : ℕ) → is_digit x 16 ≡ true → x < 128
digit-ascii x e = by (nat_lt x 123) refl
  where
    by : (b : Bool) → nat_lt x 123 ≡ b → x < 128
    by true f = omega (arith, ltb-true x 123 f)
    by false f =
        let high : 123 ≤ x = ltb-false x 123 f in
        let none : digit_value x ≡ 36 = rw (le-ltb x 48 (omega (arith, high)), le-ltb x 58 (omega (arith, high)), le-ltb x 65 (omega (arith, high)), le-ltb x 91 (omega (arith, high)), le-ltb x 97 (omega (arith, high)), f) refl in
        absurd (omega (arith, none, ltb-true (digit_value x) 16 e))

-- Four hexadecimal digits are ASCII, and their number has 16 bits.
record IsUnit (a b c d n : ℕ) : Type 0 where
  pub first : a < 128
  pub second : b < 128
  pub third : c < 128
  pub fourth : d < 128
  pub small : n < 65536

unit-small : (a b c d n : ℕ) → code_unit a b c d ≡ Some n → IsUnit a b c d n
unfolding code_unit
unit-small a b c d n e = by (is_digit a 16 && is_digit b 16 && is_digit c 16 && is_digit d 16) refl e
  where
    by : (t : Bool) → (is_digit a 16 && is_digit b 16 && is_digit c 16 && is_digit d 16) ≡ t → cond t (Some (digit_value a * 4096 + digit_value b * 256 + digit_value c * 16 + digit_value d)) None ≡ Some n → IsUnit a b c d n
    by true f g =
        let abc = and-left (is_digit a 16 && is_digit b 16 && is_digit c 16) (is_digit d 16) f in
        let ab = and-left (is_digit a 16 && is_digit b 16) (is_digit c 16) abc in
        let is_a = and-left (is_digit a 16) (is_digit b 16) ab in
        let is_b = and-right (is_digit a 16) (is_digit b 16) ab in
        let is_c = and-right (is_digit a 16 && is_digit b 16) (is_digit c 16) abc in
        let is_d = and-right (is_digit a 16 && is_digit b 16 && is_digit c 16) (is_digit d 16) f in
        record {
          first = digit-ascii a is_a;
          second = digit-ascii b is_b;
          third = digit-ascii c is_c;
          fourth = digit-ascii d is_d;
          small = omega (arith, same_some g, ltb-true (digit_value a) 16 is_a, ltb-true (digit_value b) 16 is_b, ltb-true (digit_value c) 16 is_c, ltb-true (digit_value d) 16 is_d);
        }
    by false f g = no_list g

-- A code unit that is no surrogate is a character, and so is a pair of surrogates.
unit-scalar : (n : ℕ) → n < 65536 → is_high_surrogate n ≡ false → is_low_surrogate n ≡ false → scalar n ≡ true
unit-scalar n small high low = by (nat_lt n 55296) refl (nat_lt n 57344) refl
  where
    by : (b : Bool) → nat_lt n 55296 ≡ b → (c : Bool) → nat_lt n 57344 ≡ c → scalar n ≡ true
    by true f c g = low-scalar n (ltb-true n 55296 f)
    by false f false g = high-scalar n (ltb-false n 57344 g) (omega (arith, small))
    by false f true g = absurd (surrogate (nat_lt n 56320) refl)
      where
        surrogate : (b : Bool) → nat_lt n 56320 ≡ b → ⊥
        surrogate true h = not_false (sym (ap (λ t. nat_le 55296 n && t) h ∙ ap (λ t. t && true) (le-leb 55296 n (ltb-false n 55296 f))) ∙ high)
        surrogate false h = not_false (sym (ap (λ t. nat_le 56320 n && t) g ∙ ap (λ t. t && true) (le-leb 56320 n (ltb-false n 56320 h))) ∙ low)

pair-scalar : (h l : ℕ) → is_high_surrogate h ≡ true → is_low_surrogate l ≡ true → scalar (surrogate_pair h l) ≡ true
pair-scalar h l e f =
    let a = leb-true 0xd800 h (and-left (nat_le 0xd800 h) (nat_lt h 0xdc00) e) in
    let b = ltb-true h 0xdc00 (and-right (nat_le 0xd800 h) (nat_lt h 0xdc00) e) in
    let c = leb-true 0xdc00 l (and-left (nat_le 0xdc00 l) (nat_lt l 0xe000) f) in
    let d = ltb-true l 0xe000 (and-right (nat_le 0xdc00 l) (nat_lt l 0xe000) f) in
    high-scalar (surrogate_pair h l) (omega (arith, a, b, c, d)) (omega (arith, a, b, c, d))

after_bytes : (p : List ℕ) (o : Option (List ℕ)) (s : List ℕ) → IsUtf8 p → ((r : List ℕ) → o ≡ Some r → IsUtf8 r) → prepend p o ≡ Some s → IsUtf8 s
after_bytes p o s u k e = let r = prepend-some p o e in subst IsUtf8 r.2 (IsUtf8-append p r.0 u (k r.0 r.1))

mutual
  unfolding content

  plain-utf8 : (p xs s : List ℕ) → IsUtf8 (p ++ xs) → content Within.plain xs ≡ Some s → IsUtf8 (p ++ s)
  plain-utf8 p [] s u e = no_list e
  plain-utf8 p (x ∷ xs) s u e = by (λ r v f. slash-utf8 xs r v f) (λ r v f. plain-utf8 (p ++ x ∷ []) xs r v f) (x == 34) (x == 92) (nat_lt x 32) refl refl e
    where
      by : ((r : List ℕ) → IsUtf8 xs → content Within.after_backslash xs ≡ Some r → IsUtf8 r) → ((r : List ℕ) → IsUtf8 ((p ++ x ∷ []) ++ xs) → content Within.plain xs ≡ Some r → IsUtf8 ((p ++ x ∷ []) ++ r)) → (a b c : Bool) → (x == 34) ≡ a → (x == 92) ≡ b
          → cond a (Some []) (cond b (content Within.after_backslash xs) (cond c None (prepend (x ∷ []) (content Within.plain xs)))) ≡ Some s → IsUtf8 (p ++ s)
      by slash more true b c f g h = subst (λ r. IsUtf8 (p ++ r)) (same_some h) (subst IsUtf8 (sym (append-nil p)) (before p xs x (omega (arith, eqb-true x 34 f)) u))
      by slash more false true c f g h = let low : x < 128 = omega (arith, eqb-true x 92 g) in IsUtf8-append p s (before p xs x low u) (slash s (after p xs x low u) h)
      by slash more false false true f g h = no_list h
      by slash more false false false f g h =
          let r = prepend-some (x ∷ []) (content Within.plain xs) h in
          subst IsUtf8 (append_assoc p (x ∷ []) r.0 ∙ ap (λ l. p ++ l) r.2) (more r.0 (subst IsUtf8 (sym (append_assoc p (x ∷ []) xs)) u) r.1)

  slash-utf8 : (xs s : List ℕ) → IsUtf8 xs → content Within.after_backslash xs ≡ Some s → IsUtf8 s
  slash-utf8 [] s u e = no_list e
  slash-utf8 (x ∷ xs) s u e = by (λ v f. u-utf8 xs s v f) (λ r v f. plain-utf8 [] xs r v f) (x == 117) refl e
    where
      by : (IsUtf8 xs → content Within.after_u xs ≡ Some s → IsUtf8 s) → ((r : List ℕ) → IsUtf8 xs → content Within.plain xs ≡ Some r → IsUtf8 r) → (b : Bool) → (x == 117) ≡ b
          → cond b (content Within.after_u xs) (option_and_then (λ c. prepend (c ∷ []) (content Within.plain xs)) (short_escape x)) ≡ Some s → IsUtf8 s
      by unit more true f h = unit (rest x xs (omega (arith, eqb-true x 117 f)) u) h
      by unit more false f h =
          let c = then-some (λ c. prepend (c ∷ []) (content Within.plain xs)) (short_escape x) h in
          let low = short-ascii x c.0 c.1 in
          after_bytes (c.0 ∷ []) (content Within.plain xs) s (ascii c.0 low.1) (λ r k. more r (rest x xs low.0 u) k) c.2

  u-utf8 : (xs s : List ℕ) → IsUtf8 xs → content Within.after_u xs ≡ Some s → IsUtf8 s
  u-utf8 [] s u e = no_list e
  u-utf8 (a ∷ []) s u e = no_list e
  u-utf8 (a ∷ b ∷ []) s u e = no_list e
  u-utf8 (a ∷ b ∷ c ∷ []) s u e = no_list e
  u-utf8 (a ∷ b ∷ c ∷ d ∷ xs) s u e =
      let n = then-some _ (code_unit a b c d) e in
      let k = unit-small a b c d n.0 n.1 in
      let past = rest d xs k.fourth (rest c (d ∷ xs) k.third (rest b (c ∷ d ∷ xs) k.second (rest a (b ∷ c ∷ d ∷ xs) k.first u))) in
      by (λ m f g. high-utf8 m xs s f past g) (λ r f. plain-utf8 [] xs r past f) n.0 k.small (is_high_surrogate n.0) (is_low_surrogate n.0) refl refl n.2
    where
      by : ((n : ℕ) → is_high_surrogate n ≡ true → content (Within.after_high n) xs ≡ Some s → IsUtf8 s) → ((r : List ℕ) → content Within.plain xs ≡ Some r → IsUtf8 r) → (n : ℕ) → n < 65536 → (h l : Bool) → is_high_surrogate n ≡ h → is_low_surrogate n ≡ l
          → cond h (content (Within.after_high n) xs) (cond l None (prepend (encode_utf8 n) (content Within.plain xs))) ≡ Some s → IsUtf8 s
      by high more n small true l f g k = high n f k
      by high more n small false true f g k = no_list k
      by high more n small false false f g k = after_bytes (encode_utf8 n) (content Within.plain xs) s (IsUtf8-encode n (unit-scalar n small f g)) more k

  high-utf8 : (h : ℕ) (xs s : List ℕ) → is_high_surrogate h ≡ true → IsUtf8 xs → content (Within.after_high h) xs ≡ Some s → IsUtf8 s
  high-utf8 h [] s e u f = no_list f
  high-utf8 h (v ∷ []) s e u f = no_list f
  high-utf8 h (v ∷ w ∷ []) s e u f = no_list f
  high-utf8 h (v ∷ w ∷ a ∷ []) s e u f = no_list f
  high-utf8 h (v ∷ w ∷ a ∷ b ∷ []) s e u f = no_list f
  high-utf8 h (v ∷ w ∷ a ∷ b ∷ c ∷ []) s e u f = no_list f
  high-utf8 h (v ∷ w ∷ a ∷ b ∷ c ∷ d ∷ xs) s e u f = by (λ r g k. plain-utf8 [] xs r g k) ((v == 92) && (w == 117)) refl f
    where
      pair : ((r : List ℕ) → content Within.plain xs ≡ Some r → IsUtf8 r) → (l : ℕ) (t : Bool) → is_low_surrogate l ≡ t → cond t (prepend (encode_utf8 (surrogate_pair h l)) (content Within.plain xs)) None ≡ Some s → IsUtf8 s
      pair more l true g k = after_bytes (encode_utf8 (surrogate_pair h l)) (content Within.plain xs) s (IsUtf8-encode (surrogate_pair h l) (pair-scalar h l e g)) more k
      pair more l false g k = no_list k

      by : ((r : List ℕ) → IsUtf8 xs → content Within.plain xs ≡ Some r → IsUtf8 r) → (t : Bool) → ((v == 92) && (w == 117)) ≡ t
          → cond t (option_and_then (λ l. cond (is_low_surrogate l) (prepend (encode_utf8 (surrogate_pair h l)) (content Within.plain xs)) None) (code_unit a b c d)) None ≡ Some s → IsUtf8 s
      by more true g k =
          let n = then-some (λ l. cond (is_low_surrogate l) (prepend (encode_utf8 (surrogate_pair h l)) (content Within.plain xs)) None) (code_unit a b c d) k in
          let q = unit-small a b c d n.0 n.1 in
          let marks = rest w (a ∷ b ∷ c ∷ d ∷ xs) (omega (arith, eqb-true w 117 (and-right (v == 92) (w == 117) g))) (rest v (w ∷ a ∷ b ∷ c ∷ d ∷ xs) (omega (arith, eqb-true v 92 (and-left (v == 92) (w == 117) g))) u) in
          let past = rest d xs q.fourth (rest c (d ∷ xs) q.third (rest b (c ∷ d ∷ xs) q.second (rest a (b ∷ c ∷ d ∷ xs) q.first marks))) in
          pair (λ r m. more r past m) n.0 (is_low_surrogate n.0) refl n.2
      by more false g k = no_list k

-- The string of a token is UTF-8.
abbrev pub IsTokenUtf8 : Token → Type 0
IsTokenUtf8 (Token.string s) = is_utf8 s ≡ true
IsTokenUtf8 _ = Unit {0}

abbrev IsLexemeUtf8 : Lexeme → Type 0
IsLexemeUtf8 (Lexeme.token t) = IsTokenUtf8 t
IsLexemeUtf8 _ = Unit {0}

either-token : (b : Bool) (t u : Token) → IsTokenUtf8 t → IsTokenUtf8 u → IsTokenUtf8 (cond b t u)
either-token true t u h k = h
either-token false t u h k = k

either-lexeme : (b : Bool) (t u : Lexeme) → IsLexemeUtf8 t → IsLexemeUtf8 u → IsLexemeUtf8 (cond b t u)
either-lexeme true t u h k = h
either-lexeme false t u h k = k

-- A word is no string, and neither is an operator.
number-utf8 : (t : List ℕ) (o : Option (List ℕ)) → IsTokenUtf8 (number_before t o)
number-utf8 t None = tt
number-utf8 t (Some r) = either-token (ends_word r) (Token.number (take (length t - length r) t)) Token.bad tt tt

literal-utf8 : (name : List ℕ) (k : Token) (t : List ℕ) → IsTokenUtf8 k → IsTokenUtf8 (literal name k t)
literal-utf8 name k t h = either-token (starts_with nat_eq t name && ends_word (drop (length name) t)) k Token.bad h tt

word-utf8 : (t : List ℕ) → IsTokenUtf8 (word t)
unfolding word
word-utf8 t =
    let numbers = number_before t (after_number t) in
    let nulls = cond (head t == 110) (literal null_text Token.null t) numbers in
    let falses = cond (head t == 102) (literal false_text (Token.boolean false) t) nulls in
    either-token (head t == 116) (literal true_text (Token.boolean true) t) falses (literal-utf8 true_text (Token.boolean true) t tt)
    (either-token (head t == 102) (literal false_text (Token.boolean false) t) nulls (literal-utf8 false_text (Token.boolean false) t tt)
    (either-token (head t == 110) (literal null_text Token.null t) numbers (literal-utf8 null_text Token.null t tt) (number-utf8 t (after_number t))))

operator-utf8 : (x : ℕ) → IsLexemeUtf8 (operator_lexeme x)
operator-utf8 x =
    let commas = cond (x == 44) Lexeme.comma Lexeme.colon in
    let closes = cond (x == 93) (Lexeme.token Token.end_array) commas in
    let opens = cond (x == 91) (Lexeme.token Token.begin_array) closes in
    let ends = cond (x == 125) (Lexeme.token Token.end_object) opens in
    either-lexeme (x == 123) (Lexeme.token Token.begin_object) ends tt
    (either-lexeme (x == 125) (Lexeme.token Token.end_object) opens tt
    (either-lexeme (x == 91) (Lexeme.token Token.begin_array) closes tt
    (either-lexeme (x == 93) (Lexeme.token Token.end_array) commas tt (either-lexeme (x == 44) Lexeme.comma Lexeme.colon tt tt))))

not_quote : (b c d : Bool) → cond b Class.backslash (cond c Class.operator (cond d Class.space Class.other)) ≡ Class.quote → ⊥
not_quote true c d e = let k : Class.backslash ≡ Class.quote = e in cc k
not_quote false true d e = let k : Class.operator ≡ Class.quote = e in cc k
not_quote false false true e = let k : Class.space ≡ Class.quote = e in cc k
not_quote false false false e = let k : Class.other ≡ Class.quote = e in cc k

quote-ascii : (x : ℕ) → class x ≡ Class.quote → x < 128
quote-ascii x e = by (x == 34) refl e
  where
    by : (b : Bool) → (x == 34) ≡ b → cond b Class.quote (cond (x == 92) Class.backslash (cond (is_operator x) Class.operator (cond (is_space x) Class.space Class.other))) ≡ Class.quote → x < 128
    by true f g = omega (arith, eqb-true x 34 f)
    by false f g = absurd (not_quote (x == 92) (is_operator x) (is_space x) g)

string-utf8 : (xs : List ℕ) (o : Option (List ℕ)) → content Within.plain xs ≡ o → IsUtf8 xs → IsTokenUtf8 (string_token o)
string-utf8 xs None e u = tt
string-utf8 xs (Some s) e u = is_utf8-from_IsUtf8 s (plain-utf8 [] xs s u e)

-- The strings of lexemes are UTF-8.
lex-utf8 : (m : Mode) (p xs : List ℕ) → IsUtf8 (p ++ xs) → AllByRecursion IsLexemeUtf8 (lex m xs)
unfolding lex
lex-utf8 m p [] u = tt
lex-utf8 m p (x ∷ xs) u = byte (λ next. lex-utf8 next (p ++ x ∷ []) xs (subst IsUtf8 (sym (append_assoc p (x ∷ []) xs)) u)) m (class x) refl
  where
    byte : ((next : Mode) → AllByRecursion IsLexemeUtf8 (lex next xs)) → (m : Mode) (c : Class) → class x ≡ c → AllByRecursion IsLexemeUtf8 (lex_byte m c x xs (λ next. lex next xs))
    byte k Mode.between Class.quote e = (string-utf8 xs (content Within.plain xs) refl (after p xs x (quote-ascii x e) u), k Mode.in_string)
    byte k Mode.between Class.backslash e = (tt, k Mode.in_word)
    byte k Mode.between Class.operator e = (operator-utf8 x, k Mode.between)
    byte k Mode.between Class.space e = k Mode.between
    byte k Mode.between Class.other e = (word-utf8 (x ∷ xs), k Mode.in_word)
    byte k Mode.in_word Class.quote e = k Mode.in_word
    byte k Mode.in_word Class.backslash e = k Mode.in_word
    byte k Mode.in_word Class.operator e = (operator-utf8 x, k Mode.between)
    byte k Mode.in_word Class.space e = k Mode.between
    byte k Mode.in_word Class.other e = k Mode.in_word
    byte k Mode.in_string Class.quote e = k Mode.between
    byte k Mode.in_string Class.backslash e = k Mode.in_escape
    byte k Mode.in_string Class.operator e = k Mode.in_string
    byte k Mode.in_string Class.space e = k Mode.in_string
    byte k Mode.in_string Class.other e = k Mode.in_string
    byte k Mode.in_escape c e = k Mode.in_string

allowed-utf8 : (b : Bool) (t : Token) (k : Place → List Token) (next : Place) → IsTokenUtf8 t → ((p : Place) → AllByRecursion IsTokenUtf8 (k p)) → AllByRecursion IsTokenUtf8 (if_allowed b t k next)
allowed-utf8 true t k next h all = (h, all next)
allowed-utf8 false t k next h all = (tt, tt)

place-utf8 : (p : Place) (t : Token) (b : Bool) (k : Place → List Token) → IsTokenUtf8 t → ((next : Place) → AllByRecursion IsTokenUtf8 (k next)) → AllByRecursion IsTokenUtf8 (place_token p t b k)
place-utf8 p Token.begin_object b k h all = allowed-utf8 (may_begin p) Token.begin_object k Place.fresh tt all
place-utf8 p Token.end_object b k h all = allowed-utf8 (may_close p) Token.end_object k Place.after_value tt all
place-utf8 p Token.begin_array b k h all = allowed-utf8 (may_begin p) Token.begin_array k Place.fresh tt all
place-utf8 p Token.end_array b k h all = allowed-utf8 (may_close p) Token.end_array k Place.after_value tt all
place-utf8 p (Token.key s) b k h all = (tt, tt)
place-utf8 p (Token.string s) true k h all = allowed-utf8 (may_begin p) (Token.key s) k Place.after_key tt all
place-utf8 p (Token.string s) false k h all = allowed-utf8 (may_begin p) (Token.string s) k Place.after_value h all
place-utf8 p (Token.number s) b k h all = allowed-utf8 (may_begin p) (Token.number s) k Place.after_value tt all
place-utf8 p (Token.boolean v) b k h all = allowed-utf8 (may_begin p) (Token.boolean v) k Place.after_value tt all
place-utf8 p Token.null b k h all = allowed-utf8 (may_begin p) Token.null k Place.after_value tt all
place-utf8 p Token.bad b k h all = (tt, tt)

punctuated-utf8 : (p : Place) (ls : List Lexeme) → AllByRecursion IsLexemeUtf8 ls → AllByRecursion IsTokenUtf8 (punctuate p ls)
unfolding punctuate
punctuated-utf8 Place.fresh [] h = tt
punctuated-utf8 Place.after_value [] h = tt
punctuated-utf8 Place.after_comma [] h = (tt, tt)
punctuated-utf8 Place.after_key [] h = (tt, tt)
punctuated-utf8 p (Lexeme.token t ∷ ls) h = place-utf8 p t (begins_colon ls) (λ next. punctuate next ls) h.0 (λ next. punctuated-utf8 next ls h.1)
punctuated-utf8 Place.fresh (Lexeme.comma ∷ ls) h = (tt, tt)
punctuated-utf8 Place.after_value (Lexeme.comma ∷ ls) h = punctuated-utf8 Place.after_comma ls h.1
punctuated-utf8 Place.after_comma (Lexeme.comma ∷ ls) h = (tt, tt)
punctuated-utf8 Place.after_key (Lexeme.comma ∷ ls) h = (tt, tt)
punctuated-utf8 Place.fresh (Lexeme.colon ∷ ls) h = (tt, tt)
punctuated-utf8 Place.after_value (Lexeme.colon ∷ ls) h = (tt, tt)
punctuated-utf8 Place.after_comma (Lexeme.colon ∷ ls) h = (tt, tt)
punctuated-utf8 Place.after_key (Lexeme.colon ∷ ls) h = punctuated-utf8 Place.fresh ls h.1

-- The strings of a text that is UTF-8 are UTF-8.
pub tokens-utf8 : (text : List ℕ) → IsUtf8 text → AllByRecursion IsTokenUtf8 (tokens text)
tokens-utf8 text u = punctuated-utf8 Place.fresh (lex Mode.between text) (lex-utf8 Mode.between [] text u)
