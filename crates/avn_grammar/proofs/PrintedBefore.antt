-- Printed text before other text, and its characters.
use Rattle.std.proofs.Common.{◌≡◌, ◌≢◌, inl, inr, ℕ, zero, suc, ◌+◌, ◌<◌, List, [], ◌∷◌, ◌++◌, true, false, cond, not, ◌==◌, ◌&&◌, ◌||◌, refl, sym, ap, subst, ◌∙◌, length, arith, get_or, append_assoc, codes}
use Rattle.std.proofs.lemmas.Bool.{cases_Bool, eqb-true, and_parts, or_cases, cond-true, cond-false, cond_both, eqb-false, false_from_ne_true}
use Rattle.std.specs.Str.{encode_utf8_all, IsAscii, IsUtf8, chars, bytes_eq}
use Rattle.std.specs.Char.{encode_utf8}
use lib.Utf8.{scalars, scalar}
use Rattle.std.proofs.lemmas.Str.{chars-append, chars-IsAscii, IsUtf8-from_ascii, IsUtf8-from_is_utf8, encodes-chars, scalars-chars, chars-encodes, inside_one}
use Rattle.std.proofs.lemmas.Slice.Eq.{bytes_eq-Decides}
use Rattle.avn_grammar.specs.Chars.{is_digit, is_name, is_letter, starts_with, quote_is_doubled, all, take_while, skip_while}
use Rattle.avn_grammar.specs.Grammar.{is_real_keyword}
use Rattle.avn_grammar.specs.Octets.{is_bit, hex_text, bit_text}
use Rattle.avn_grammar.specs.Print.{print, print_rows, print_fields, indent, separator, has_fields, hex_quoted, bits_quoted, arc_text}
use Rattle.avn_grammar.specs.Tree.{Tree, Trees, Fields, boolean, null, integer, real, octet_string, bit_string, oid, enumerated, char_string, sequence, sequence_of, choice, no_trees, tree, no_fields, field, absent}
use Rattle.avn_grammar.specs.WellFormed.{is_number, is_digits, is_identifier, is_keyword, is_well_formed, are_well_formed, are_fields_well_formed, is_decimal, is_fraction, is_octet, is_arc}
use Rattle.std.proofs.Common.{◌/◌, ◌%◌, take}
use Rattle.std.specs.Fmt.{decimal}
use Rattle.std.proofs.lemmas.Fmt.{IsAscii-decimal}
use Rattle.std.proofs.lemmas.Str.{IsAscii-append}
use Rattle.avn_grammar.proofs.Digits.{hex_of, bits_of, bit_text-bits, every-take, every-front, front-past, arc-lt}
use Rattle.avn_grammar.proofs.RunsBefore.{ascii-every, ascii-cons, ascii-nil, digit-low, name-low}

unfoldable pub put_arcs : List ℕ → List ℕ → List ℕ
put_arcs [] v = v
put_arcs (a ∷ arcs) v = 32 ∷ (decimal a ++ put_arcs arcs v)

arcs-put : (arcs v : List ℕ) → arc_text arcs ++ v ≡ put_arcs arcs v
unfolding put_arcs
arcs-put [] v = refl
arcs-put (a ∷ arcs) v = ap (λ x. 32 ∷ x) (append_assoc (decimal a) (arc_text arcs) v ∙ ap (λ x. decimal a ++ x) (arcs-put arcs v))

-- The printed text before v, with the content of a text in quotes as `show` has it.
unfoldable mutual
  pub put : (List ℕ → List ℕ) → ℕ → Tree → List ℕ → List ℕ
  put show d (boolean true) v = codes "TRUE" ++ v
  put show d (boolean false) v = codes "FALSE" ++ v
  put show d null v = codes "NULL" ++ v
  put show d (integer n) v = n ++ v
  put show d (real n) v = n ++ v
  put show d (octet_string octets) v = 39 ∷ (hex_text octets ++ (39 ∷ 72 ∷ v))
  put show d (bit_string octets n) v = cond (n == 0) (39 ∷ 39 ∷ 72 ∷ v) (cond (n % 8 == 0) (39 ∷ (hex_text octets ++ (39 ∷ 72 ∷ v))) (39 ∷ (take n (bit_text octets) ++ (39 ∷ 66 ∷ v))))
  put show d (oid arcs) v = 123 ∷ put_arcs arcs (32 ∷ 125 ∷ v)
  put show d (enumerated id) v = id ++ v
  put show d (char_string text) v = 34 ∷ (show text ++ (34 ∷ v))
  put show d (sequence fs) v = cond (has_fields fs) (123 ∷ put_fields show (suc d) 0 fs (10 ∷ (indent d ++ (125 ∷ v)))) (123 ∷ 125 ∷ v)
  put show d (sequence_of no_trees) v = 123 ∷ 125 ∷ v
  put show d (sequence_of (tree t ts)) v = 123 ∷ put_rows show (suc d) 0 (tree t ts) (10 ∷ (indent d ++ (125 ∷ v)))
  put show d (choice id t) v = id ++ (32 ∷ 58 ∷ 32 ∷ put show d t v)

  pub put_rows : (List ℕ → List ℕ) → ℕ → ℕ → Trees → List ℕ → List ℕ
  put_rows show d i no_trees v = v
  put_rows show d i (tree t ts) v = separator i ++ (indent d ++ put show d t (put_rows show d (suc i) ts v))

  pub put_fields : (List ℕ → List ℕ) → ℕ → ℕ → Fields → List ℕ → List ℕ
  put_fields show d i no_fields v = v
  put_fields show d i (field id t fs) v = separator i ++ (indent d ++ (id ++ (32 ∷ put show d t (put_fields show d (suc i) fs v))))
  put_fields show d i (absent id fs) v = put_fields show d i fs v

mutual
  unfolding print put

  pub print-put : (d : ℕ) (t : Tree) (v : List ℕ) → print d t ++ v ≡ put quote_is_doubled d t v
  print-put d (boolean true) v = refl
  print-put d (boolean false) v = refl
  print-put d null v = refl
  print-put d (integer n) v = refl
  print-put d (real n) v = refl
  print-put d (octet_string octets) v = ap (λ x. 39 ∷ x) (append_assoc (hex_text octets) (39 ∷ 72 ∷ []) v)
  print-put d (bit_string octets n) v =
      elim (n == 0) as (λ b. cond b (hex_quoted []) (cond (n % 8 == 0) (hex_quoted octets) (bits_quoted (take n (bit_text octets)))) ++ v
      ≡ cond b (39 ∷ 39 ∷ 72 ∷ v) (cond (n % 8 == 0) (39 ∷ (hex_text octets ++ (39 ∷ 72 ∷ v))) (39 ∷ (take n (bit_text octets) ++ (39 ∷ 66 ∷ v))))) [
        | true ↦ refl
        | false ↦ elim (n % 8 == 0) as (λ b. cond b (hex_quoted octets) (bits_quoted (take n (bit_text octets))) ++ v ≡ cond b (39 ∷ (hex_text octets ++ (39 ∷ 72 ∷ v))) (39 ∷ (take n (bit_text octets) ++ (39 ∷ 66 ∷ v)))) [
          | true ↦ ap (λ x. 39 ∷ x) (append_assoc (hex_text octets) (39 ∷ 72 ∷ []) v)
          | false ↦ ap (λ x. 39 ∷ x) (append_assoc (take n (bit_text octets)) (39 ∷ 66 ∷ []) v)
        ]
      ]
  print-put d (oid arcs) v = ap (λ x. 123 ∷ x) (append_assoc (arc_text arcs) (32 ∷ 125 ∷ []) v ∙ arcs-put arcs (32 ∷ 125 ∷ v))
  print-put d (enumerated id) v = refl
  print-put d (char_string text) v = ap (λ x. 34 ∷ x) (append_assoc (quote_is_doubled text) (34 ∷ []) v)
  print-put d (sequence fs) v =
      elim (has_fields fs) as (λ b. cond b ((123 ∷ []) ++ print_fields (suc d) 0 fs ++ (10 ∷ []) ++ indent d ++ (125 ∷ [])) (codes "{}") ++ v ≡ cond b (123 ∷ put_fields quote_is_doubled (suc d) 0 fs (10 ∷ (indent d ++ (125 ∷ v)))) (123 ∷ 125 ∷ v)) [
        | true ↦ simp append_assoc (ap (λ x. 123 ∷ x) (fields-put (suc d) 0 fs (10 ∷ (indent d ++ (125 ∷ v)))))
        | false ↦ refl
      ]
  print-put d (sequence_of no_trees) v = refl
  print-put d (sequence_of (tree t ts)) v = simp append_assoc (ap (λ x. 123 ∷ x) (sym (simp append_assoc at (sym (rows-put (suc d) 0 (tree t ts) (10 ∷ (indent d ++ (125 ∷ v))))))))
  print-put d (choice id t) v = simp append_assoc (ap (λ x. id ++ (32 ∷ 58 ∷ 32 ∷ x)) (print-put d t v))

  pub rows-put : (d i : ℕ) (ts : Trees) (v : List ℕ) → print_rows d i ts ++ v ≡ put_rows quote_is_doubled d i ts v
  rows-put d i no_trees v = refl
  rows-put d i (tree t ts) v =
      simp append_assoc (ap (λ x. separator i ++ (indent d ++ (print d t ++ x))) (rows-put d (suc i) ts v) ∙ ap (λ x. separator i ++ (indent d ++ x)) (print-put d t (put_rows quote_is_doubled d (suc i) ts v)))

  pub fields-put : (d i : ℕ) (fs : Fields) (v : List ℕ) → print_fields d i fs ++ v ≡ put_fields quote_is_doubled d i fs v
  fields-put d i no_fields v = refl
  fields-put d i (field id t fs) v =
      simp append_assoc (ap (λ x. separator i ++ (indent d ++ (id ++ (32 ∷ (print d t ++ x))))) (fields-put d (suc i) fs v) ∙ ap (λ x. separator i ++ (indent d ++ (id ++ (32 ∷ x)))) (print-put d t (put_fields quote_is_doubled d (suc i) fs v)))
  fields-put d i (absent id fs) v = fields-put d i fs v

-- Characters.
chars-plain : (xs ys : List ℕ) → IsAscii xs → chars (xs ++ ys) ≡ xs ++ chars ys
chars-plain xs ys a = chars-append xs ys (IsUtf8-from_ascii xs a) ∙ ap (λ x. x ++ chars ys) (chars-IsAscii xs a)

pub nil-right : (xs : List ℕ) → xs ≡ xs ++ []
nil-right [] = refl
nil-right (x ∷ xs) = ap (λ y. x ∷ y) (nil-right xs)

chars-cons : (c : ℕ) (xs : List ℕ) → c < 128 → chars (c ∷ xs) ≡ c ∷ chars xs
chars-cons c xs h = chars-plain (c ∷ []) xs (ascii-cons c [] h ascii-nil)

pub doubled-over : (xs ys : List ℕ) → ((k : ℕ) → k < length xs → get_or xs k 0 ≢ 34) → quote_is_doubled (xs ++ ys) ≡ xs ++ quote_is_doubled ys
doubled-over [] ys h = refl
doubled-over (c ∷ xs) ys h =
    cond-false (c == 34) (34 ∷ 34 ∷ quote_is_doubled (xs ++ ys)) (c ∷ quote_is_doubled (xs ++ ys)) (false_from_ne_true (c == 34) (λ e. h 0 (omega arith) (eqb-true c 34 e)))
    ∙ ap (λ x. c ∷ x) (doubled-over xs ys (λ k l. h (suc k) (omega arith)))

-- Doubling a text's bytes is doubling its characters.
doubled-encodes : (cs : List ℕ) → quote_is_doubled (encode_utf8_all cs) ≡ encode_utf8_all (quote_is_doubled cs)
unfolding encode_utf8
doubled-encodes [] = refl
doubled-encodes (c ∷ cs) = elim (cases_Bool (c == 34)) [
  | inl h ↦
      let e : c ≡ 34 = eqb-true c 34 h in
      ap (λ x. quote_is_doubled (encode_utf8 x ++ encode_utf8_all cs)) e ∙ ap (λ x. 34 ∷ 34 ∷ x) (doubled-encodes cs) ∙ ap (λ b. encode_utf8_all (cond b (34 ∷ 34 ∷ quote_is_doubled cs) (c ∷ quote_is_doubled cs))) (sym h)
  | inr h ↦
      doubled-over (encode_utf8 c) (encode_utf8_all cs) (λ k l e. let f = inside_one c [] (encode_utf8 c) k (nil-right (encode_utf8 c)) l (omega arith) in eqb-false c 34 h (f ∙ e))
      ∙ ap (λ x. encode_utf8 c ++ x) (doubled-encodes cs) ∙ ap (λ b. encode_utf8_all (cond b (34 ∷ 34 ∷ quote_is_doubled cs) (c ∷ quote_is_doubled cs))) (sym h)
]

scalars-doubled : (cs : List ℕ) → scalars cs ≡ true → scalars (quote_is_doubled cs) ≡ true
scalars-doubled [] h = refl
scalars-doubled (c ∷ cs) h =
    let k = and_parts (scalar c) (scalars cs) h in
    cond_both (c == 34) (34 ∷ 34 ∷ quote_is_doubled cs) (c ∷ quote_is_doubled cs) (λ x. scalars x ≡ true) (λ e. scalars-doubled cs k.1) (λ e. ap (λ b. b && scalars (quote_is_doubled cs)) k.0 ∙ scalars-doubled cs k.1)

chars-doubled : (text ys : List ℕ) → IsUtf8 text → chars (quote_is_doubled text ++ ys) ≡ quote_is_doubled (chars text) ++ chars ys
chars-doubled text ys u =
    let e : quote_is_doubled text ≡ encode_utf8_all (quote_is_doubled (chars text)) = ap quote_is_doubled (sym (encodes-chars text u)) ∙ doubled-encodes (chars text) in
    let s = scalars-doubled (chars text) (scalars-chars text u) in
    chars-append (quote_is_doubled text) ys (quote_is_doubled (chars text), (s, sym e)) ∙ ap (λ x. chars x ++ chars ys) e ∙ ap (λ x. x ++ chars ys) (chars-encodes (quote_is_doubled (chars text)) s)

-- The content of a text in quotes, in characters.
abbrev pub shown : List ℕ → List ℕ
shown text = quote_is_doubled (chars text)

pub ascii-identifier : (id : List ℕ) → is_identifier id ≡ true → IsAscii id
ascii-identifier id h = ascii-every is_name name-low id (and_parts (starts_with is_letter id) (all is_name id) h).1

pub ascii-number : (n : List ℕ) → is_number n ≡ true → IsAscii n
ascii-number [] h = ascii-nil
ascii-number (c ∷ n) h = elim (cases_Bool (c == 45)) [
  | inl e ↦
      let k : is_digits n ≡ true = ap is_digits (sym (cond-true (c == 45) n (c ∷ n) e)) ∙ h in
      let f : c ≡ 45 = eqb-true c 45 e in
      ascii-cons c n (omega (arith, f)) (ascii-every is_digit digit-low n (and_parts (starts_with is_digit n) (all is_digit n) k).1)
  | inr e ↦
      let k : is_digits (c ∷ n) ≡ true = ap is_digits (sym (cond-false (c == 45) n (c ∷ n) e)) ∙ h in
      ascii-every is_digit digit-low (c ∷ n) (and_parts (starts_with is_digit (c ∷ n)) (all is_digit (c ∷ n)) k).1
]

ascii-same : (n m : List ℕ) → bytes_eq n m ≡ true → all is_name m ≡ true → IsAscii n
ascii-same n m h k = let e : n ≡ m = (bytes_eq-Decides n m).0 h in ascii-every is_name name-low n (ap (all is_name) e ∙ k)

pub ascii-real_keyword : (n : List ℕ) → is_real_keyword n ≡ true → IsAscii n
ascii-real_keyword n h = elim (or_cases (bytes_eq n (codes "PLUS-INFINITY") || bytes_eq n (codes "MINUS-INFINITY")) (bytes_eq n (codes "NOT-A-NUMBER")) h) [
  | inl a ↦ elim (or_cases (bytes_eq n (codes "PLUS-INFINITY")) (bytes_eq n (codes "MINUS-INFINITY")) a) [ inl b ↦ ascii-same n (codes "PLUS-INFINITY") b refl | inr b ↦ ascii-same n (codes "MINUS-INFINITY") b refl ]
  | inr a ↦ ascii-same n (codes "NOT-A-NUMBER") a refl
]

chars-indent : (d : ℕ) (v : List ℕ) → chars (indent d ++ v) ≡ indent d ++ chars v
chars-indent zero v = refl
chars-indent (suc d) v = chars-cons 32 (32 ∷ (indent d ++ v)) (omega arith) ∙ ap (λ x. 32 ∷ x) (chars-cons 32 (indent d ++ v) (omega arith)) ∙ ap (λ x. 32 ∷ 32 ∷ x) (chars-indent d v)

chars-separator : (i : ℕ) (v : List ℕ) → chars (separator i ++ v) ≡ separator i ++ chars v
chars-separator zero v = chars-cons 10 v (omega arith)
chars-separator (suc i) v = chars-cons 44 (10 ∷ v) (omega arith) ∙ ap (λ x. 44 ∷ x) (chars-cons 10 v (omega arith))

chars-close : (d : ℕ) (v : List ℕ) → chars (10 ∷ (indent d ++ (125 ∷ v))) ≡ 10 ∷ (indent d ++ (125 ∷ chars v))
chars-close d v = chars-cons 10 (indent d ++ (125 ∷ v)) (omega arith) ∙ ap (λ x. 10 ∷ x) (chars-indent d (125 ∷ v) ∙ ap (λ x. indent d ++ x) (chars-cons 125 v (omega arith)))

ascii-fraction : (f : List ℕ) → is_fraction f ≡ true → IsAscii f
ascii-fraction [] h = ascii-nil
ascii-fraction (c ∷ f) h =
    let k = and_parts (c == 46) (is_digits f) h in
    let e : c ≡ 46 = eqb-true c 46 k.0 in
    ascii-cons c f (omega (arith, e)) (ascii-every is_digit digit-low f (and_parts (starts_with is_digit f) (all is_digit f) k.1).1)

ascii-unsigned : (m : List ℕ) → is_fraction (skip_while is_digit m) ≡ true → IsAscii m
ascii-unsigned m h = subst IsAscii (front-past is_digit m) (IsAscii-append (take_while is_digit m) (skip_while is_digit m) (ascii-every is_digit digit-low (take_while is_digit m) (every-front is_digit m)) (ascii-fraction (skip_while is_digit m) h))

pub ascii-decimal : (n : List ℕ) → is_decimal n ≡ true → IsAscii n
ascii-decimal [] h = ascii-nil
ascii-decimal (c ∷ n) h = elim (cases_Bool (c == 45)) [
  | inl e ↦
      let f : c ≡ 45 = eqb-true c 45 e in
      let k : starts_with is_digit n && is_fraction (skip_while is_digit n) ≡ true = ap (λ x. starts_with is_digit x && is_fraction (skip_while is_digit x)) (sym (cond-true (c == 45) n (c ∷ n) e)) ∙ h in
      ascii-cons c n (omega (arith, f)) (ascii-unsigned n (and_parts (starts_with is_digit n) (is_fraction (skip_while is_digit n)) k).1)
  | inr e ↦
      let k : starts_with is_digit (c ∷ n) && is_fraction (skip_while is_digit (c ∷ n)) ≡ true = ap (λ x. starts_with is_digit x && is_fraction (skip_while is_digit x)) (sym (cond-false (c == 45) n (c ∷ n) e)) ∙ h in
      ascii-unsigned (c ∷ n) (and_parts (starts_with is_digit (c ∷ n)) (is_fraction (skip_while is_digit (c ∷ n))) k).1
]

chars-hex : (octets v : List ℕ) → all is_octet octets ≡ true → chars (39 ∷ (hex_text octets ++ (39 ∷ 72 ∷ v))) ≡ 39 ∷ (hex_text octets ++ (39 ∷ 72 ∷ chars v))
chars-hex octets v h =
    chars-cons 39 (hex_text octets ++ (39 ∷ 72 ∷ v)) (omega arith)
    ∙ ap (λ x. 39 ∷ x) (chars-plain (hex_text octets) (39 ∷ 72 ∷ v) (hex_of octets h).ascii ∙ ap (λ x. hex_text octets ++ x) (chars-cons 39 (72 ∷ v) (omega arith) ∙ ap (λ x. 39 ∷ x) (chars-cons 72 v (omega arith))))

chars-bits : (bits v : List ℕ) → all is_bit bits ≡ true → chars (39 ∷ (bits ++ (39 ∷ 66 ∷ v))) ≡ 39 ∷ (bits ++ (39 ∷ 66 ∷ chars v))
chars-bits bits v h =
    chars-cons 39 (bits ++ (39 ∷ 66 ∷ v)) (omega arith)
    ∙ ap (λ x. 39 ∷ x) (chars-plain bits (39 ∷ 66 ∷ v) (bits_of bits h).ascii ∙ ap (λ x. bits ++ x) (chars-cons 39 (66 ∷ v) (omega arith) ∙ ap (λ x. 39 ∷ x) (chars-cons 66 v (omega arith))))

chars-arcs : (arcs v : List ℕ) → all is_arc arcs ≡ true → chars (put_arcs arcs v) ≡ put_arcs arcs (chars v)
unfolding put_arcs
chars-arcs [] v h = refl
chars-arcs (a ∷ arcs) v h =
    let k = and_parts (is_arc a) (all is_arc arcs) h in
    chars-cons 32 (decimal a ++ put_arcs arcs v) (omega arith) ∙ ap (λ x. 32 ∷ x) (chars-plain (decimal a) (put_arcs arcs v) (IsAscii-decimal a (arc-lt a k.0)) ∙ ap (λ x. decimal a ++ x) (chars-arcs arcs v k.1))

mutual
  unfolding put is_well_formed

  pub chars-put : (d : ℕ) (t : Tree) (v : List ℕ) → is_well_formed t ≡ true → chars (put quote_is_doubled d t v) ≡ put shown d t (chars v)
  chars-put d (boolean true) v h = chars-plain (codes "TRUE") v (ascii-every is_name name-low (codes "TRUE") refl)
  chars-put d (boolean false) v h = chars-plain (codes "FALSE") v (ascii-every is_name name-low (codes "FALSE") refl)
  chars-put d null v h = chars-plain (codes "NULL") v (ascii-every is_name name-low (codes "NULL") refl)
  chars-put d (integer n) v h = chars-plain n v (ascii-number n h)
  chars-put d (real n) v h = chars-plain n v (elim (or_cases (is_number n || is_decimal n) (is_real_keyword n) h) [
    | inl a ↦ elim (or_cases (is_number n) (is_decimal n) a) [ inl b ↦ ascii-number n b | inr b ↦ ascii-decimal n b ]
    | inr a ↦ ascii-real_keyword n a
  ])
  chars-put d (octet_string octets) v h = chars-hex octets v h
  chars-put d (bit_string octets n) v h =
      let k = and_parts (all is_octet octets) (length octets == (n + 7) / 8) h in
      elim (n == 0) as (λ b. chars (cond b (39 ∷ 39 ∷ 72 ∷ v) (cond (n % 8 == 0) (39 ∷ (hex_text octets ++ (39 ∷ 72 ∷ v))) (39 ∷ (take n (bit_text octets) ++ (39 ∷ 66 ∷ v)))))
      ≡ cond b (39 ∷ 39 ∷ 72 ∷ chars v) (cond (n % 8 == 0) (39 ∷ (hex_text octets ++ (39 ∷ 72 ∷ chars v))) (39 ∷ (take n (bit_text octets) ++ (39 ∷ 66 ∷ chars v))))) [
        | true ↦ chars-hex [] v refl
        | false ↦ elim (n % 8 == 0) as (λ b. chars (cond b (39 ∷ (hex_text octets ++ (39 ∷ 72 ∷ v))) (39 ∷ (take n (bit_text octets) ++ (39 ∷ 66 ∷ v)))) ≡ cond b (39 ∷ (hex_text octets ++ (39 ∷ 72 ∷ chars v))) (39 ∷ (take n (bit_text octets) ++ (39 ∷ 66 ∷ chars v)))) [
          | true ↦ chars-hex octets v k.0
          | false ↦ chars-bits (take n (bit_text octets)) v (every-take is_bit n (bit_text octets) (bit_text-bits octets))
        ]
      ]
  chars-put d (oid arcs) v h = chars-cons 123 (put_arcs arcs (32 ∷ 125 ∷ v)) (omega arith) ∙ ap (λ x. 123 ∷ x) (chars-arcs arcs (32 ∷ 125 ∷ v) h ∙ ap (put_arcs arcs) (chars-cons 32 (125 ∷ v) (omega arith) ∙ ap (λ x. 32 ∷ x) (chars-cons 125 v (omega arith))))
  chars-put d (enumerated id) v h = chars-plain id v (ascii-identifier id (and_parts (is_identifier id) (not (is_keyword id)) h).0)
  chars-put d (char_string text) v h =
      chars-cons 34 (quote_is_doubled text ++ (34 ∷ v)) (omega arith) ∙ ap (λ x. 34 ∷ x) (chars-doubled text (34 ∷ v) (IsUtf8-from_is_utf8 text h) ∙ ap (λ x. quote_is_doubled (chars text) ++ x) (chars-cons 34 v (omega arith)))
  chars-put d (sequence fs) v h =
      elim (has_fields fs) as (λ b. chars (cond b (123 ∷ put_fields quote_is_doubled (suc d) 0 fs (10 ∷ (indent d ++ (125 ∷ v)))) (123 ∷ 125 ∷ v)) ≡ cond b (123 ∷ put_fields shown (suc d) 0 fs (10 ∷ (indent d ++ (125 ∷ chars v)))) (123 ∷ 125 ∷ chars v)) [
        | true ↦ chars-cons 123 (put_fields quote_is_doubled (suc d) 0 fs (10 ∷ (indent d ++ (125 ∷ v)))) (omega arith) ∙ ap (λ x. 123 ∷ x) (chars-fields (suc d) 0 fs (10 ∷ (indent d ++ (125 ∷ v))) h ∙ ap (put_fields shown (suc d) 0 fs) (chars-close d v))
        | false ↦ chars-cons 123 (125 ∷ v) (omega arith) ∙ ap (λ x. 123 ∷ x) (chars-cons 125 v (omega arith))
      ]
  chars-put d (sequence_of no_trees) v h = chars-cons 123 (125 ∷ v) (omega arith) ∙ ap (λ x. 123 ∷ x) (chars-cons 125 v (omega arith))
  chars-put d (sequence_of (tree t ts)) v h =
      chars-cons 123 (put_rows quote_is_doubled (suc d) 0 (tree t ts) (10 ∷ (indent d ++ (125 ∷ v)))) (omega arith) ∙ ap (λ x. 123 ∷ x) (chars-rows (suc d) 0 (tree t ts) (10 ∷ (indent d ++ (125 ∷ v))) h ∙ ap (put_rows shown (suc d) 0 (tree t ts)) (chars-close d v))
  chars-put d (choice id t) v h =
      let k = and_parts (is_identifier id) (is_well_formed t) h in
      chars-plain id (32 ∷ 58 ∷ 32 ∷ put quote_is_doubled d t v) (ascii-identifier id k.0)
      ∙ ap (λ x. id ++ x) (chars-plain (32 ∷ 58 ∷ 32 ∷ []) (put quote_is_doubled d t v) (ascii-cons 32 (58 ∷ 32 ∷ []) (omega arith) (ascii-cons 58 (32 ∷ []) (omega arith) (ascii-cons 32 [] (omega arith) ascii-nil))) ∙ ap (λ x. 32 ∷ 58 ∷ 32 ∷ x) (chars-put d t v k.1))

  pub chars-rows : (d i : ℕ) (ts : Trees) (v : List ℕ) → are_well_formed ts ≡ true → chars (put_rows quote_is_doubled d i ts v) ≡ put_rows shown d i ts (chars v)
  chars-rows d i no_trees v h = refl
  chars-rows d i (tree t ts) v h =
      let k = and_parts (is_well_formed t) (are_well_formed ts) h in
      let w = put_rows quote_is_doubled d (suc i) ts v in
      chars-separator i (indent d ++ put quote_is_doubled d t w)
      ∙ ap (λ x. separator i ++ x) (chars-indent d (put quote_is_doubled d t w) ∙ ap (λ x. indent d ++ x) (chars-put d t w k.0 ∙ ap (put shown d t) (chars-rows d (suc i) ts v k.1)))

  pub chars-fields : (d i : ℕ) (fs : Fields) (v : List ℕ) → are_fields_well_formed fs ≡ true → chars (put_fields quote_is_doubled d i fs v) ≡ put_fields shown d i fs (chars v)
  chars-fields d i no_fields v h = refl
  chars-fields d i (field id t fs) v h =
      let k = and_parts (is_identifier id) (is_well_formed t && are_fields_well_formed fs) h in
      let l = and_parts (is_well_formed t) (are_fields_well_formed fs) k.1 in
      let w = put_fields quote_is_doubled d (suc i) fs v in
      chars-separator i (indent d ++ (id ++ (32 ∷ put quote_is_doubled d t w)))
      ∙ ap (λ x. separator i ++ x) (chars-indent d (id ++ (32 ∷ put quote_is_doubled d t w))
      ∙ ap (λ x. indent d ++ x) (chars-plain id (32 ∷ put quote_is_doubled d t w) (ascii-identifier id k.0)
      ∙ ap (λ x. id ++ x) (chars-cons 32 (put quote_is_doubled d t w) (omega arith) ∙ ap (λ x. 32 ∷ x) (chars-put d t w l.0 ∙ ap (put shown d t) (chars-fields d (suc i) fs v l.1)))))
  chars-fields d i (absent id fs) v h = chars-fields d i fs v (and_parts (is_identifier id) (are_fields_well_formed fs) h).1

-- The characters of a printed text and of what follows it.
pub chars-print : (d : ℕ) (t : Tree) (v : List ℕ) → is_well_formed t ≡ true → chars (print d t ++ v) ≡ put shown d t (chars v)
chars-print d t v h = ap chars (print-put d t v) ∙ chars-put d t v h
