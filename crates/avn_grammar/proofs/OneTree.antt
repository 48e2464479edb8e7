-- A text has at most one tree and rest.
use Rattle.std.proofs.Common.{◌≡◌, ◌≢◌, ◌⊎◌, inl, inr, ℕ, List, [], ◌∷◌, ◌++◌, true, cond, ◌==◌, refl, sym, ap, subst, ◌∙◌, arith}
use Rattle.std.proofs.lemmas.Bool.{cases_Bool, eqb-true}
use Rattle.avn_grammar.specs.Chars.{class_of_next, class_of_char, tail, skip, quote_is_doubled, utf8_of}
use Rattle.avn_grammar.specs.Grammar.{word, Token, number_token, negative_token, octets_token, bits_token, text_token, Item, named, bare, AllNamed, AllBare, fields_of, trees_of, Ident, ComesAfterWord, BeginsNumber, Parses, token, bare_word, choose, empty_braces, fields_in_braces, list_in_braces, ItemParses, choice_item, word_item, field_item, value_item, ItemsParse, last_item, comma_item, number_item}
use Rattle.avn_grammar.specs.Tree.{Tree, char_string, sequence, sequence_of}
use Rattle.avn_grammar.specs.declared.chars.CharClass.TheVariants as is
use Rattle.avn_grammar.specs.declared.chars.CharClass.{CharClass}

pub letter_brace : (k : CharClass) → k ≡ is.Letter → k ≡ is.OpenBrace → ⊥
letter_brace k a b = cc

pub after_word-colon : (k : CharClass) → ComesAfterWord k → k ≡ is.Colon → ⊥
after_word-colon k (inl a) b = cc
after_word-colon k (inr a) b = cc

number-close : (k : CharClass) → BeginsNumber k → k ≡ is.CloseBrace → ⊥
number-close k (inl a) b = cc
number-close k (inr a) b = cc

number-comma : (k : CharClass) → BeginsNumber k → k ≡ is.Comma → ⊥
number-comma k (inl a) b = cc
number-comma k (inr a) b = cc

close-comma : (k : CharClass) → k ≡ is.CloseBrace → k ≡ is.Comma → ⊥
close-comma k a b = cc

-- A quote comes first.
pub quote_first : (w r : List ℕ) → w ≡ 34 ∷ r → class_of_next w ≡ is.Quote
unfolding class_of_char
quote_first w r e = ap class_of_next e

pub token-lead : {w r : List ℕ} {t : Tree} → Token w t r → (class_of_next w ≡ is.Letter → ⊥) × (class_of_next w ≡ is.OpenBrace → ⊥)
token-lead (number_token a0) = ((λ h. let n : ⊥ = cc in n), (λ h. let n : ⊥ = cc in n))
token-lead (negative_token a0 a1) = ((λ h. let n : ⊥ = cc in n), (λ h. let n : ⊥ = cc in n))
token-lead (octets_token a0 a1 a2) = ((λ h. let n : ⊥ = cc in n), (λ h. let n : ⊥ = cc in n))
token-lead (bits_token a0 a1 a2) = ((λ h. let n : ⊥ = cc in n), (λ h. let n : ⊥ = cc in n))
token-lead (text_token {w = w} {rest = r} cs e n) = let q = quote_first w (quote_is_doubled cs ++ (34 ∷ r)) e in ((λ h. let n : ⊥ = cc in n), (λ h. let n : ⊥ = cc in n))

-- What follows an even number of quotes.
double_step : (c : ℕ) (cs : List ℕ) → ((c ≡ 34) × (quote_is_doubled (c ∷ cs) ≡ 34 ∷ 34 ∷ quote_is_doubled cs)) ⊎ ((c ≢ 34) × (quote_is_doubled (c ∷ cs) ≡ c ∷ quote_is_doubled cs))
double_step c cs = elim (cases_Bool (c == 34)) [
  | inl h ↦ inl (eqb-true c 34 h, ap (λ b. cond b (34 ∷ 34 ∷ quote_is_doubled cs) (c ∷ quote_is_doubled cs)) h)
  | inr h ↦ inr ((λ e. let f : (c == 34) ≡ true = ap (λ x. x == 34) e in let n : ⊥ = cc in n), ap (λ b. cond b (34 ∷ 34 ∷ quote_is_doubled cs) (c ∷ quote_is_doubled cs)) h)
]

doubled_same : (a b r s : List ℕ) → quote_is_doubled a ++ (34 ∷ r) ≡ quote_is_doubled b ++ (34 ∷ s) → class_of_next r ≢ is.Quote → class_of_next s ≢ is.Quote → (a ≡ b) × (r ≡ s)
doubled_same [] [] r s e m n = (refl, cc)
doubled_same [] (c ∷ b) r s e m n = elim (double_step c b) [
  | inl h ↦ let f : r ≡ 34 ∷ (quote_is_doubled b ++ (34 ∷ s)) = cc (ap (λ x. x ++ (34 ∷ s)) h.1) in absurd (m (quote_first r _ f))
  | inr h ↦ let f : c ≡ 34 = cc (ap (λ x. x ++ (34 ∷ s)) h.1) in absurd (h.0 f)
]
doubled_same (c ∷ a) [] r s e m n = elim (double_step c a) [
  | inl h ↦ let f : s ≡ 34 ∷ (quote_is_doubled a ++ (34 ∷ r)) = cc (ap (λ x. x ++ (34 ∷ r)) h.1) in absurd (n (quote_first s _ f))
  | inr h ↦ let f : c ≡ 34 = cc (ap (λ x. x ++ (34 ∷ r)) h.1) in absurd (h.0 f)
]
doubled_same (c ∷ a) (d ∷ b) r s e m n = elim (double_step c a) [
  | inl h ↦ elim (double_step d b) [
    | inl k ↦ let f : quote_is_doubled a ++ (34 ∷ r) ≡ quote_is_doubled b ++ (34 ∷ s) = cc (ap (λ x. x ++ (34 ∷ r)) h.1, ap (λ x. x ++ (34 ∷ s)) k.1) in
        let q = doubled_same a b r s f m n in (cc, q.1)
    | inr k ↦ let f : d ≡ 34 = cc (ap (λ x. x ++ (34 ∷ r)) h.1, ap (λ x. x ++ (34 ∷ s)) k.1) in absurd (k.0 f)
  ]
  | inr h ↦ elim (double_step d b) [
    | inl k ↦ let f : c ≡ 34 = cc (ap (λ x. x ++ (34 ∷ r)) h.1, ap (λ x. x ++ (34 ∷ s)) k.1) in absurd (h.0 f)
    | inr k ↦ let f : (c ≡ d) × (quote_is_doubled a ++ (34 ∷ r) ≡ quote_is_doubled b ++ (34 ∷ s)) = (cc (ap (λ x. x ++ (34 ∷ r)) h.1, ap (λ x. x ++ (34 ∷ s)) k.1), cc (ap (λ x. x ++ (34 ∷ r)) h.1, ap (λ x. x ++ (34 ∷ s)) k.1)) in
        let q = doubled_same a b r s f.1 m n in (cc, q.1)
  ]
]

-- No text ends within another.
pub doubled_rest : (a b r : List ℕ) → quote_is_doubled b ++ (34 ∷ r) ≡ quote_is_doubled a ++ [] → class_of_next r ≢ is.Quote → ⊥
doubled_rest [] [] r e n = cc
doubled_rest [] (d ∷ b) r e n = elim (double_step d b) [
  | inl h ↦ cc (ap (λ x. x ++ (34 ∷ r)) h.1)
  | inr h ↦ cc (ap (λ x. x ++ (34 ∷ r)) h.1)
]
doubled_rest (c ∷ a) [] r e n = elim (double_step c a) [
  | inl h ↦ let f : r ≡ 34 ∷ (quote_is_doubled a ++ []) = cc (ap (λ x. x ++ []) h.1) in n (quote_first r _ f)
  | inr h ↦ let f : c ≡ 34 = cc (ap (λ x. x ++ []) h.1) in h.0 f
]
doubled_rest (c ∷ a) (d ∷ b) r e n = elim (double_step c a) [
  | inl h ↦ elim (double_step d b) [
    | inl k ↦ let f : quote_is_doubled b ++ (34 ∷ r) ≡ quote_is_doubled a ++ [] = cc (ap (λ x. x ++ []) h.1, ap (λ x. x ++ (34 ∷ r)) k.1) in doubled_rest a b r f n
    | inr k ↦ let f : d ≡ 34 = cc (ap (λ x. x ++ []) h.1, ap (λ x. x ++ (34 ∷ r)) k.1) in k.0 f
  ]
  | inr h ↦ elim (double_step d b) [
    | inl k ↦ let f : c ≡ 34 = cc (ap (λ x. x ++ []) h.1, ap (λ x. x ++ (34 ∷ r)) k.1) in h.0 f
    | inr k ↦ let f : quote_is_doubled b ++ (34 ∷ r) ≡ quote_is_doubled a ++ [] = cc (ap (λ x. x ++ []) h.1, ap (λ x. x ++ (34 ∷ r)) k.1) in doubled_rest a b r f n
  ]
]

octets_bits : (r s : List ℕ) → 39 ∷ 72 ∷ r ≡ 39 ∷ 66 ∷ s → ⊥
octets_bits r s e = let q : ◌≡◌ {A = ℕ} 72 66 = cc in omega (arith, q)

pub same_token : {w r s : List ℕ} {t v : Tree} → Token w t r → Token w v s → (t ≡ v) × (r ≡ s)
same_token (number_token a0) (number_token b0) = (refl, refl)
same_token (number_token a0) (negative_token b0 b1) = let n : ⊥ = cc in absurd n
same_token (number_token a0) (octets_token b0 b1 b2) = let n : ⊥ = cc in absurd n
same_token (number_token a0) (bits_token b0 b1 b2) = let n : ⊥ = cc in absurd n
same_token (number_token a0) (text_token b0 b1 b2) = let q = quote_first _ _ b1 in let n : ⊥ = cc in absurd n
same_token (negative_token a0 a1) (number_token b0) = let n : ⊥ = cc in absurd n
same_token (negative_token a0 a1) (negative_token b0 b1) = (refl, refl)
same_token (negative_token a0 a1) (octets_token b0 b1 b2) = let n : ⊥ = cc in absurd n
same_token (negative_token a0 a1) (bits_token b0 b1 b2) = let n : ⊥ = cc in absurd n
same_token (negative_token a0 a1) (text_token b0 b1 b2) = let q = quote_first _ _ b1 in let n : ⊥ = cc in absurd n
same_token (octets_token a0 a1 a2) (number_token b0) = let n : ⊥ = cc in absurd n
same_token (octets_token a0 a1 a2) (negative_token b0 b1) = let n : ⊥ = cc in absurd n
same_token (octets_token a0 a1 a2) (octets_token b0 b1 b2) = (refl, cc)
same_token (octets_token a0 a1 a2) (bits_token b0 b1 b2) = absurd (octets_bits _ _ (sym a1 ∙ b1))
same_token (octets_token a0 a1 a2) (text_token b0 b1 b2) = let q = quote_first _ _ b1 in let n : ⊥ = cc in absurd n
same_token (bits_token a0 a1 a2) (number_token b0) = let n : ⊥ = cc in absurd n
same_token (bits_token a0 a1 a2) (negative_token b0 b1) = let n : ⊥ = cc in absurd n
same_token (bits_token a0 a1 a2) (octets_token b0 b1 b2) = absurd (octets_bits _ _ (sym b1 ∙ a1))
same_token (bits_token a0 a1 a2) (bits_token b0 b1 b2) = (refl, cc)
same_token (bits_token a0 a1 a2) (text_token b0 b1 b2) = let q = quote_first _ _ b1 in let n : ⊥ = cc in absurd n
same_token (text_token a0 a1 a2) (number_token b0) = let q = quote_first _ _ a1 in let n : ⊥ = cc in absurd n
same_token (text_token a0 a1 a2) (negative_token b0 b1) = let q = quote_first _ _ a1 in let n : ⊥ = cc in absurd n
same_token (text_token a0 a1 a2) (octets_token b0 b1 b2) = let q = quote_first _ _ a1 in let n : ⊥ = cc in absurd n
same_token (text_token a0 a1 a2) (bits_token b0 b1 b2) = let q = quote_first _ _ a1 in let n : ⊥ = cc in absurd n
same_token (text_token {rest = r} cs e n) (text_token {rest = s} ds f m) =
    let g : quote_is_doubled cs ++ (34 ∷ r) ≡ quote_is_doubled ds ++ (34 ∷ s) = ap tail (sym e ∙ f) in
    let q = doubled_same cs ds r s g n m in (ap (λ x. char_string (utf8_of x)) q.0, q.1)

pub ident_same : {w id id' r r' : List ℕ} → Ident w id r → Ident w id' r' → (id ≡ id') × (r ≡ r')
ident_same a b = (a.longest ∙ sym b.longest, a.left ∙ sym b.left)

none_both : (xs : List Item) → AllNamed xs → AllBare xs → xs ≡ []
none_both [] a b = refl
none_both (named id t ∷ xs) a b = absurd b
none_both (bare t ∷ xs) a b = absurd a

some_items : {limit m : ℕ} {before xs : List Item} {u r : List ℕ} → ItemsParse limit m before u xs r → xs ≡ [] → ⊥
some_items (last_item a b) e = cc
some_items (comma_item a b c) e = cc
some_items (number_item a b c d) e = cc

pub lead_along : {r s : List ℕ} {k : CharClass} → r ≡ s → class_of_next (skip r) ≡ k → class_of_next (skip s) ≡ k
lead_along {k = k} e h = subst (λ x. class_of_next (skip x) ≡ k) e h

word_along : {r s : List ℕ} → r ≡ s → ComesAfterWord (class_of_next (skip r)) → ComesAfterWord (class_of_next (skip s))
word_along e h = subst (λ x. ComesAfterWord (class_of_next (skip x))) e h

parses_along : {limit level : ℕ} {u v s : List ℕ} {t : Tree} → v ≡ u → Parses limit level v t s → Parses limit level u t s
parses_along {limit = limit} {level = level} {s = s} {t = t} e d = subst (λ x. Parses limit level x t s) e d

items_along : {limit m : ℕ} {b c : List Item} {u v s : List ℕ} {xs : List Item} → c ≡ b → v ≡ u → ItemsParse limit m c v xs s → ItemsParse limit m b u xs s
items_along {limit = limit} {m = m} {b = b} {v = v} {s = s} {xs = xs} e f d =
    subst (λ x. ItemsParse limit m b x xs s) f (subst (λ x. ItemsParse limit m x v xs s) e d)

mutual
  pub same_parses : {limit level : ℕ} {u r s : List ℕ} {t v : Tree} → Parses limit level u t r → Parses limit level u v s → (t ≡ v) × (r ≡ s)
  same_parses (token l1 k1) (token l2 k2) = same_token k1 k2
  same_parses (token l1 k1) (bare_word l2 i2 c2) = absurd ((token-lead k1).0 i2.starts)
  same_parses (token l1 k1) (choose l2 i2 c2 d2) = absurd ((token-lead k1).0 i2.starts)
  same_parses (token l1 k1) (empty_braces l2 o2 e2) = absurd ((token-lead k1).1 o2)
  same_parses (token l1 k1) (fields_in_braces l2 o2 e2 d2 a2) = absurd ((token-lead k1).1 o2)
  same_parses (token l1 k1) (list_in_braces l2 o2 e2 d2 a2) = absurd ((token-lead k1).1 o2)
  same_parses (bare_word l1 i1 c1) (token l2 k2) = absurd ((token-lead k2).0 i1.starts)
  same_parses (bare_word l1 i1 c1) (bare_word l2 i2 c2) = let q = ident_same i1 i2 in (ap word q.0, q.1)
  same_parses (bare_word l1 i1 c1) (choose l2 i2 c2 d2) = absurd (c1 (lead_along (sym (ident_same i1 i2).1) c2))
  same_parses (bare_word l1 i1 c1) (empty_braces l2 o2 e2) = absurd (letter_brace _ i1.starts o2)
  same_parses (bare_word l1 i1 c1) (fields_in_braces l2 o2 e2 d2 a2) = absurd (letter_brace _ i1.starts o2)
  same_parses (bare_word l1 i1 c1) (list_in_braces l2 o2 e2 d2 a2) = absurd (letter_brace _ i1.starts o2)
  same_parses (choose l1 i1 c1 d1) (token l2 k2) = absurd ((token-lead k2).0 i1.starts)
  same_parses (choose l1 i1 c1 d1) (bare_word l2 i2 c2) = absurd (c2 (lead_along (ident_same i1 i2).1 c1))
  same_parses (choose l1 i1 c1 d1) (choose l2 i2 c2 d2) = let q = ident_same i1 i2 in let p = same_parses d1 (parses_along (ap (λ x. tail (skip x)) (sym q.1)) d2) in (cc, p.1)
  same_parses (choose l1 i1 c1 d1) (empty_braces l2 o2 e2) = absurd (letter_brace _ i1.starts o2)
  same_parses (choose l1 i1 c1 d1) (fields_in_braces l2 o2 e2 d2 a2) = absurd (letter_brace _ i1.starts o2)
  same_parses (choose l1 i1 c1 d1) (list_in_braces l2 o2 e2 d2 a2) = absurd (letter_brace _ i1.starts o2)
  same_parses (empty_braces l1 o1 e1) (token l2 k2) = absurd ((token-lead k2).1 o1)
  same_parses (empty_braces l1 o1 e1) (bare_word l2 i2 c2) = absurd (letter_brace _ i2.starts o1)
  same_parses (empty_braces l1 o1 e1) (choose l2 i2 c2 d2) = absurd (letter_brace _ i2.starts o1)
  same_parses (empty_braces l1 o1 e1) (empty_braces l2 o2 e2) = (refl, refl)
  same_parses (empty_braces l1 o1 e1) (fields_in_braces l2 o2 e2 d2 a2) = absurd (e2 e1)
  same_parses (empty_braces l1 o1 e1) (list_in_braces l2 o2 e2 d2 a2) = absurd (e2 e1)
  same_parses (fields_in_braces l1 o1 e1 d1 a1) (token l2 k2) = absurd ((token-lead k2).1 o1)
  same_parses (fields_in_braces l1 o1 e1 d1 a1) (bare_word l2 i2 c2) = absurd (letter_brace _ i2.starts o1)
  same_parses (fields_in_braces l1 o1 e1 d1 a1) (choose l2 i2 c2 d2) = absurd (letter_brace _ i2.starts o1)
  same_parses (fields_in_braces l1 o1 e1 d1 a1) (empty_braces l2 o2 e2) = absurd (e1 e2)
  same_parses (fields_in_braces l1 o1 e1 d1 a1) (fields_in_braces l2 o2 e2 d2 a2) = let p = same_items d1 d2 in (ap (λ x. sequence (fields_of x)) p.0, p.1)
  same_parses (fields_in_braces l1 o1 e1 d1 a1) (list_in_braces l2 o2 e2 d2 a2) = let p = same_items d1 d2 in absurd (some_items d2 (none_both _ (subst AllNamed p.0 a1) a2))
  same_parses (list_in_braces l1 o1 e1 d1 a1) (token l2 k2) = absurd ((token-lead k2).1 o1)
  same_parses (list_in_braces l1 o1 e1 d1 a1) (bare_word l2 i2 c2) = absurd (letter_brace _ i2.starts o1)
  same_parses (list_in_braces l1 o1 e1 d1 a1) (choose l2 i2 c2 d2) = absurd (letter_brace _ i2.starts o1)
  same_parses (list_in_braces l1 o1 e1 d1 a1) (empty_braces l2 o2 e2) = absurd (e1 e2)
  same_parses (list_in_braces l1 o1 e1 d1 a1) (fields_in_braces l2 o2 e2 d2 a2) = let p = same_items d1 d2 in absurd (some_items d2 (none_both _ a2 (subst AllBare p.0 a1)))
  same_parses (list_in_braces l1 o1 e1 d1 a1) (list_in_braces l2 o2 e2 d2 a2) = let p = same_items d1 d2 in (ap (λ x. sequence_of (trees_of x)) p.0, p.1)

  pub same_item : {limit m : ℕ} {u r s : List ℕ} {x y : Item} → ItemParses limit m u x r → ItemParses limit m u y s → (x ≡ y) × (r ≡ s)
  same_item (choice_item i1 c1 d1) (choice_item i2 c2 d2) = let q = ident_same i1 i2 in let p = same_parses d1 (parses_along (ap (λ x. tail (skip x)) (sym q.1)) d2) in (cc, p.1)
  same_item (choice_item i1 c1 d1) (word_item i2 c2) = let q = ident_same i1 i2 in absurd (after_word-colon _ c2 (lead_along q.1 c1))
  same_item (choice_item i1 c1 d1) (field_item i2 c2 w2 d2) = let q = ident_same i1 i2 in absurd (c2 (lead_along q.1 c1))
  same_item (choice_item i1 c1 d1) (value_item l2 d2) = absurd (l2 i1.starts)
  same_item (word_item i1 c1) (choice_item i2 c2 d2) = let q = ident_same i1 i2 in absurd (after_word-colon _ c1 (lead_along (sym q.1) c2))
  same_item (word_item i1 c1) (word_item i2 c2) = let q = ident_same i1 i2 in (ap (λ x. bare (word x)) q.0, q.1)
  same_item (word_item i1 c1) (field_item i2 c2 w2 d2) = let q = ident_same i1 i2 in absurd (w2 (word_along q.1 c1))
  same_item (word_item i1 c1) (value_item l2 d2) = absurd (l2 i1.starts)
  same_item (field_item i1 c1 w1 d1) (choice_item i2 c2 d2) = let q = ident_same i1 i2 in absurd (c1 (lead_along (sym q.1) c2))
  same_item (field_item i1 c1 w1 d1) (word_item i2 c2) = let q = ident_same i1 i2 in absurd (w1 (word_along (sym q.1) c2))
  same_item (field_item i1 c1 w1 d1) (field_item i2 c2 w2 d2) = let q = ident_same i1 i2 in let p = same_parses d1 (parses_along (sym q.1) d2) in (cc, p.1)
  same_item (field_item i1 c1 w1 d1) (value_item l2 d2) = absurd (l2 i1.starts)
  same_item (value_item l1 d1) (choice_item i2 c2 d2) = absurd (l1 i2.starts)
  same_item (value_item l1 d1) (word_item i2 c2) = absurd (l1 i2.starts)
  same_item (value_item l1 d1) (field_item i2 c2 w2 d2) = absurd (l1 i2.starts)
  same_item (value_item l1 d1) (value_item l2 d2) = let p = same_parses d1 d2 in (ap bare p.0, p.1)

  pub same_items : {limit m : ℕ} {before xs ys : List Item} {u r s : List ℕ} → ItemsParse limit m before u xs r → ItemsParse limit m before u ys s → (xs ≡ ys) × (r ≡ s)
  same_items (last_item i1 c1) (last_item i2 c2) = let q = same_item i1 i2 in (ap (λ x. x ∷ []) q.0, ap (λ x. tail (skip x)) q.1)
  same_items (last_item i1 c1) (comma_item i2 c2 d2) = let q = same_item i1 i2 in absurd (close-comma _ (lead_along q.1 c1) c2)
  same_items (last_item i1 c1) (number_item i2 a2 c2 d2) = let q = same_item i1 i2 in absurd (number-close _ c2 (lead_along q.1 c1))
  same_items (comma_item i1 c1 d1) (last_item i2 c2) = let q = same_item i1 i2 in absurd (close-comma _ c2 (lead_along q.1 c1))
  same_items (comma_item {before = before} i1 c1 d1) (comma_item i2 c2 d2) = let q = same_item i1 i2 in let p = same_items d1 (items_along (ap (λ x. before ++ (x ∷ [])) (sym q.0)) (ap (λ x. tail (skip x)) (sym q.1)) d2) in (cc, p.1)
  same_items (comma_item i1 c1 d1) (number_item i2 a2 c2 d2) = let q = same_item i1 i2 in absurd (number-comma _ c2 (lead_along q.1 c1))
  same_items (number_item i1 a1 c1 d1) (last_item i2 c2) = let q = same_item i1 i2 in absurd (number-close _ c1 (lead_along (sym q.1) c2))
  same_items (number_item i1 a1 c1 d1) (comma_item i2 c2 d2) = let q = same_item i1 i2 in absurd (number-comma _ c1 (lead_along (sym q.1) c2))
  same_items (number_item {before = before} i1 a1 c1 d1) (number_item i2 a2 c2 d2) = let q = same_item i1 i2 in let p = same_items d1 (items_along (ap (λ x. before ++ (x ∷ [])) (sym q.0)) (ap skip (sym q.1)) d2) in (cc, p.1)
