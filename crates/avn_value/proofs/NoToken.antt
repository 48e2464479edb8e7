-- What no token begins with.
use Rattle.std.proofs.Common.{◌≡◌, ◌≢◌, ◌⊎◌, inl, inr, ℕ, List, [], ◌∷◌, ◌++◌, false, sym, ap, ◌∙◌, arith}
use Rattle.avn_grammar.specs.declared.chars.CharClass.TheVariants as is
use Rattle.avn_grammar.specs.Chars.{class_of_next, tail, skip_while, take_while, is_not_apostrophe, without_whitespace, all, quote_is_doubled}
use Rattle.avn_grammar.specs.Octets.{are_pairs, is_bit}
use Rattle.avn_grammar.specs.Tree.{Tree}
use Rattle.avn_grammar.specs.Grammar.{Token, number_token, negative_token, octets_token, bits_token, text_token}
use Rattle.avn_grammar.proofs.OneTree.{quote_first, doubled_rest}
use Rattle.avn_cursor.specs.HexDigits.{inside}

pub minus_none : (w v : List ℕ) → class_of_next w ≡ is.Minus → v ≡ tail w → class_of_next v ≢ is.Digit → (t : Tree) (n : List ℕ) → Token w t n → ⊥
minus_none w v m e h t n (number_token a) = cc
minus_none w v m e h t n (negative_token a b) = h (ap class_of_next e ∙ b)
minus_none w v m e h t n (octets_token a b c) = cc
minus_none w v m e h t n (bits_token a b c) = cc
minus_none w v m e h t n (text_token cs f g) = let q = quote_first _ _ f in cc

pub plain_none : (w v : List ℕ) → (class_of_next w ≡ is.Digit) ⊎ (class_of_next w ≡ is.Minus) → class_of_next w ≢ is.Minus → v ≡ w → class_of_next v ≢ is.Digit → (t : Tree) (n : List ℕ) → Token w t n → ⊥
plain_none w v r m e h t n (number_token a) = h (ap class_of_next e ∙ a)
plain_none w v r m e h t n (negative_token a b) = m a
plain_none w v (inl d) m e h t n (octets_token a b c) = cc
plain_none w v (inr d) m e h t n (octets_token a b c) = m d
plain_none w v (inl d) m e h t n (bits_token a b c) = cc
plain_none w v (inr d) m e h t n (bits_token a b c) = m d
plain_none w v (inl d) m e h t n (text_token cs f g) = let q = quote_first _ _ f in cc
plain_none w v (inr d) m e h t n (text_token cs f g) = m d

pub text_none : (w r cs : List ℕ) → w ≡ (34 ∷ quote_is_doubled cs) ++ r → r ≡ [] → (t : Tree) (n : List ℕ) → Token w t n → ⊥
text_none w r cs e f t n (number_token a) = let q = quote_first _ _ e in cc
text_none w r cs e f t n (negative_token a b) = let q = quote_first _ _ e in cc
text_none w r cs e f t n (octets_token a b c) = let q = quote_first _ _ e in cc
text_none w r cs e f t n (bits_token a b c) = let q = quote_first _ _ e in cc
text_none w r cs e f t n (text_token ds g h) = doubled_rest cs ds n (ap tail (sym g ∙ e ∙ ap (λ x. (34 ∷ quote_is_doubled cs) ++ x) f)) h

pub lead_token : {w n : List ℕ} {t : Tree} → class_of_next w ≢ is.Digit → class_of_next w ≢ is.Minus → class_of_next w ≢ is.Quote → class_of_next w ≢ is.Apostrophe → Token w t n → ⊥
lead_token a b c o (number_token d) = a d
lead_token a b c o (negative_token d e) = b d
lead_token a b c o (octets_token d e f) = o d
lead_token a b c o (bits_token d e f) = o d
lead_token a b c o (text_token cs e f) = c (quote_first _ _ e)

-- No token begins with an apostrophe, unless digits and one more follow up to a letter.
pub unclosed_none : (w : List ℕ) → class_of_next w ≡ is.Apostrophe → ((rest : List ℕ) → skip_while is_not_apostrophe (tail w) ≡ 39 ∷ 72 ∷ rest → ⊥) → ((rest : List ℕ) → skip_while is_not_apostrophe (tail w) ≡ 39 ∷ 66 ∷ rest → ⊥) → (t : Tree) (n : List ℕ) → Token w t n → ⊥
unclosed_none w e h b t n (number_token a) = cc
unclosed_none w e h b t n (negative_token a c) = cc
unclosed_none w e h b t n (octets_token {rest = r} a c d) = h r c
unclosed_none w e h b t n (bits_token {rest = r} a c d) = b r c
unclosed_none w e h b t n (text_token cs f g) = let q = quote_first _ _ f in cc

octets_bits : (r s : List ℕ) → 39 ∷ 72 ∷ r ≡ 39 ∷ 66 ∷ s → ⊥
octets_bits r s e = let q : ◌≡◌ {A = ℕ} 72 66 = cc in omega (arith, q)

pub octets_none : (w r : List ℕ) → class_of_next w ≡ is.Apostrophe → skip_while is_not_apostrophe (tail w) ≡ 39 ∷ 72 ∷ r → are_pairs (without_whitespace (take_while is_not_apostrophe (tail w))) ≡ false → (t : Tree) (n : List ℕ) → Token w t n → ⊥
octets_none w r e p h t n (number_token a) = cc
octets_none w r e p h t n (negative_token a c) = cc
octets_none w r e p h t n (octets_token a c d) = cc
octets_none w r e p h t n (bits_token {rest = s} a c d) = octets_bits r s (sym p ∙ c)
octets_none w r e p h t n (text_token cs f g) = let q = quote_first _ _ f in cc

pub bits_none : (w r : List ℕ) → class_of_next w ≡ is.Apostrophe → skip_while is_not_apostrophe (tail w) ≡ 39 ∷ 66 ∷ r → all is_bit (without_whitespace (take_while is_not_apostrophe (tail w))) ≡ false → (t : Tree) (n : List ℕ) → Token w t n → ⊥
bits_none w r e p h t n (number_token a) = cc
bits_none w r e p h t n (negative_token a c) = cc
bits_none w r e p h t n (octets_token {rest = s} a c d) = octets_bits s r (sym c ∙ p)
bits_none w r e p h t n (bits_token a c d) = cc
bits_none w r e p h t n (text_token cs f g) = let q = quote_first _ _ f in cc

-- No token begins with an apostrophe, unless digits follow up to the next one.
pub digits_none : (w : List ℕ) → class_of_next w ≡ is.Apostrophe → are_pairs (inside (tail w)) ≡ false → all is_bit (inside (tail w)) ≡ false → (t : Tree) (n : List ℕ) → Token w t n → ⊥
digits_none w e p b t n (number_token a) = cc
digits_none w e p b t n (negative_token a c) = cc
digits_none w e p b t n (octets_token a c d) = cc
digits_none w e p b t n (bits_token a c d) = cc
digits_none w e p b t n (text_token cs f g) = let q = quote_first _ _ f in cc
