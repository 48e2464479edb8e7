-- Steps of a reader.
use Rattle.std.proofs.Common.{◌≡◌, ◌≢◌, inl, inr, ℕ, suc, ◌+◌, ◌<◌, ◌≤◌, List, [], ◌∷◌, Bool, true, false, cond, ◌==◌, ◌||◌, sym, ap, subst, ◌∙◌, length, arith, add-one, length-append}
use Rattle.avn_grammar.specs.declared.chars.CharClass.{CharClass}
use Rattle.avn_grammar.specs.declared.chars.CharClass.TheVariants as is
use Rattle.avn_grammar.proofs.Runs.{past-le}
use Rattle.avn_grammar.specs.Chars.{class_of_next, tail, skip_while, skip, is_letter, is_digit, is_name, quote_is_doubled, has_fraction, is_not_apostrophe, utf8_of}
use Rattle.avn_grammar.specs.Depth.{ExceedsDepth, ItemExceedsDepth, ItemsExceedDepth, deep_payload, deep_braces, deep_choice, deep_field, deep_value}
use Rattle.avn_grammar.specs.Grammar.{word_of, Token, number_token, past_number, negative_token, octets_token, bits_token, text_token, Ident, ComesAfterWord, named, bare, BracesParse, Parses, bare_word, choose, empty_braces, fields_in_braces, list_in_braces, ItemParses, choice_item, word_item, field_item, value_item, ItemsParse}
use Rattle.avn_grammar.specs.Tree.{Tree, choice, sequence_of, no_trees}
use Rattle.avn_cursor.proofs.Leads.{lead_letter, lead_digit}

letter-name : (c : ℕ) → is_letter c ≡ true → is_name c ≡ true
letter-name c h = ap (λ b. b || is_digit c || (c == 45) || (c == 95)) h

past_one : (p : ℕ → Bool) (c : ℕ) (u : List ℕ) → p c ≡ true → length (skip_while p (c ∷ u)) < length (c ∷ u)
past_one p c u h = let e : skip_while p (c ∷ u) ≡ skip_while p u = ap (λ b. cond b (skip_while p u) (c ∷ u)) h in omega (arith, past-le p u, ap length e)

pub ident-shorter : (w id r : List ℕ) → Ident w id r → length r < length w
ident-shorter [] id r i = let e = i.starts in let n : ⊥ = cc in absurd n
ident-shorter (c ∷ u) id r i = omega (arith, past_one is_name c u (letter-name c (lead_letter c i.starts)), ap length i.left)

pub digits-shorter : (w : List ℕ) → class_of_next w ≡ is.Digit → length (skip_while is_digit w) < length w
digits-shorter [] e = let n : ⊥ = cc in absurd n
digits-shorter (c ∷ u) e = past_one is_digit c u (lead_digit c e)

pub tail-le : (w : List ℕ) → length (tail w) ≤ length w
tail-le [] = omega arith
tail-le (c ∷ u) = omega arith

number-shorter : (w : List ℕ) → class_of_next w ≡ is.Digit → length (past_number w) < length w
number-shorter w e = elim (has_fraction (skip_while is_digit w)) as (λ b. length (cond b (skip_while is_digit (tail (skip_while is_digit w))) (skip_while is_digit w)) < length w) [
  | true ↦ omega (arith, digits-shorter w e, tail-le (skip_while is_digit w), past-le is_digit (tail (skip_while is_digit w)))
  | false ↦ digits-shorter w e
]

quoted-shorter : (w r : List ℕ) (c : ℕ) → skip_while is_not_apostrophe (tail w) ≡ 39 ∷ c ∷ r → length r < length w
quoted-shorter w r c e = omega (arith, ap length e, past-le is_not_apostrophe (tail w), tail-le w)

pub token-shorter : {w r : List ℕ} {t : Tree} → Token w t r → length r < length w
token-shorter (number_token {w = w} a) = number-shorter w a
token-shorter (negative_token {w = w} a b) = omega (arith, number-shorter (tail w) b, tail-le w)
token-shorter (octets_token {w = w} {rest = r} a b c) = quoted-shorter w r 72 b
token-shorter (bits_token {w = w} {rest = r} a b c) = quoted-shorter w r 66 b
token-shorter (text_token {w = w} {rest = r} cs e n) = omega (arith, ap length e, length-append (34 ∷ quote_is_doubled cs) (34 ∷ r))

-- What the cursor shows, u on.
module _ (limit level : ℕ) (u w : List ℕ) (at : w ≡ skip u) where
  ident_at : {id r : List ℕ} → Ident w id r → Ident (skip u) id r
  ident_at {id = id} {r = r} i = subst (λ x. Ident x id r) at i

  lead_at : {k : CharClass} → class_of_next w ≡ k → class_of_next (skip u) ≡ k
  lead_at {k = k} e = ap class_of_next (sym at) ∙ e

  pub value_choice : (r z n id b : List ℕ) (t p q : Tree) → level ≤ limit → Ident w id r → class_of_next (skip r) ≡ is.Colon → z ≡ tail (skip r) → Parses limit (level + 1) z p n
      → t ≡ choice b q → b ≡ utf8_of id → q ≡ p → Parses limit level u t n
  value_choice r z n id b t p q le i c e d f g h =
      let d1 : Parses limit (suc level) (tail (skip r)) p n = subst (λ x. Parses limit (suc level) x p n) e (subst (λ x. Parses limit x z p n) (add-one level) d) in
      let goal : choice (utf8_of id) p ≡ t = sym (f ∙ ap (λ x. choice x q) g ∙ ap (λ x. choice (utf8_of id) x) h) in
      subst (λ x. Parses limit level u x n) goal (choose le (ident_at i) c d1)

  pub value_word : (r n id b : List ℕ) (t : Tree) → level ≤ limit → Ident w id r → class_of_next (skip r) ≢ is.Colon → n ≡ r → t ≡ word_of b → b ≡ utf8_of id → Parses limit level u t n
  value_word r n id b t le i c e f g =
      subst (λ x. Parses limit level u t x) (sym e) (subst (λ x. Parses limit level u x r) (sym (f ∙ ap word_of g)) (bare_word le (ident_at i) c))

  pub value_empty : (z m : List ℕ) (t : Tree) → level ≤ limit → class_of_next w ≡ is.OpenBrace → z ≡ tail w → class_of_next (skip z) ≡ is.CloseBrace → m ≡ tail (skip z) → t ≡ sequence_of no_trees → Parses limit level u t m
  value_empty z m t le o e c f g =
      let e1 : z ≡ tail (skip u) = e ∙ ap tail at in
      let c1 : class_of_next (skip (tail (skip u))) ≡ is.CloseBrace = subst (λ x. class_of_next (skip x) ≡ is.CloseBrace) e1 c in
      let d = empty_braces {level = level} {u = u} le (lead_at o) c1 in
      subst (λ x. Parses limit level u x m) (sym g) (subst (λ x. Parses limit level u (sequence_of no_trees) x) (sym (f ∙ ap (λ x. tail (skip x)) e1)) d)

  pub value_braces : (z n : List ℕ) (t : Tree) → level ≤ limit → class_of_next w ≡ is.OpenBrace → z ≡ tail w → class_of_next (skip z) ≢ is.CloseBrace → BracesParse limit (level + 1) z t n → Parses limit level u t n
  value_braces z n t le o e c d =
      let e1 : z ≡ tail (skip u) = e ∙ ap tail at in
      let c1 : class_of_next (skip (tail (skip u))) ≢ is.CloseBrace = subst (λ x. class_of_next (skip x) ≢ is.CloseBrace) e1 c in
      let d1 : ItemsParse limit (suc level) [] (tail (skip u)) d.0 n = subst (λ x. ItemsParse limit (suc level) [] x d.0 n) e1 (subst (λ x. ItemsParse limit x [] z d.0 n) (add-one level) d.1) in
      elim d.2 [
        | inl k ↦ subst (λ x. Parses limit level u x n) (sym k.1) (fields_in_braces le (lead_at o) c1 d1 k.0)
        | inr k ↦ subst (λ x. Parses limit level u x n) (sym k.1) (list_in_braces le (lead_at o) c1 d1 k.0)
      ]

  pub item_choice : (r z n id b : List ℕ) (t p q : Tree) → Ident w id r → class_of_next (skip r) ≡ is.Colon → z ≡ tail (skip r) → Parses limit level z p n
      → t ≡ choice b q → b ≡ utf8_of id → q ≡ p → ItemParses limit level u (bare t) n
  item_choice r z n id b t p q i c e d f g h =
      let goal : choice (utf8_of id) p ≡ t = sym (f ∙ ap (λ x. choice x q) g ∙ ap (λ x. choice (utf8_of id) x) h) in
      subst (λ x. ItemParses limit level u (bare x) n) goal (choice_item (ident_at i) c (subst (λ x. Parses limit level x p n) e d))

  pub item_word : (r n id b : List ℕ) (t : Tree) → Ident w id r → ComesAfterWord (class_of_next (skip r)) → n ≡ r → t ≡ word_of b → b ≡ utf8_of id → ItemParses limit level u (bare t) n
  item_word r n id b t i c e f g =
      subst (λ x. ItemParses limit level u (bare t) x) (sym e) (subst (λ x. ItemParses limit level u (bare x) r) (sym (f ∙ ap word_of g)) (word_item (ident_at i) c))

  pub item_field : (r z n id b : List ℕ) (p : Tree) → Ident w id r → class_of_next (skip r) ≢ is.Colon → class_of_next (skip r) ≢ is.Comma → class_of_next (skip r) ≢ is.CloseBrace → z ≡ r → Parses limit level z p n → b ≡ utf8_of id
      → ItemParses limit level u (named b p) n
  item_field r z n id b p i c k l e d g =
      subst (λ x. ItemParses limit level u (named x p) n) (sym g)
      (field_item (ident_at i) c (elim [ inl x ↦ k x | inr x ↦ l x ]) (subst (λ x. Parses limit level x p n) e d))

  pub item_value : (v n : List ℕ) (t : Tree) → v ≡ w → class_of_next w ≢ is.Letter → Parses limit level v t n → ItemParses limit level u (bare t) n
  item_value v n t e c d = value_item (λ h. c (ap class_of_next at ∙ h)) (subst (λ x. Parses limit level x t n) (e ∙ at) d)

pub braces_along : (limit m : ℕ) (v u n : List ℕ) (t : Tree) → v ≡ u → BracesParse limit m v t n → BracesParse limit m u t n
braces_along limit m v u n t e d = subst (λ x. BracesParse limit m x t n) e d

-- What is looked for too deep.
module _ (limit level : ℕ) (u w : List ℕ) (at : w ≡ skip u) where
  ident_from : {id r : List ℕ} → Ident w id r → Ident (skip u) id r
  ident_from {id = id} {r = r} i = subst (λ x. Ident x id r) at i

  pub payload_deep : (id r z : List ℕ) → level ≤ limit → Ident w id r → class_of_next (skip r) ≡ is.Colon → z ≡ tail (skip r) → ExceedsDepth limit (level + 1) z → ExceedsDepth limit level u
  payload_deep id r z le i c e d = deep_payload le (ident_from i) c (subst (λ x. ExceedsDepth limit (suc level) x) e (subst (λ x. ExceedsDepth limit x z) (add-one level) d))

  pub braces_deep : (z : List ℕ) → level ≤ limit → class_of_next w ≡ is.OpenBrace → z ≡ tail w → class_of_next (skip z) ≢ is.CloseBrace → ItemsExceedDepth limit (level + 1) [] z → ExceedsDepth limit level u
  braces_deep z le o e c d =
      let e1 : z ≡ tail (skip u) = e ∙ ap tail at in
      deep_braces le (ap class_of_next (sym at) ∙ o) (subst (λ x. class_of_next (skip x) ≢ is.CloseBrace) e1 c) (subst (λ x. ItemsExceedDepth limit (suc level) [] x) e1 (subst (λ x. ItemsExceedDepth limit x [] z) (add-one level) d))

  pub choice_deep : (id r z : List ℕ) → Ident w id r → class_of_next (skip r) ≡ is.Colon → z ≡ tail (skip r) → ExceedsDepth limit level z → ItemExceedsDepth limit level u
  choice_deep id r z i c e d = deep_choice (ident_from i) c (subst (λ x. ExceedsDepth limit level x) e d)

  pub field_deep : (id r z : List ℕ) → Ident w id r → class_of_next (skip r) ≢ is.Colon → class_of_next (skip r) ≢ is.Comma → class_of_next (skip r) ≢ is.CloseBrace → z ≡ r → ExceedsDepth limit level z → ItemExceedsDepth limit level u
  field_deep id r z i c k l e d = deep_field (ident_from i) c (elim [ inl x ↦ k x | inr x ↦ l x ]) (subst (λ x. ExceedsDepth limit level x) e d)

  pub value_deep : (v : List ℕ) → v ≡ w → class_of_next w ≢ is.Letter → ExceedsDepth limit level v → ItemExceedsDepth limit level u
  value_deep v e c d = deep_value (λ h. c (ap class_of_next at ∙ h)) (subst (λ x. ExceedsDepth limit level x) (e ∙ at) d)

pub items_deep_along : (limit m : ℕ) (v u : List ℕ) → v ≡ u → ItemsExceedDepth limit m [] v → ItemsExceedDepth limit m [] u
items_deep_along limit m v u e d = subst (λ x. ItemsExceedDepth limit m [] x) e d
