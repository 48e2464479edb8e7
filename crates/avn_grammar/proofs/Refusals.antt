-- What a refusal rules out.
use Rattle.std.proofs.Common.{◌≡◌, ◌≢◌, inl, inr, ℕ, ◌+◌, List, [], ◌∷◌, ◌++◌, refl, sym, ap, subst, ◌∙◌, add-one}
use Rattle.avn_grammar.specs.declared.chars.CharClass.{CharClass}
use Rattle.avn_grammar.specs.declared.chars.CharClass.TheVariants as is
use Rattle.avn_grammar.specs.Chars.{class_of_next, tail, skip}
use Rattle.avn_grammar.specs.Grammar.{Token, Ident, BeginsNumber, Item, AllIntegers, fields_of, trees_of, BracesParse, Parses, token, bare_word, choose, empty_braces, fields_in_braces, list_in_braces, ItemParses, choice_item, word_item, field_item, value_item, ItemsParse, last_item, comma_item, number_item}
use Rattle.avn_grammar.specs.Tree.{Tree, sequence, sequence_of}
use Rattle.avn_grammar.proofs.OneTree.{token-lead, ident_same, same_item, lead_along, letter_brace, after_word-colon}

never : {k a b : CharClass} → k ≡ a → k ≡ b → (a ≡ b → ⊥) → ⊥
never e f n = n (sym e ∙ f)

module _ (limit level : ℕ) (u w : List ℕ) (at : w ≡ skip u) where
  was : {k : CharClass} → class_of_next w ≡ k → class_of_next (skip u) ≡ k
  was {k = k} e = ap class_of_next (sym at) ∙ e

  ident_was : {id r : List ℕ} → Ident w id r → Ident (skip u) id r
  ident_was {id = id} {r = r} i = subst (λ x. Ident x id r) at i

  pub choice_none : (id r z : List ℕ) → Ident w id r → class_of_next (skip r) ≡ is.Colon → z ≡ tail (skip r) → ((t : Tree) (n : List ℕ) → Parses limit (level + 1) z t n → ⊥) → (t : Tree) (n : List ℕ) → Parses limit level u t n → ⊥
  choice_none id r z i c e h t n (token l k) = (token-lead k).0 (ident_was i).starts
  choice_none id r z i c e h t n (bare_word l j d) = d (lead_along (ident_same (ident_was i) j).1 c)
  choice_none id r z i c e h t n (choose {r = q} {p = p} l j d k) =
      let f : z ≡ tail (skip q) = e ∙ ap (λ x. tail (skip x)) (ident_same (ident_was i) j).1 in
      h p n (subst (λ x. Parses limit (level + 1) x p n) (sym f) (subst (λ x. Parses limit x (tail (skip q)) p n) (sym (add-one level)) k))
  choice_none id r z i c e h t n (empty_braces l o d) = letter_brace _ (ident_was i).starts o
  choice_none id r z i c e h t n (fields_in_braces l o d k a) = letter_brace _ (ident_was i).starts o
  choice_none id r z i c e h t n (list_in_braces l o d k a) = letter_brace _ (ident_was i).starts o

  pub braces_none : (z : List ℕ) → class_of_next w ≡ is.OpenBrace → z ≡ tail w → class_of_next (skip z) ≢ is.CloseBrace → ((t : Tree) (n : List ℕ) → BracesParse limit (level + 1) z t n → ⊥) → (t : Tree) (n : List ℕ) → Parses limit level u t n → ⊥
  braces_none z o e c h t n (token l k) = (token-lead k).1 (was o)
  braces_none z o e c h t n (bare_word l j d) = letter_brace _ j.starts (was o)
  braces_none z o e c h t n (choose l j d k) = letter_brace _ j.starts (was o)
  braces_none z o e c h t n (empty_braces l p d) = c (subst (λ x. class_of_next (skip x) ≡ is.CloseBrace) (sym (e ∙ ap tail at)) d)
  braces_none z o e c h t n (fields_in_braces {xs = xs} l p d k a) =
      h (sequence (fields_of xs)) n (xs, subst (λ x. ItemsParse limit (level + 1) [] x xs n) (sym (e ∙ ap tail at)) (subst (λ x. ItemsParse limit x [] (tail (skip u)) xs n) (sym (add-one level)) k), inl (a, refl))
  braces_none z o e c h t n (list_in_braces {xs = xs} l p d k a) =
      h (sequence_of (trees_of xs)) n (xs, subst (λ x. ItemsParse limit (level + 1) [] x xs n) (sym (e ∙ ap tail at)) (subst (λ x. ItemsParse limit x [] (tail (skip u)) xs n) (sym (add-one level)) k), inr (a, refl))

  pub other_none : class_of_next w ≢ is.Letter → class_of_next w ≢ is.OpenBrace → ((t : Tree) (n : List ℕ) → Token w t n → ⊥) → (t : Tree) (n : List ℕ) → Parses limit level u t n → ⊥
  other_none a b h t n (token l k) = h t n (subst (λ x. Token x t n) (sym at) k)
  other_none a b h t n (bare_word l j d) = a (ap class_of_next at ∙ j.starts)
  other_none a b h t n (choose l j d k) = a (ap class_of_next at ∙ j.starts)
  other_none a b h t n (empty_braces l p d) = b (ap class_of_next at ∙ p)
  other_none a b h t n (fields_in_braces l p d k c) = b (ap class_of_next at ∙ p)
  other_none a b h t n (list_in_braces l p d k c) = b (ap class_of_next at ∙ p)

  pub item_choice_none : (id r z : List ℕ) → Ident w id r → class_of_next (skip r) ≡ is.Colon → z ≡ tail (skip r) → ((t : Tree) (n : List ℕ) → Parses limit level z t n → ⊥) → (x : Item) (n : List ℕ) → ItemParses limit level u x n → ⊥
  item_choice_none id r z i c e h x n (choice_item {p = p} j d k) = h p n (subst (λ x. Parses limit level x p n) (sym (e ∙ ap (λ x. tail (skip x)) (ident_same (ident_was i) j).1)) k)
  item_choice_none id r z i c e h x n (word_item j d) = after_word-colon _ d (lead_along (ident_same (ident_was i) j).1 c)
  item_choice_none id r z i c e h x n (field_item j d f k) = d (lead_along (ident_same (ident_was i) j).1 c)
  item_choice_none id r z i c e h x n (value_item d k) = d (ident_was i).starts

  pub item_field_none : (id r z : List ℕ) → Ident w id r → class_of_next (skip r) ≢ is.Colon → class_of_next (skip r) ≢ is.Comma → class_of_next (skip r) ≢ is.CloseBrace → z ≡ r → ((t : Tree) (n : List ℕ) → Parses limit level z t n → ⊥)
      → (x : Item) (n : List ℕ) → ItemParses limit level u x n → ⊥
  item_field_none id r z i c l m e h x n (choice_item j d k) = c (lead_along (sym (ident_same (ident_was i) j).1) d)
  item_field_none id r z i c l m e h x n (word_item j (inl d)) = l (lead_along (sym (ident_same (ident_was i) j).1) d)
  item_field_none id r z i c l m e h x n (word_item j (inr d)) = m (lead_along (sym (ident_same (ident_was i) j).1) d)
  item_field_none id r z i c l m e h x n (field_item {p = p} j d f k) = h p n (subst (λ x. Parses limit level x p n) (sym (e ∙ (ident_same (ident_was i) j).1)) k)
  item_field_none id r z i c l m e h x n (value_item d k) = d (ident_was i).starts

  pub item_value_none : (v : List ℕ) → v ≡ w → class_of_next w ≢ is.Letter → ((t : Tree) (n : List ℕ) → Parses limit level v t n → ⊥) → (x : Item) (n : List ℕ) → ItemParses limit level u x n → ⊥
  item_value_none v e c h x n (choice_item j d k) = c (ap class_of_next at ∙ j.starts)
  item_value_none v e c h x n (word_item j d) = c (ap class_of_next at ∙ j.starts)
  item_value_none v e c h x n (field_item j d f k) = c (ap class_of_next at ∙ j.starts)
  item_value_none v e c h x n (value_item {t = t} d k) = h t n (subst (λ x. Parses limit level x t n) (sym (e ∙ at)) k)

pub no_items : {limit m : ℕ} {before xs : List Item} {u n : List ℕ} → ((x : Item) (r : List ℕ) → ItemParses limit m u x r → ⊥) → ItemsParse limit m before u xs n → ⊥
no_items h (last_item i c) = h _ _ i
no_items h (comma_item i c d) = h _ _ i
no_items h (number_item i a c d) = h _ _ i

-- What follows an item that stands.
pub data Follows (limit m : ℕ) (before : List Item) (x : Item) (r : List ℕ) (xs : List Item) (n : List ℕ) : Type 0 where
  ends : class_of_next (skip r) ≡ is.CloseBrace → xs ≡ x ∷ [] → n ≡ tail (skip r) → Follows limit m before x r xs n
  after_comma : (zs : List Item) → class_of_next (skip r) ≡ is.Comma → xs ≡ x ∷ zs → ItemsParse limit m (before ++ (x ∷ [])) (tail (skip r)) zs n → Follows limit m before x r xs n
  after_number : (zs : List Item) → AllIntegers (before ++ (x ∷ [])) → BeginsNumber (class_of_next (skip r)) → xs ≡ x ∷ zs → ItemsParse limit m (before ++ (x ∷ [])) (skip r) zs n → Follows limit m before x r xs n

follows_along : {limit m : ℕ} {before xs : List Item} {x y : Item} {r s n : List ℕ} → y ≡ x → s ≡ r → Follows limit m before y s xs n → Follows limit m before x r xs n
follows_along {limit = limit} {m = m} {before = before} {xs = xs} {x = x} {s = s} {n = n} e f d =
    subst (λ v. Follows limit m before x v xs n) f (subst (λ v. Follows limit m before v s xs n) e d)

pub follows : {limit m : ℕ} {before xs : List Item} {u r n : List ℕ} {x : Item} → ItemParses limit m u x r → ItemsParse limit m before u xs n → Follows limit m before x r xs n
follows k (last_item i c) = let q = same_item i k in follows_along q.0 q.1 (ends c refl refl)
follows k (comma_item i c d) = let q = same_item i k in follows_along q.0 q.1 (after_comma _ c refl d)
follows k (number_item i a c d) = let q = same_item i k in follows_along q.0 q.1 (after_number _ a c refl d)
