-- Where a value is looked for too deep, none stands.
use Rattle.std.proofs.Common.{◌≡◌, inl, inr, ℕ, ◌≤◌, List, [], refl, subst, arith, add-one}
use Rattle.avn_grammar.specs.declared.chars.CharClass.TheVariants as is
use Rattle.avn_grammar.specs.Chars.{skip, tail}
use Rattle.avn_grammar.specs.Depth.{ExceedsDepth, too_deep, deep_payload, deep_braces, ItemExceedsDepth, deep_choice, deep_field, deep_value, ItemsExceedDepth, deep_here, deep_after_comma, deep_after_number}
use Rattle.avn_grammar.specs.Grammar.{Item, Parses, token, bare_word, choose, empty_braces, fields_in_braces, list_in_braces, ItemParses, ItemsParse, BeginsNumber}
use Rattle.avn_grammar.specs.Tree.{Tree}
use Rattle.avn_grammar.proofs.Refusals.{choice_none, braces_none, item_choice_none, item_field_none, item_value_none, no_items, follows, ends, after_comma, after_number}
use Rattle.avn_grammar.specs.declared.chars.CharClass.{CharClass}

-- What follows an item is one thing.
pub close_comma : (k : CharClass) → k ≡ is.CloseBrace → k ≡ is.Comma → ⊥
close_comma k a b = cc

pub number_comma : (k : CharClass) → BeginsNumber k → k ≡ is.Comma → ⊥
number_comma k (inl a) b = cc
number_comma k (inr a) b = cc

pub number_close : (k : CharClass) → BeginsNumber k → k ≡ is.CloseBrace → ⊥
number_close k (inl a) b = cc
number_close k (inr a) b = cc

within : {limit level : ℕ} {u n : List ℕ} {t : Tree} → Parses limit level u t n → level ≤ limit
within (token l k) = l
within (bare_word l i c) = l
within (choose l i c d) = l
within (empty_braces l o e) = l
within (fields_in_braces l o e d a) = l
within (list_in_braces l o e d a) = l

mutual
  pub deep_parses : {limit level : ℕ} {u : List ℕ} → ExceedsDepth limit level u → (t : Tree) (n : List ℕ) → Parses limit level u t n → ⊥
  deep_parses (too_deep lt) t n s = let l = within s in omega arith
  deep_parses {limit = limit} (deep_payload {level = level} {u = u} {id = id} {r = r} le i c d) t n s =
      choice_none limit level u (skip u) refl id r (tail (skip r)) i c refl (λ v m x. deep_parses d v m (subst (λ k. Parses limit k (tail (skip r)) v m) (add-one level) x)) t n s
  deep_parses {limit = limit} (deep_braces {level = level} {u = u} le o c d) t n s =
      braces_none limit level u (skip u) refl (tail (skip u)) o refl c (λ v m x. items_deep d x.0 m (subst (λ k. ItemsParse limit k [] (tail (skip u)) x.0 m) (add-one level) x.1)) t n s

  pub item_deep : {limit m : ℕ} {u : List ℕ} → ItemExceedsDepth limit m u → (x : Item) (n : List ℕ) → ItemParses limit m u x n → ⊥
  item_deep {limit = limit} (deep_choice {m = m} {u = u} {id = id} {r = r} i c d) x n s = item_choice_none limit m u (skip u) refl id r (tail (skip r)) i c refl (λ v k y. deep_parses d v k y) x n s
  item_deep {limit = limit} (deep_field {m = m} {u = u} {id = id} {r = r} i c f d) x n s = item_field_none limit m u (skip u) refl id r r i c (λ h. f (inl h)) (λ h. f (inr h)) refl (λ v k y. deep_parses d v k y) x n s
  item_deep {limit = limit} (deep_value {m = m} {u = u} c d) x n s = item_value_none limit m u (skip u) refl (skip u) refl c (λ v k y. deep_parses d v k y) x n s

  pub items_deep : {limit m : ℕ} {before : List Item} {u : List ℕ} → ItemsExceedDepth limit m before u → (xs : List Item) (n : List ℕ) → ItemsParse limit m before u xs n → ⊥
  items_deep (deep_here d) xs n s = no_items (λ x k y. item_deep d x k y) s
  items_deep (deep_after_comma k c d) xs n s = elim (follows k s) [ ends a b e ↦ close_comma _ a c | after_comma zs a b e ↦ items_deep d zs n e | after_number zs a b e f ↦ number_comma _ b c ]
  items_deep (deep_after_number k a c d) xs n s = elim (follows k s) [ ends b e f ↦ number_close _ c b | after_comma zs b e f ↦ number_comma _ c b | after_number zs b e f g ↦ items_deep d zs n g ]
