-- How deep values are looked for, in a text and in the printed text of a tree.
use Rattle.std.specs.Prelude.{◌≡◌, ◌≢◌, ℕ, suc, ◌≤◌, ◌<◌, List, [], ◌∷◌, ◌++◌, cond, max}
use Rattle.avn_grammar.specs.declared.chars.CharClass.TheVariants as is
use Rattle.avn_grammar.specs.Chars.{class_of_next, tail, skip}
use Rattle.avn_grammar.specs.Tree.{Tree, Trees, Fields, boolean, null, integer, real, octet_string, bit_string, oid, enumerated, char_string, sequence, sequence_of, choice, no_trees, tree, no_fields, field, absent}
use Rattle.avn_grammar.specs.Grammar.{is_real_keyword, Item, AllIntegers, Ident, ComesAfterWord, BeginsNumber, ItemParses}

mutual
  -- The value that is looked for at the front of the text, or one within it, is looked for at a level above the limit before any other fault.
  pub data ExceedsDepth (limit : ℕ) : ℕ → List ℕ → Type 0 where
    too_deep : {level : ℕ} {u : List ℕ} → limit < level → ExceedsDepth limit level u
    deep_payload : {level : ℕ} {u id r : List ℕ} → level ≤ limit → Ident (skip u) id r → class_of_next (skip r) ≡ is.Colon → ExceedsDepth limit (suc level) (tail (skip r)) → ExceedsDepth limit level u
    deep_braces : {level : ℕ} {u : List ℕ} → level ≤ limit → class_of_next (skip u) ≡ is.OpenBrace → class_of_next (skip (tail (skip u))) ≢ is.CloseBrace → ItemsExceedDepth limit (suc level) [] (tail (skip u)) → ExceedsDepth limit level u

  -- The value that the item at the front of the text looks for is looked for too deep.
  pub data ItemExceedsDepth (limit : ℕ) : ℕ → List ℕ → Type 0 where
    deep_choice : {m : ℕ} {u id r : List ℕ} → Ident (skip u) id r → class_of_next (skip r) ≡ is.Colon → ExceedsDepth limit m (tail (skip r)) → ItemExceedsDepth limit m u
    deep_field : {m : ℕ} {u id r : List ℕ} → Ident (skip u) id r → class_of_next (skip r) ≢ is.Colon → (ComesAfterWord (class_of_next (skip r)) → ⊥) → ExceedsDepth limit m r → ItemExceedsDepth limit m u
    deep_value : {m : ℕ} {u : List ℕ} → class_of_next (skip u) ≢ is.Letter → ExceedsDepth limit m (skip u) → ItemExceedsDepth limit m u

  -- After the items before, further items stand, and the next one is too deep.
  pub data ItemsExceedDepth (limit : ℕ) : ℕ → List Item → List ℕ → Type 0 where
    deep_here : {m : ℕ} {before : List Item} {u : List ℕ} → ItemExceedsDepth limit m u → ItemsExceedDepth limit m before u
    deep_after_comma : {m : ℕ} {before : List Item} {u r : List ℕ} {x : Item} → ItemParses limit m u x r → class_of_next (skip r) ≡ is.Comma → ItemsExceedDepth limit m (before ++ (x ∷ [])) (tail (skip r)) → ItemsExceedDepth limit m before u
    deep_after_number : {m : ℕ} {before : List Item} {u r : List ℕ} {x : Item} → ItemParses limit m u x r → AllIntegers (before ++ (x ∷ [])) → BeginsNumber (class_of_next (skip r)) → ItemsExceedDepth limit m (before ++ (x ∷ [])) (skip r)
        → ItemsExceedDepth limit m before u

unfoldable mutual
  -- The highest level at which a value is looked for in the printed text of the tree, which is looked for at the level.
  pub deepest : ℕ → Tree → ℕ
  deepest level (boolean b) = level
  deepest level null = level
  deepest level (integer n) = level
  deepest level (real n) = level
  deepest level (octet_string octets) = level
  deepest level (bit_string octets n) = level
  deepest level (oid []) = level
  deepest level (oid (a ∷ arcs)) = suc level
  deepest level (enumerated id) = level
  deepest level (char_string text) = level
  deepest level (sequence fs) = deepest_field level fs
  deepest level (sequence_of ts) = deepest_item level ts
  deepest level (choice id t) = deepest (suc level) t

  -- The highest level of the fields of braces at the level.
  pub deepest_field : ℕ → Fields → ℕ
  deepest_field level no_fields = level
  deepest_field level (field id t fs) = max (deepest (suc level) t) (deepest_field level fs)
  deepest_field level (absent id fs) = deepest_field level fs

  -- The highest level of the items of braces at the level.
  pub deepest_item : ℕ → Trees → ℕ
  deepest_item level no_trees = level
  deepest_item level (tree t ts) = max (deepest_in level t) (deepest_item level ts)

  -- The highest level of an item of braces at the level: a bare word is not looked for as a value, and a choice's payload is looked for at the level of the items.
  pub deepest_in : ℕ → Tree → ℕ
  deepest_in level (boolean b) = level
  deepest_in level null = level
  deepest_in level (integer n) = suc level
  deepest_in level (real n) = cond (is_real_keyword n) level (suc level)
  deepest_in level (octet_string octets) = suc level
  deepest_in level (bit_string octets n) = suc level
  deepest_in level (oid []) = suc level
  deepest_in level (oid (a ∷ arcs)) = suc (suc level)
  deepest_in level (enumerated id) = level
  deepest_in level (char_string text) = suc level
  deepest_in level (sequence fs) = deepest_field (suc level) fs
  deepest_in level (sequence_of ts) = deepest_item (suc level) ts
  deepest_in level (choice id t) = deepest (suc level) t
