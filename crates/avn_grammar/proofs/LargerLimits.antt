-- What is read within a limit is read within a larger one.
use Rattle.std.proofs.Common.{ℕ, ◌≤◌, List, arith}
use Rattle.avn_grammar.specs.Tree.{Tree}
use Rattle.avn_grammar.specs.Grammar.{Item, Parses, token, bare_word, choose, empty_braces, fields_in_braces, list_in_braces, ItemParses, choice_item, word_item, field_item, value_item, ItemsParse, last_item, comma_item, number_item}

module _ (limit larger : ℕ) (more : limit ≤ larger) where
  within : {level : ℕ} → level ≤ limit → level ≤ larger
  within h = omega (arith, h, more)

  mutual
    pub parses_more : {level : ℕ} {u rest : List ℕ} {t : Tree} → Parses limit level u t rest → Parses larger level u t rest
    parses_more (token l d) = token (within l) d
    parses_more (bare_word l i n) = bare_word (within l) i n
    parses_more (choose l i c p) = choose (within l) i c (parses_more p)
    parses_more (empty_braces l o c) = empty_braces (within l) o c
    parses_more (fields_in_braces l o n xs a) = fields_in_braces (within l) o n (items_parse_more xs) a
    parses_more (list_in_braces l o n xs a) = list_in_braces (within l) o n (items_parse_more xs) a

    item_parses_more : {m : ℕ} {u rest : List ℕ} {x : Item} → ItemParses limit m u x rest → ItemParses larger m u x rest
    item_parses_more (choice_item i c p) = choice_item i c (parses_more p)
    item_parses_more (word_item i a) = word_item i a
    item_parses_more (field_item i c a p) = field_item i c a (parses_more p)
    item_parses_more (value_item n p) = value_item n (parses_more p)

    items_parse_more : {m : ℕ} {before xs : List Item} {u rest : List ℕ} → ItemsParse limit m before u xs rest → ItemsParse larger m before u xs rest
    items_parse_more (last_item i c) = last_item (item_parses_more i) c
    items_parse_more (comma_item i c xs) = comma_item (item_parses_more i) c (items_parse_more xs)
    items_parse_more (number_item i a b xs) = number_item (item_parses_more i) a b (items_parse_more xs)
