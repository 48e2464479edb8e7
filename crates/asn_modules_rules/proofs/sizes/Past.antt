-- What is left after one size after another.
use Rattle.std.proofs.Common.{◌≡◌, ◌≤◌, ◌<◌, ◌+◌, ◌-◌, ℕ, List, [], ◌∷◌, map, drop, get_or, length, if◌then◌else◌, Option, Some, None, inl, inr, ◌⊎◌, refl, sym, ap, ◌∙◌, arith}
use Rattle.std.proofs.lemmas.Bool.{le-leb, lt-leb}
use Rattle.std.proofs.lemmas.Bool.Decides.{leb_tells}
use Rattle.std.proofs.lemmas.List.{drop_all}
use Rattle.std.proofs.lemmas.List.Sums.{sum_by-append, sum_by-cons, sum_by-drop_more}
use Rattle.std.specs.Global.{Vec}
use Rattle.std.specs.List.{sum_by}
use Rattle.std.specs.Option.{option_and_then}
use Rattle.asn_modules_grammar.specs.notation.View.{items_view}
use Rattle.asn_modules_grammar.specs.declared.notation.number.Item.{Item}
use Rattle.asn_modules_rules.specs.sizes.Sizes.{entry_size, item_size, items_size, past}

fits : (left size : ℕ) → size ≤ left → past left size ≡ Some (left - size)
fits left size h = ap (λ b. if b then Some (left - size) else None) (le-leb size left h)

many : (left size : ℕ) → left < size → past left size ≡ None
many left size h = ap (λ b. if b then Some (left - size) else None) (lt-leb size left h)

pub past_nothing : (left : ℕ) → past left 0 ≡ Some left
past_nothing left = fits left 0 (omega arith) ∙ ap Some (omega arith)

both_fit : (left a b : ℕ) → a ≤ left → (b ≤ left - a) ⊎ (left - a < b) → past left (a + b) ≡ past (left - a) b
both_fit left a b f (inl g) = fits left (a + b) (omega (arith, f, g)) ∙ ap Some (omega arith) ∙ sym (fits (left - a) b g)
both_fit left a b f (inr g) = many left (a + b) (omega (arith, f, g)) ∙ sym (many (left - a) b g)

-- One size, or there aren't as many.
told : (b size : ℕ) → (b ≤ size) ⊎ (size < b)
told b size = elim (leb_tells b size) [ inl p ↦ inl p.1 | inr p ↦ inr p.1 ]

both_by : (left a b : ℕ) → (a ≤ left) ⊎ (left < a) → past left (a + b) ≡ option_and_then (λ l. past l b) (past left a)
both_by left a b (inl f) = both_fit left a b f (told b (left - a)) ∙ ap (option_and_then (λ l. past l b)) (sym (fits left a f))
both_by left a b (inr f) = many left (a + b) (omega (arith, f)) ∙ ap (option_and_then (λ l. past l b)) (sym (many left a f))

-- After both is what the second leaves of what the first leaves.
pub past_both : (left a b : ℕ) → past left (a + b) ≡ option_and_then (λ l. past l b) (past left a)
past_both left a b = both_by left a b (told a left)

module _ {A : Type 0} (size : A → ℕ) where
  -- What these leave.
  abbrev pub past_all : List A → ℕ → Option ℕ
  past_all xs left = past left (sum_by size xs)

  past_step : (xs : List A) (i : ℕ) (x : A) (left : ℕ) → i < length xs → x ≡ get_or xs i x → past_all (drop i xs) left ≡ option_and_then (past_all (drop (i + 1) xs)) (past left (size x))
  past_step xs i x left h e =
      ap (past left) (sum_by-drop_more size xs i x h ∙ ap (λ y. size y + sum_by size (drop (i + 1) xs)) (sym e))
      ∙ past_both left (size x) (sum_by size (drop (i + 1) xs))

  -- One more.
  pub past_more : (all : Option ℕ) (xs : List A) (i : ℕ) (x : A) (left rest : ℕ) → i < length xs → x ≡ get_or xs i x → all ≡ past_all (drop i xs) left → Some rest ≡ past left (size x) → all ≡ past_all (drop (i + 1) xs) rest
  past_more all xs i x left rest h e was is = was ∙ past_step xs i x left h e ∙ ap (option_and_then (past_all (drop (i + 1) xs))) (sym is)

  pub past_none : (all : Option ℕ) (xs : List A) (i : ℕ) (x : A) (left : ℕ) → i < length xs → x ≡ get_or xs i x → all ≡ past_all (drop i xs) left → None ≡ past left (size x) → None ≡ all
  past_none all xs i x left h e was is = sym (was ∙ past_step xs i x left h e ∙ ap (option_and_then (past_all (drop (i + 1) xs))) (sym is))

  pub past_end : (all : Option ℕ) (xs : List A) (i left : ℕ) → length xs ≤ i → all ≡ past_all (drop i xs) left → Some left ≡ all
  past_end all xs i left h was = sym (was ∙ ap (λ l. past_all l left) (drop_all i xs h) ∙ past_nothing left)

-- Items without a marker.
pub items_all : (is : List Item) → items_size (map (λ i. Some i) is) ≡ sum_by (λ i. entry_size i.name) is
items_all [] = refl
items_all (i ∷ is) =
    sum_by-cons item_size (Some i) (map (λ i. Some i) is) ∙ ap (λ n. entry_size i.name + n) (items_all is) ∙ sym (sum_by-cons (λ i. entry_size i.name) i is)

-- Items after a marker, if there is one.
abbrev pub added_size : Option (Vec Item) → ℕ
added_size None = 0
added_size (Some added) = sum_by (λ i. entry_size i.name) added.items

marked : (is : List Item) → items_size (None ∷ map (λ i. Some i) is) ≡ sum_by (λ i. entry_size i.name) is
marked is = sum_by-cons item_size None (map (λ i. Some i) is) ∙ omega arith ∙ items_all is

split : (items : Vec Item) (added : Option (Vec Item)) → items_size (items_view items added) ≡ sum_by (λ i. entry_size i.name) items.items + added_size added
split items None = items_all items.items ∙ omega arith
split items (Some added) =
    sum_by-append item_size (map (λ i. Some i) items.items) (None ∷ map (λ i. Some i) added.items)
    ∙ ap (λ n. items_size (map (λ i. Some i) items.items) + n) (marked added.items) ∙ ap (λ n. n + added_size (Some added)) (items_all items.items)

-- Items before the marker, and those after it.
past_parts : (items : Vec Item) (added : Option (Vec Item)) (left : ℕ) → past left (items_size (items_view items added)) ≡ option_and_then (λ l. past l (added_size added)) (past_all (λ i. entry_size i.name) items.items left)
past_parts items added left = ap (past left) (split items added) ∙ past_both left (sum_by (λ i. entry_size i.name) items.items) (added_size added)

-- The parts, by what the items before the marker leave.
pub past_seen : (items : Vec Item) (added : Option (Vec Item)) (left : ℕ) (front : Option ℕ) → front ≡ past_all (λ i. entry_size i.name) items.items left → option_and_then (λ l. past l (added_size added)) front ≡ past left (items_size (items_view items added))
past_seen items added left front e = ap (option_and_then (λ l. past l (added_size added))) e ∙ sym (past_parts items added left)
