-- A turn of the loop over items, into nodes.
use Rattle.std.proofs.Common.{◌≡◌, ◌≢◌, ℕ, ◌≤◌, List, [], ◌∷◌, ◌++◌, true, false, sym, ap, subst, ◌∙◌, length, arith, append_assoc}
use Rattle.avn_grammar.proofs.DeepParses.{close_comma, number_close, number_comma}
use Rattle.avn_grammar.proofs.Refusals.{Follows, follows, ends, after_comma, after_number}
use Rattle.avn_grammar.specs.declared.chars.CharClass.TheVariants as is
use Rattle.avn_grammar.specs.Chars.{class_of_next, tail, skip, utf8_of}
use Rattle.avn_grammar.specs.Depth.{ItemsExceedDepth, deep_after_comma, deep_after_number}
use Rattle.avn_grammar.specs.Grammar.{BeginsNumber, Item, AreBraceItems, BracesParse, ItemParses, ItemsParse, last_item, comma_item, number_item, word_of}
use Rattle.avn_grammar.specs.Tree.{Tree, choice}
use Rattle.avn_value.proofs.NotDeep.{deep_comma_only, deep_number_only}
use Rattle.avn_value.proofs.Going.{Going}
use Rattle.avn_nodes.proofs.Extending.{Closes, extended-push, closing, over-braces, braces-integer, over-choice}
use Rattle.avn_nodes.proofs.NodeForms.{worded}
use Rattle.avn_value.specs.Gathering.{Holds, MakesKind}
use Rattle.avn_value.specs.ReadNodes.{IsRead}
use Rattle.avn_nodes.specs.Preorder.{preorder, item_preorder, items_preorder}
use Rattle.avn_nodes.specs.NodeLists.{NodeList, extended, with_open}
use Rattle.avn_value.specs.declared.brace_items.BraceItems.{BraceItems}
use Rattle.avn_nodes.specs.declared.node_kind.NodeKind.{NodeKind}
use Rattle.avn_nodes.specs.declared.node_kind.NodeKind.TheVariants as kind

-- A turn of the loop over items, backwards.
only_on : {limit m : ℕ} {start now r next : List ℕ} {before : List Item} {x : Item}
    → ((ys : List Item) (n : List ℕ) → ItemsParse limit m [] start ys n → (xs : List Item) × (ys ≡ before ++ xs) × ItemsParse limit m before now xs n)
    → ItemParses limit m now x r
    → ((xs : List Item) (n : List ℕ) → Follows limit m before x r xs n → (zs : List Item) × (xs ≡ x ∷ zs) × ItemsParse limit m (before ++ (x ∷ [])) next zs n)
    → (ys : List Item) (n : List ℕ) → ItemsParse limit m [] start ys n → (zs : List Item) × (ys ≡ (before ++ (x ∷ [])) ++ zs) × ItemsParse limit m (before ++ (x ∷ [])) next zs n
only_on {before = before} {x = x} f k g ys n d =
    let p = f ys n d in
    let q = g p.0 n (follows k p.2) in
    (q.0, p.1 ∙ ap (λ v. before ++ v) q.1 ∙ sym (append_assoc before (x ∷ []) q.0), q.2)

comma_only : {limit m : ℕ} {before xs : List Item} {x : Item} {r n next : List ℕ} → next ≡ tail (skip r) → class_of_next (skip r) ≡ is.Comma → Follows limit m before x r xs n → (zs : List Item) × (xs ≡ x ∷ zs) × ItemsParse limit m (before ++ (x ∷ [])) next zs n
comma_only e c (ends a b d) = absurd (close_comma _ a c)
comma_only {limit = limit} {m = m} {before = before} {x = x} {n = n} e c (after_comma zs a b d) = (zs, b, subst (λ v. ItemsParse limit m (before ++ (x ∷ [])) v zs n) (sym e) d)
comma_only e c (after_number zs a b d f) = absurd (number_comma _ b c)

number_only : {limit m : ℕ} {before xs : List Item} {x : Item} {r n next : List ℕ} → next ≡ skip r → BeginsNumber (class_of_next (skip r)) → Follows limit m before x r xs n → (zs : List Item) × (xs ≡ x ∷ zs) × ItemsParse limit m (before ++ (x ∷ [])) next zs n
number_only e c (ends a b d) = absurd (number_close _ c a)
number_only e c (after_comma zs a b d) = absurd (number_comma _ c a)
number_only {limit = limit} {m = m} {before = before} {x = x} {n = n} e c (after_number zs a b d f) = (zs, d, subst (λ v. ItemsParse limit m (before ++ (x ∷ [])) v zs n) (sym e) f)

-- A turn of the loop over items.
going_on : {limit m : ℕ} {start now : List ℕ} {before : List Item} (x : Item) (next : List ℕ)
    → ((xs : List Item) (rest : List ℕ) → ItemsParse limit m before now xs rest → ItemsParse limit m [] start (before ++ xs) rest)
    → ((xs : List Item) (rest : List ℕ) → ItemsParse limit m (before ++ (x ∷ [])) next xs rest → ItemsParse limit m before now (x ∷ xs) rest)
    → (xs : List Item) (rest : List ℕ) → ItemsParse limit m (before ++ (x ∷ [])) next xs rest → ItemsParse limit m [] start ((before ++ (x ∷ [])) ++ xs) rest
going_on {limit = limit} {m = m} {start = start} {before = before} x next f g xs rest d =
    subst (λ y. ItemsParse limit m [] start y rest) (sym (append_assoc before (x ∷ []) xs)) (f (x ∷ xs) rest (g xs rest d))

module _ (limit m : ℕ) (start now r : List ℕ) (g h : BraceItems) (opened s then : NodeList) (x : Item) (going : Going limit m start now g opened s) (stands : ItemParses limit m now x r)
    (added : (before : List Item) → Holds g before → Holds h (before ++ (x ∷ []))) (more : then ≡ extended s (item_preorder x)) where
  pub going_comma : (next : List ℕ) → next ≡ tail (skip r) → length next ≤ length now → class_of_next (skip r) ≡ is.Comma → Going limit m start next h opened then
  going_comma next e le c = record {
    before = going.before ++ (x ∷ []);
    holds = added going.before going.holds;
    grew = extended-push opened s then going.before x going.grew more;
    completes = going_on x next going.completes (λ xs rest d. comma_item stands c (subst (λ y. ItemsParse limit m (going.before ++ (x ∷ [])) y xs rest) e d));
    only = only_on going.only stands (λ xs n f. comma_only e c f);
    deeper = λ d. going.deeper (deep_after_comma stands c (subst (λ y. ItemsExceedDepth limit m (going.before ++ (x ∷ [])) y) e d));
    shallower = λ d. deep_comma_only e stands c (going.shallower d);
    shorter = omega (arith, going.shorter);
  }

  pub going_number : (next : List ℕ) → next ≡ skip r → length next ≤ length now → BeginsNumber (class_of_next (skip r)) → h.integers ≡ true → Going limit m start next h opened then
  going_number next e le c i =
      let k = added going.before going.holds in
      record {
        before = going.before ++ (x ∷ []);
        holds = k;
        grew = extended-push opened s then going.before x going.grew more;
        completes = going_on x next going.completes (λ xs rest d. number_item stands (k.integers i) c (subst (λ y. ItemsParse limit m (going.before ++ (x ∷ [])) y xs rest) e d));
        only = only_on going.only stands (λ xs n f. number_only e c f);
        deeper = λ d. going.deeper (deep_after_number stands (k.integers i) c (subst (λ y. ItemsExceedDepth limit m (going.before ++ (x ∷ [])) y) e d));
        shallower = λ d. deep_number_only e stands c (going.shallower d);
        shorter = omega (arith, going.shorter);
      }

  pub unclosed : class_of_next (skip r) ≡ is.CloseBrace → ((xs : List Item) (t : Tree) → Holds h xs → AreBraceItems xs t → ⊥) → (t : Tree) (n : List ℕ) → BracesParse limit m start t n → ⊥
  unclosed c f t n b =
      let p = going.only b.0 n b.1 in
      elim (follows stands p.2) [
        | ends i j k ↦ f (going.before ++ (x ∷ [])) t (added going.before going.holds) (subst (λ v. AreBraceItems v t) (p.1 ∙ ap (λ v. going.before ++ v) j) b.2)
        | after_comma zs i j k ↦ close_comma _ c i
        | after_number zs i j k l ↦ number_close _ j c
      ]

  pub not_going : class_of_next (skip r) ≢ is.CloseBrace → class_of_next (skip r) ≢ is.Comma → (BeginsNumber (class_of_next (skip r)) → h.integers ≢ true) → (t : Tree) (n : List ℕ) → BracesParse limit m start t n → ⊥
  not_going c d f t n b =
      let p = going.only b.0 n b.1 in
      elim (follows stands p.2) [
        | ends i j k ↦ c i
        | after_comma zs i j k ↦ d i
        | after_number zs i j k l ↦ f j ((added going.before going.holds).only_integers i)
      ]

  pub closed : (old last : NodeList) (k : NodeKind) (place : ℕ) (n : List ℕ) → opened ≡ with_open kind.SequenceOf old → place ≡ length old.nodes → n ≡ tail (skip r) → class_of_next (skip r) ≡ is.CloseBrace
      → ((xs : List Item) → Holds h xs → MakesKind xs k) → Closes then last place k → IsRead (λ t. BracesParse limit m start t n) old last false
  closed old last k place n o p e c f l =
      let xs = going.before ++ (x ∷ []) in
      let made = f xs (added going.before going.holds) in
      let grew = extended-push opened s then going.before x going.grew more ∙ ap (λ y. extended y (items_preorder xs)) o in (
        made.0,
        (xs, subst (λ y. ItemsParse limit m [] start xs y) (sym e) (going.completes (x ∷ []) (tail (skip r)) (last_item stands c)), made.1),
        sym (braces-integer xs made.0 made.1),
        closing old then last kind.SequenceOf k made.0 (items_preorder xs) place p grew (over-braces xs made.0 k made.1 made.2) l,
      )

-- A choice whose payload was read.
pub choice_closed : (s s1 s2 s3 s4 : NodeList) (id : List ℕ) (p : Tree) (place : ℕ) → s1 ≡ worded s (utf8_of id) → place ≡ length s1.nodes → s2 ≡ with_open kind.Choice s1 → s3 ≡ extended s2 (preorder s2.name p) → Closes s3 s4 place kind.Choice
    → s4 ≡ extended s (preorder s.name (choice (utf8_of id) p))
choice_closed s s1 s2 s3 s4 id p place e f g h l =
    let grew : s3 ≡ extended (with_open kind.Choice s1) (preorder (utf8_of id) p) = h ∙ ap (λ (y : NodeList). extended y (preorder y.name p)) g ∙ ap (λ w. extended (with_open kind.Choice s1) (preorder w p)) (ap (λ (y : NodeList). y.word) e) in
    closing s1 s3 s4 kind.Choice kind.Choice (choice (utf8_of id) p) (preorder (utf8_of id) p) place f grew (over-choice (utf8_of id) p) l
    ∙ ap (λ (y : NodeList). extended y (preorder y.name (choice (utf8_of id) p))) e

pub word_closed : (s s1 s2 : NodeList) (id : List ℕ) → s1 ≡ worded s (utf8_of id) → s2 ≡ extended s1 (preorder s1.name (word_of s1.word)) → s2 ≡ extended s (preorder s.name (word_of (utf8_of id)))
word_closed s s1 s2 id e f = f ∙ ap (λ (y : NodeList). extended y (preorder y.name (word_of y.word))) e

pub field_closed : (s s1 s2 s3 : NodeList) (id : List ℕ) (p : Tree) → s1 ≡ worded s (utf8_of id) → s2 ≡ record s1 { name = s1.word; word = [] } → s3 ≡ extended s2 (preorder s2.name p) → s3 ≡ extended s (preorder (utf8_of id) p)
field_closed s s1 s2 s3 id p e f g = g ∙ ap (λ (y : NodeList). extended y (preorder y.name p)) (f ∙ ap (λ (y : NodeList). record y { name = y.word; word = [] }) e)
