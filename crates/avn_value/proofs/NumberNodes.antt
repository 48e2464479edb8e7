-- Numbers that were read into nodes.
use Rattle.std.proofs.Common.{◌≡◌, ℕ, ◌<◌, List, [], ◌∷◌, ◌++◌, Bool, true, false, cond, length, sym, ap, ◌∙◌, subst, Result, Ok, Err, IfOk, OnOk}
use Rattle.avn_grammar.specs.declared.chars.CharClass.TheVariants as is
use Rattle.avn_grammar.specs.Tree.{integer, real}
use Rattle.avn_grammar.specs.Chars.{class_of_next, tail, take_while, skip_while, is_digit, has_fraction, utf8_of}
use Rattle.avn_grammar.specs.Grammar.{Token, number_token, negative_token, number_tree, past_number, is_integer}
use Rattle.avn_cursor.proofs.Steps.{token-shorter}
use Rattle.avn_nodes.proofs.NodeForms.{worded}
use Rattle.avn_nodes.proofs.Extending.{extended-integer, extended-real}
use Rattle.avn_value.specs.ReadNodes.{IsRead}
use Rattle.avn_nodes.specs.Preorder.{preorder}
use Rattle.avn_nodes.specs.NodeLists.{NodeList, extended, with_leaf}
use Rattle.avn_nodes.specs.declared.node_kind.NodeKind.TheVariants as kind

pub integer_grown : (s s1 s2 : NodeList) (w : List ℕ) → s1 ≡ worded s (s.word ++ utf8_of (take_while is_digit w)) → s2 ≡ with_leaf kind.Integer s1 → has_fraction (skip_while is_digit w) ≡ false → s2 ≡ extended s (preorder s.name (number_tree s.word w))
integer_grown s s1 s2 w e f h =
    f ∙ ap (with_leaf kind.Integer) e ∙ extended-integer (worded s (s.word ++ utf8_of (take_while is_digit w)))
    ∙ ap (λ b. extended s (preorder s.name (cond b (real (s.word ++ utf8_of (take_while is_digit w) ++ (46 ∷ []) ++ utf8_of (take_while is_digit (tail (skip_while is_digit w))))) (integer (s.word ++ utf8_of (take_while is_digit w)))))) (sym h)

pub real_grown : (s s1 s2 s3 s4 : NodeList) (w p v : List ℕ) → s1 ≡ worded s (s.word ++ utf8_of (take_while is_digit w)) → s2 ≡ worded s1 (s1.word ++ p) → p ≡ 46 ∷ [] → s3 ≡ worded s2 (s2.word ++ utf8_of (take_while is_digit v)) → v ≡ tail (skip_while is_digit w) → s4 ≡ with_leaf kind.Real s3
    → has_fraction (skip_while is_digit w) ≡ true → s4 ≡ extended s (preorder s.name (number_tree s.word w))
real_grown s s1 s2 s3 s4 w p v e f g h k l i =
    let a = s.word ++ utf8_of (take_while is_digit w) in
    let e2 : s2 ≡ worded s (a ++ (46 ∷ [])) = f ∙ ap (λ x. worded s1 (s1.word ++ x)) g ∙ ap (λ (x : NodeList). worded x (x.word ++ (46 ∷ []))) e in
    let e3 : s3 ≡ worded s (a ++ (46 ∷ []) ++ utf8_of (take_while is_digit (tail (skip_while is_digit w)))) =
    h ∙ ap (λ (x : NodeList). worded x (x.word ++ utf8_of (take_while is_digit v))) e2 ∙ ap (λ x. worded s (a ++ (46 ∷ []) ++ utf8_of (take_while is_digit x))) k in
    l ∙ ap (with_leaf kind.Real) e3 ∙ extended-real (worded s (a ++ (46 ∷ []) ++ utf8_of (take_while is_digit (tail (skip_while is_digit w)))))
    ∙ ap (λ b. extended s (preorder s.name (cond b (real (a ++ (46 ∷ []) ++ utf8_of (take_while is_digit (tail (skip_while is_digit w))))) (integer a)))) (sym i)

module _ {E : Type 0} (w n v sign : List ℕ) (s s1 s2 : NodeList) where
  number_read : (r : Result Bool E) → s1 ≡ worded s sign → (class_of_next v ≡ is.Digit → n ≡ past_number v → Token w (number_tree sign v) n) → OnOk r (class_of_next v ≡ is.Digit) → OnOk r (n ≡ past_number v)
      → IfOk r (λ i. i ≡ is_integer (number_tree s1.word v)) → OnOk r (s2 ≡ extended s1 (preorder s1.name (number_tree s1.word v))) → IfOk r (IsRead (λ t. Token w t n) s s2)
  number_read (Err x) e f a b c d = tt
  number_read (Ok i) e f a b c d =
      (number_tree sign v, f a b, c ∙ ap (λ (x : NodeList). is_integer (number_tree x.word v)) e, d ∙ ap (λ (x : NodeList). extended x (preorder x.name (number_tree x.word v))) e)

pub plain_read : {E : Type 0} (w n v : List ℕ) (s s2 : NodeList) (r : Result Bool E) → s.word ≡ [] → v ≡ w → OnOk r (class_of_next v ≡ is.Digit) → OnOk r (n ≡ past_number v)
    → IfOk r (λ i. i ≡ is_integer (number_tree s.word v)) → OnOk r (s2 ≡ extended s (preorder s.name (number_tree s.word v))) → IfOk r (IsRead (λ t. Token w t n) s s2)
plain_read w n v s s2 r e at a b c d =
    number_read w n v [] s s s2 r (ap (worded s) e) (λ l m. subst (λ x. Token w (number_tree [] v) x) (sym m) (subst (λ x. Token x (number_tree [] v) (past_number v)) at (number_token l))) a b c d

pub signed_read : {E : Type 0} (w n v p : List ℕ) (s s1 s2 : NodeList) (r : Result Bool E) → s.word ≡ [] → s1 ≡ worded s (s.word ++ p) → p ≡ 45 ∷ [] → class_of_next w ≡ is.Minus → v ≡ tail w → OnOk r (class_of_next v ≡ is.Digit) → OnOk r (n ≡ past_number v)
    → IfOk r (λ i. i ≡ is_integer (number_tree s1.word v)) → OnOk r (s2 ≡ extended s1 (preorder s1.name (number_tree s1.word v))) → IfOk r (IsRead (λ t. Token w t n) s s2)
signed_read w n v p s s1 s2 r e f g m at a b c d =
    number_read w n v (45 ∷ []) s s1 s2 r (f ∙ ap (λ x. worded s (x ++ p)) e ∙ ap (worded s) g)
    (λ l k. subst (λ x. Token w (number_tree (45 ∷ []) x) n) (sym at) (subst (λ x. Token w (number_tree (45 ∷ []) (tail w)) x) (sym (k ∙ ap past_number at)) (negative_token m (ap class_of_next (sym at) ∙ l)))) a b c d

pub shorter_read : {E : Type 0} (w n : List ℕ) (s s2 : NodeList) (r : Result Bool E) → IfOk r (IsRead (λ t. Token w t n) s s2) → OnOk r (length n < length w)
shorter_read w n s s2 (Err e) k = tt
shorter_read w n s s2 (Ok i) k = token-shorter k.1
