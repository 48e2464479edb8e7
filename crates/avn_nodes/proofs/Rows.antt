-- Printed text, a piece at a time.
use Rattle.std.proofs.Common.{Result, Ok, ◌≡◌, ℕ, zero, suc, ◌+◌, ◌<◌, List, [], ◌∷◌, ◌++◌, refl, sym, ap, ◌∙◌, append_assoc, take, get_or, length, rules, arith}
use Rattle.std.proofs.Common.{Option, Some, None, String, string_bytes, true, false}
use Rattle.std.specs.Prelude.{codes, map, option_map, IsOk, is_ok}
use Rattle.std.specs.Borrow.{Bor}
use Rattle.std.proofs.lemmas.Bool.{cond-true, cond-false}
use Rattle.std.proofs.lemmas.List.{take_more, append-nil}
use Rattle.avn_grammar.specs.Tree.{Tree, Trees, Fields, sequence, sequence_of, choice, no_trees, tree, no_fields, field, absent}
use Rattle.avn_grammar.specs.Print.{print, print_rows, print_fields, has_fields, separator, indent}
use Rattle.avn_nodes.proofs.JoinedFields.{join, seen, fields-next}
use Rattle.avn_nodes.proofs.Walks.{chained, chained-none, chained-push, entry}
use Rattle.avn_nodes.specs.Levels.{depth_of, closing_of}
use Rattle.avn_nodes.specs.TreeLists.{trees_in, fields_in}
use Rattle.avn_nodes.specs.declared.print_parts.Levels.{Levels, Root, Under, the_lemmas}

-- How many trees there are.
abbrev pub count_of : Trees → ℕ
count_of no_trees = 0
count_of (tree t ts) = suc (count_of ts)

-- How many fields are present.
abbrev pub present : Fields → ℕ
present no_fields = 0
present (field id t fs) = suc (present fs)
present (absent id fs) = present fs

pub was_ok : {E : Type 0} (r : Result (Unit {0}) E) (x : Unit {0}) → r ≡ Ok x → IsOk r
was_ok r x e = ap is_ok e

pub depth-Under : (up : Bor Levels) → depth_of (Under up) ≡ suc (depth_of up.now)
depth-Under up = search (rules, the_lemmas)

pub depth-Root : depth_of Root ≡ 0
depth-Root = search (rules, the_lemmas)

pub print-choice : (d : ℕ) (id : List ℕ) (t : Tree) → id ++ (codes " : " ++ print d t) ≡ print d (choice id t)
unfolding print
print-choice d id t = sym (append_assoc id (codes " : ") (print d t))

pub print-list : (d n : ℕ) (ts : Trees) → count_of ts ≡ n → (123 ∷ []) ++ (print_rows (suc d) 0 ts ++ closing_of d n) ≡ print d (sequence_of ts)
unfolding print
print-list d zero no_trees e = refl
print-list d (suc n) no_trees e = absurd (omega (arith, e))
print-list d zero (tree t ts) e = absurd (omega (arith, e))
print-list d (suc n) (tree t ts) e = simp append_assoc

pub no-rows : (d : ℕ) → [] ≡ print_rows d 0 no_trees
unfolding print
no-rows d = refl

pub no-field_rows : (d : ℕ) → [] ≡ print_fields d 0 no_fields
unfolding print
no-field_rows d = refl

-- The rows of a list with a value more.
rows-push : (d i : ℕ) (ts : Trees) (t : Tree) → print_rows d i (chained ts (tree t no_trees)) ≡ print_rows d i ts ++ ((separator (i + count_of ts) ++ indent d) ++ print d t)
unfolding print
rows-push d i no_trees t = let e : i ≡ i + 0 = omega arith in append-nil _ ∙ ap (λ k. (separator k ++ indent d) ++ print d t) e
rows-push d i (tree u ts) t =
    let e : suc i + count_of ts ≡ i + suc (count_of ts) = omega arith in
    ap (λ v. (separator i ++ indent d ++ print d u) ++ v) (rows-push d (suc i) ts t ∙ ap (λ k. print_rows d (suc i) ts ++ ((separator k ++ indent d) ++ print d t)) e)
    ∙ sym (append_assoc (separator i ++ indent d ++ print d u) (print_rows d (suc i) ts) ((separator (i + suc (count_of ts)) ++ indent d) ++ print d t))

pub rows-more : (d : ℕ) (ts : Trees) (t : Tree) → print_rows d 0 ts ++ ((separator (count_of ts) ++ indent d) ++ print d t) ≡ print_rows d 0 (chained ts (tree t no_trees))
rows-more d ts t = let e : count_of ts ≡ 0 + count_of ts = omega arith in ap (λ k. print_rows d 0 ts ++ ((separator k ++ indent d) ++ print d t)) e ∙ sym (rows-push d 0 ts t)

pub count-more : (ts : Trees) (t : Tree) → count_of (chained ts (tree t no_trees)) ≡ count_of ts + 1
count-more no_trees t = refl
count-more (tree u ts) t = omega (arith, count-more ts t)

-- The row of a field, after so many others.
abbrev pub field_row : ℕ → ℕ → List ℕ → Option Tree → List ℕ
field_row d i id (Some t) = (separator i ++ indent d ++ id ++ codes " ") ++ print d t
field_row d i id None = []

-- The rows of fields with a field more.
fields-push : (d i : ℕ) (fs : Fields) (id : List ℕ) (slot : Option Tree) → print_fields d i (join fs (entry id slot no_fields)) ≡ print_fields d i fs ++ field_row d (i + present fs) id slot
unfolding print
fields-push d i no_fields id (Some t) = let e : i ≡ i + 0 = omega arith in append-nil _ ∙ ap (λ k. field_row d k id (Some t)) e
fields-push d i no_fields id None = refl
fields-push d i (field n u fs) id slot =
    let e : suc i + present fs ≡ i + suc (present fs) = omega arith in
    ap (λ v. (separator i ++ indent d ++ n ++ codes " " ++ print d u) ++ v) (fields-push d (suc i) fs id slot ∙ ap (λ k. print_fields d (suc i) fs ++ field_row d k id slot) e)
    ∙ sym (append_assoc (separator i ++ indent d ++ n ++ codes " " ++ print d u) (print_fields d (suc i) fs) (field_row d (i + suc (present fs)) id slot))
fields-push d i (absent n fs) id slot = fields-push d i fs id slot

pub fields-more : (d : ℕ) (fs : Fields) (id : List ℕ) (slot : Option Tree) → print_fields d 0 fs ++ field_row d (present fs) id slot ≡ print_fields d 0 (join fs (entry id slot no_fields))
fields-more d fs id slot = let e : present fs ≡ 0 + present fs = omega arith in ap (λ k. print_fields d 0 fs ++ field_row d k id slot) e ∙ sym (fields-push d 0 fs id slot)

pub present-more : (fs : Fields) (id : List ℕ) (slot : Option Tree) → present (join fs (entry id slot no_fields)) ≡ present fs + present (entry id slot no_fields)
present-more no_fields id slot = omega arith
present-more (field n u fs) id slot = omega (arith, present-more fs id slot)
present-more (absent n fs) id slot = present-more fs id slot

has-present : (fs : Fields) (n : ℕ) → present fs ≡ n → (n ≡ 0 → has_fields fs ≡ false) × (0 < n → has_fields fs ≡ true)
has-present no_fields n e = ((λ h. refl), (λ h. absurd (omega (arith, e, h))))
has-present (field id t fs) n e = ((λ h. absurd (omega (arith, e, h))), (λ h. refl))
has-present (absent id fs) n e = has-present fs n e

none-present : (d : ℕ) (fs : Fields) → present fs ≡ 0 → print_fields d 0 fs ≡ []
unfolding print
none-present d no_fields e = refl
none-present d (field id t fs) e = absurd (omega (arith, e))
none-present d (absent id fs) e = none-present d fs e

pub print-fields : (d n : ℕ) (fs : Fields) → present fs ≡ n → (123 ∷ []) ++ (print_fields (suc d) 0 fs ++ closing_of d n) ≡ print d (sequence fs)
unfolding print
print-fields d zero fs e =
    ap (λ x. 123 ∷ (x ++ (125 ∷ []))) (none-present (suc d) fs e) ∙ sym (cond-false (has_fields fs) ((123 ∷ []) ++ print_fields (suc d) 0 fs ++ (10 ∷ []) ++ indent d ++ (125 ∷ [])) (codes "{}") ((has-present fs 0 e).0 refl))
print-fields d (suc n) fs e =
    let p = print_fields (suc d) 0 fs in
    ap (λ x. 123 ∷ x) (sym (append_assoc (p ++ (10 ∷ [])) (indent d) (125 ∷ []) ∙ append_assoc p (10 ∷ []) (indent d ++ (125 ∷ []))))
    ∙ sym (cond-true (has_fields fs) ((123 ∷ []) ++ print_fields (suc d) 0 fs ++ (10 ∷ []) ++ indent d ++ (125 ∷ [])) (codes "{}") ((has-present fs (suc n) e).1 (omega arith)))

-- The first values of a list, with the next one.
pub trees-next : {A : Type 0} (see : A → Tree) (xs : List A) (i : ℕ) (x : A) → i < length xs → trees_in (map see (take (i + 1) xs)) ≡ chained (trees_in (map see (take i xs))) (tree (see (get_or xs i x)) no_trees)
trees-next see xs i x h =
    ap (λ v. trees_in (map see v)) (take_more xs i x h) ∙ sym (chained-none (trees_in (map see (take i xs ++ (get_or xs i x ∷ []))))) ∙ chained-push see (take i xs) (get_or xs i x) no_trees

pub count-trees : {A : Type 0} (see : A → Tree) (xs : List A) → count_of (trees_in (map see xs)) ≡ length xs
count-trees see [] = refl
count-trees see (x ∷ xs) = omega (arith, count-trees see xs)

entry-seen : {S A : Type 0} (see : A → Tree) (name : String S) (o : Option A) → entry (string_bytes name) (option_map see o) no_fields ≡ seen see ((name, o) ∷ [])
entry-seen see name (Some v) = refl
entry-seen see name None = refl

-- The first fields of a sequence, with the next one.
pub field-next : {S A : Type 0} (see : A → Tree) (xs : List (String S × Option A)) (i : ℕ) (x : String S × Option A) (o : Option A) → i < length xs → x ≡ get_or xs i x → x.1 ≡ o
    → join (fields_in (map (λ f. (f.0, option_map see f.1)) (take i xs))) (entry (string_bytes (x.0)) (option_map see o) no_fields) ≡ fields_in (map (λ f. (f.0, option_map see f.1)) (take (i + 1) xs))
field-next see xs i (name, s) o l e a = ap (λ s. join (seen see (take i xs)) (entry (string_bytes name) (option_map see s) no_fields)) (sym a) ∙ ap (join (seen see (take i xs))) (entry-seen see name s) ∙ fields-next see xs i (name, s) l e
