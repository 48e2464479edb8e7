-- Imports that were read so far, and what is said of all of them.
use Rattle.std.proofs.Common.{◌≡◌, ◌≤◌, ◌<◌, ℕ, suc, List, [], ◌∷◌, ◌++◌, map, Bool, true, false, not, ◌&&◌, ◌||◌, drop, length, length-drop, if◌then◌else◌, Option, Some, None, refl, sym, ap, subst, ◌∙◌, arith}
use Rattle.std.specs.Prelude.{IfSome}
use Rattle.std.proofs.lemmas.List.{map-append}
use Rattle.std.specs.Option.{option_map, option_and_then}
use Rattle.asn_lexer.specs.declared.token.Token.{Token}
use Rattle.asn_modules_grammar.specs.headers.Fronts.{first_is, is_name}
use Rattle.asn_modules_grammar.specs.headers.Groups.{opens, closes, past_groups, past_optional_braces}
use Rattle.asn_modules_grammar.specs.headers.Headers.{names_at, names_from, names_past, names_behind, past_identifier, past_selection, follows_imported, from_at, names_from_module, import_at, ImportsReach, reaches_here, reaches_next, ImportsParse, no_imports, imports_parse}
use Rattle.asn_modules_grammar.specs.headers.Marks.{is_mark}
use Rattle.asn_modules_grammar.specs.headers.Views.{import_view}
use Rattle.asn_modules_grammar.specs.declared.headers.group.Group.{Group}
use Rattle.asn_modules_grammar.specs.declared.headers.group.Group.TheVariants.{Braces, Parens}
use Rattle.asn_modules_grammar.specs.declared.headers.import.Import.{Import}
use Rattle.asn_modules_grammar.specs.declared.headers.mark.Mark.TheVariants as mark

-- What holds of both holds of the choice.
chosen : {A : Type 0} (P : A → Type 0) (b : Bool) (x y : A) → P x → P y → P (if b then x else y)
chosen P true x y p q = p
chosen P false x y p q = q

abbrev pub AtMost : ℕ → Option (List Token) → Type 0
AtMost n o = IfSome o (λ v. length v ≤ n)

abbrev pub Below : {A : Type 0} → ℕ → Option (A × List Token) → Type 0
Below n o = IfSome o (λ p. length p.1 < n)

more : (n : ℕ) (o : Option (List Token)) → AtMost n o → AtMost (suc n) o
more n None h = tt
more n (Some v) h = omega (arith, h)

groups_le : (gs : List Group) (u : List Token) → AtMost (length u) (past_groups gs u)
groups_le [] u = omega arith
groups_le (g ∷ gs) [] = tt
groups_le (g ∷ gs) (t ∷ u) =
    let P : Option (List Token) → Type 0 = AtMost (suc (length u)) in
    chosen P (opens Braces t.kind) _ _ (more _ (past_groups (Braces ∷ g ∷ gs) u) (groups_le (Braces ∷ g ∷ gs) u))
    (chosen P (opens Parens t.kind) _ _ (more _ (past_groups (Parens ∷ g ∷ gs) u) (groups_le (Parens ∷ g ∷ gs) u))
    (chosen P (closes g t.kind) _ _ (more _ (past_groups gs u) (groups_le gs u))
    (chosen P (closes Braces t.kind || closes Parens t.kind) _ _ tt (more _ (past_groups (g ∷ gs) u) (groups_le (g ∷ gs) u)))))

pub optional_le : (u : List Token) → AtMost (length u) (past_optional_braces u)
optional_le [] = omega arith
optional_le (t ∷ u) = chosen (AtMost (suc (length u))) (opens Braces t.kind) _ _ (more _ (past_groups (Braces ∷ []) u) (groups_le (Braces ∷ []) u)) (omega arith)

-- None are added after an identifier, or after WITH.
wider : (n m : ℕ) (o : Option (List Token)) → n ≤ m → AtMost n o → AtMost m o
wider n m None l h = tt
wider n m (Some v) l h = omega (arith, l, h)

identifier_le : (u : List Token) → AtMost (length u) (past_identifier u)
identifier_le u =
    chosen (AtMost (length u)) (first_is is_name u && not (first_is follows_imported (drop 1 u))) (Some (drop 1 u)) (past_optional_braces u)
    (omega (arith, length-drop 1 u)) (optional_le u)

selection_le : (u : List Token) → AtMost (length u) (past_selection u)
selection_le u =
    let P : Option (List Token) → Type 0 = AtMost (length u) in
    chosen P (first_is (is_mark mark.With) u) _ (Some u)
    (chosen P (first_is (is_mark mark.Successors) (drop 1 u) || first_is (is_mark mark.Descendants) (drop 1 u)) (Some (drop 1 (drop 1 u))) None
    (omega (arith, length-drop 1 u, length-drop 1 (drop 1 u))) tt)
    (omega arith)

selected_le : (n : ℕ) (o : Option (List Token)) → AtMost n o → AtMost n (option_and_then past_selection o)
selected_le n None h = tt
selected_le n (Some v) h = wider (length v) n (past_selection v) h (selection_le v)

mapped : {A B : Type 0} (n m : ℕ) (f : A → B) (o : Option (A × List Token)) → n ≤ m → Below n o → Below m (option_map (λ p. (f p.0, p.1)) o)
mapped n m f None l h = tt
mapped n m f (Some p) l h = omega (arith, l, h)

-- A wider bound holds too.
below_more : {A : Type 0} (n : ℕ) (o : Option (A × List Token)) → Below n o → Below (suc (suc n)) o
below_more n None h = tt
below_more n (Some p) h = omega (arith, h)

mutual
  pub names_lt : (u : List Token) → Below (length u) (names_at u)
  names_lt [] = tt
  names_lt (t ∷ u) = chosen (Below (suc (length u))) (is_name t.kind) _ None (from_le t u) tt

  from_le : (t : Token) (u : List Token) → Below (suc (length u)) (names_from t u)
  from_le t [] = omega arith
  from_le t (c ∷ u) =
      let P : Option (List Token × List Token) → Type 0 = Below (suc (suc (length u))) in
      chosen P (opens Braces c.kind) _ _ (past_le t u) (chosen P (is_mark mark.Comma c.kind) _ (Some (t ∷ [], c ∷ u)) (mapped (length u) _ (λ ns. t ∷ ns) (names_at u) (omega arith) (names_lt u)) (omega arith))

  past_le : (t : Token) (u : List Token) → Below (suc (suc (length u))) (names_past t u)
  past_le t [] = tt
  past_le t (c ∷ u) = chosen (Below (suc (suc (suc (length u))))) (closes Braces c.kind) _ None (below_more _ (names_behind t u) (behind_le t u)) tt

  behind_le : (t : Token) (u : List Token) → Below (suc (length u)) (names_behind t u)
  behind_le t [] = omega arith
  behind_le t (c ∷ u) = chosen (Below (suc (suc (length u)))) (is_mark mark.Comma c.kind) _ (Some (t ∷ [], c ∷ u)) (mapped (length u) _ (λ ns. t ∷ ns) (names_at u) (omega arith) (names_lt u)) (omega arith)

from_lt : (ns : List Token) (n : ℕ) (u : List Token) → length u < n → Below {A = List Token × Token} n (from_at ns u)
from_lt ns n [] l = tt
from_lt ns n (t ∷ u) l = chosen (Below {A = List Token × Token} n) (is_name t.kind) _ None (kept (option_and_then past_selection (past_identifier u)) (selected_le _ (past_identifier u) (identifier_le u))) tt
  where
    kept : (o : Option (List Token)) → AtMost (length u) o → Below {A = List Token × Token} n (option_map (λ v. ((ns, t), v)) o)
    kept None h = tt
    kept (Some v) h = omega (arith, l, h)

behind_lt : (n : ℕ) (o : Option (List Token × List Token)) → Below n o → Below n (names_from_module o)
behind_lt n None h = tt
behind_lt n (Some p) h = chosen (Below n) (first_is (is_mark mark.From) p.1) (from_at p.0 (drop 1 p.1)) None (from_lt p.0 n (drop 1 p.1) (omega (arith, length-drop 1 p.1, h))) tt

pub import_lt : (u v : List Token) (i : List Token × Token) → import_at u ≡ Some (i, v) → length v < length u
import_lt u v i e = subst (Below (length u)) e (behind_lt (length u) (names_at u) (names_lt u))

true_false : true ≡ false → ⊥
true_false e = cc

pub some_same : {A : Type 0} {x y : A} {o : Option A} → o ≡ Some x → o ≡ Some y → x ≡ y
some_same {x = x} {y = y} a b = let e : Some x ≡ Some y = sym a ∙ b in cc

none_some : {A : Type 0} {x : A} {o : Option A} → o ≡ None → o ≡ Some x → ⊥
none_some {A = A} {x = x} a b = let e : ◌≡◌ {A = Option A} None (Some x) = sym a ∙ b in let y : ⊥ = cc in y

pub reach_more : {u v w : List Token} {is : List (List Token × Token)} {i : List Token × Token} → ImportsReach u is v → first_is (is_mark mark.Semicolon) v ≡ false → import_at v ≡ Some (i, w) → ImportsReach u (is ++ i ∷ []) w
reach_more reaches_here s e = reaches_next s e reaches_here
reach_more (reaches_next t f r) s e = reaches_next t f (reach_more r s e)

along : {u v w : List Token} {is : List (List Token × Token)} → v ≡ u → ImportsReach u is w → ImportsReach v is w
along {w = w} {is = is} e r = subst (λ x. ImportsReach x is w) (sym e) r

-- None are read to a semicolon where something else stops them.
pub stuck : {u v w : List Token} {is js : List (List Token × Token)} → ImportsReach u is v → first_is (is_mark mark.Semicolon) v ≡ false → import_at v ≡ None → ImportsReach u js w → first_is (is_mark mark.Semicolon) w ≡ true → ⊥
stuck reaches_here s n reaches_here k = true_false (sym k ∙ s)
stuck reaches_here s n (reaches_next t f r) k = none_some n f
stuck (reaches_next t f r) s n reaches_here k = true_false (sym k ∙ t)
stuck (reaches_next t f r) s n (reaches_next t' f' r') k = stuck r s n (along (ap (λ p. p.1) (some_same f f')) r') k

-- Two that end at a semicolon are the same.
same_reach : {u v w : List Token} {is js : List (List Token × Token)} → ImportsReach u is v → first_is (is_mark mark.Semicolon) v ≡ true → ImportsReach u js w → first_is (is_mark mark.Semicolon) w ≡ true → (is ≡ js) × (v ≡ w)
same_reach reaches_here s reaches_here k = (refl, refl)
same_reach reaches_here s (reaches_next t f r) k = absurd (true_false (sym s ∙ t))
same_reach (reaches_next t f r) s reaches_here k = absurd (true_false (sym k ∙ t))
same_reach (reaches_next {is = is} t f r) s (reaches_next {i = j} t' f' r') k =
    let e = some_same f f' in
    let h = same_reach r s (along (ap (λ p. p.1) e) r') k in
    (ap (λ i. i.0 ∷ is) e ∙ ap (λ l. j ∷ l) h.0, h.1)

pub same_imports : {u v w : List Token} {is js : List (List Token × Token)} → ImportsParse u is v → ImportsParse u js w → (is ≡ js) × (v ≡ w)
same_imports (no_imports a) (no_imports b) = (refl, refl)
same_imports (no_imports a) (imports_parse b r s) = absurd (true_false (sym b ∙ a))
same_imports (imports_parse b r s) (no_imports a) = absurd (true_false (sym b ∙ a))
same_imports (imports_parse a r s) (imports_parse b q t) = let h = same_reach r s q t in (h.0, ap (drop 1) h.1)

-- What the reader of imports has at its beginning, past one more, and at its ends.
pub none_read : (u : List Token) (xs : List Import) → first_is (is_mark mark.Imports) u ≡ false → xs ≡ [] → ImportsParse u (map import_view xs) u
none_read u xs h e = subst (λ ys. ImportsParse u (map import_view ys) u) (sym e) (no_imports h)

pub start_read : (u : List Token) (xs : List Import) → xs ≡ [] → ImportsReach u (map import_view xs) u
start_read u xs e = subst (λ ys. ImportsReach u (map import_view ys) u) (sym e) reaches_here

pub next_read : (u v w : List Token) (xs ys : List Import) (i : Import) → ImportsReach u (map import_view xs) v → first_is (is_mark mark.Semicolon) v ≡ false → import_at v ≡ Some (import_view i, w) → ys ≡ xs ++ i ∷ []
    → ImportsReach u (map import_view ys) w
next_read u v w xs ys i r s e m =
    subst (λ is. ImportsReach u is w) (sym (ap (map import_view) m ∙ map-append import_view xs (i ∷ []))) (reach_more r s e)

pub all_read : (u v w x : List Token) (is : List (List Token × Token)) → first_is (is_mark mark.Imports) u ≡ true → v ≡ drop 1 u → ImportsReach v is w → first_is (is_mark mark.Semicolon) w ≡ true → x ≡ drop 1 w → ImportsParse u is x
all_read u v w x is h d r s e = subst (λ y. ImportsParse u is y) (sym e) (imports_parse h (along (sym d) r) s)

pub not_read : (u v w x : List Token) (is js : List (List Token × Token)) → first_is (is_mark mark.Imports) u ≡ true → v ≡ drop 1 u → ImportsReach v is w → first_is (is_mark mark.Semicolon) w ≡ false → import_at w ≡ None → ImportsParse u js x → ⊥
not_read u v w x is js h d r s n (no_imports a) = true_false (sym h ∙ a)
not_read u v w x is js h d r s n (imports_parse a q t) = stuck r s n (along d q) t
