-- What follows a header is shorter than what it stands in.
use Rattle.std.proofs.Common.{◌≡◌, ◌≤◌, ◌<◌, ℕ, suc, List, [], ◌∷◌, drop, length, length-drop, Bool, true, false, if◌then◌else◌, Option, Some, None, subst, arith}
use Rattle.std.specs.Prelude.{IfSome}
use Rattle.std.specs.Option.{option_and_then}
use Rattle.asn_lexer.specs.declared.token.Token.{Token}
use Rattle.asn_modules_grammar.specs.headers.Fronts.{is_name}
use Rattle.asn_modules_grammar.specs.headers.Groups.{past_optional_braces}
use Rattle.asn_modules_grammar.specs.headers.Headers.{Header, HeaderParses, ImportsReach, reaches_here, reaches_next, ImportsParse, no_imports, imports_parse, begun_at, defined_at, definitions_at, ended, exported_at, exports_at, implied_at, implied_behind, is_extensibility, is_implied, is_tags, names_at, names_ended, opening_at, tags_at, tags_behind, tagging_of}
use Rattle.asn_modules_grammar.specs.declared.headers.opening.Opening.{Opening}
use Rattle.asn_modules_grammar.specs.declared.headers.tagging.Tagging.{Tagging}
use Rattle.asn_modules_grammar.proofs.headers.Imports.{Below, names_lt, import_lt}
use Rattle.asn_modules_reader.proofs.parts.Groups.{chosen, optional_le}

-- What is found leaves at most so many tokens.
abbrev Within : {A : Type 0} → ℕ → Option (A × List Token) → Type 0
Within n o = IfSome o (λ p. length p.1 ≤ n)

then_within : {A B : Type 0} (n : ℕ) (P : A → Type 0) (f : A → Option (B × List Token)) (o : Option A) → IfSome o P → ((x : A) → P x → Within n (f x)) → Within n (option_and_then f o)
then_within n P f None h k = tt
then_within n P f (Some x) h k = k x h

behind_within : (d : Option Tagging) (t : Token) (u : List Token) → Within (suc (length u)) (tags_behind d (t ∷ u) u)
behind_within None t u = omega arith
behind_within (Some d) t [] = tt
behind_within (Some d) t (s ∷ v) = chosen (Within {A = Tagging} (suc (suc (length v)))) (is_tags s.kind) (Some (d, v)) None (omega arith) tt

tags_within : (u : List Token) → Within (length u) (tags_at u)
tags_within [] = omega arith
tags_within (t ∷ u) = behind_within (tagging_of t.kind) t u

implied_behind_within : (n : ℕ) (u : List Token) → length u ≤ n → Within n (implied_behind u)
implied_behind_within n [] h = tt
implied_behind_within n (t ∷ u) h = chosen (Within {A = Bool} n) (is_implied t.kind) (Some (true, u)) None (omega (arith, h)) tt

implied_within : (u : List Token) → Within (length u) (implied_at u)
implied_within [] = omega arith
implied_within (t ∷ u) = chosen (Within {A = Bool} (suc (length u))) (is_extensibility t.kind) (implied_behind u) (Some (false, t ∷ u)) (implied_behind_within (suc (length u)) u (omega arith)) (omega arith)

begun_within : (n : ℕ) (o : Opening) (u : List Token) → length u ≤ n → Within n (begun_at o u)
begun_within n o u h =
    chosen (Within {A = Opening} n) _ (Some (o, drop 1 (drop 1 u))) None
    (omega (arith, h, length-drop 1 u, length-drop 1 (drop 1 u))) tt

defined_within : (n : ℕ) (name : Token) (u : List Token) → length u ≤ n → Within n (defined_at name u)
defined_within n name u h =
    then_within n (λ (p : Tagging × List Token). length p.1 ≤ n) (λ t. option_and_then (λ i. begun_at (record { name = name; tagging = t.0; extensible = i.0 }) i.1) (implied_at t.1)) (tags_at u) (less (tags_at u) (length u) h (tags_within u))
    (λ t k. then_within n (λ (p : Bool × List Token). length p.1 ≤ n) (λ i. begun_at (record { name = name; tagging = t.0; extensible = i.0 }) i.1) (implied_at t.1) (less (implied_at t.1) (length t.1) k (implied_within t.1))
    (λ i l. begun_within n (record { name = name; tagging = t.0; extensible = i.0 }) i.1 l))
  where
    less : {A : Type 0} (o : Option (A × List Token)) (m : ℕ) → m ≤ n → Within m o → Within n o
    less None m k l = tt
    less (Some p) m k l = omega (arith, k, l)

definitions_within : (n : ℕ) (name : Token) (u : List Token) → length u ≤ n → Within n (definitions_at name u)
definitions_within n name u h =
    chosen (Within {A = Opening} n) _ (defined_at name (drop 1 u)) None (defined_within n name (drop 1 u) (omega (arith, h, length-drop 1 u))) tt

opening_within : (t : Token) (u : List Token) → Within (length u) (opening_at (t ∷ u))
opening_within t u =
    chosen (Within {A = Opening} (length u)) (is_name t.kind) (option_and_then (definitions_at t) (past_optional_braces u)) None
    (then_within (length u) (λ (v : List Token). length v ≤ length u) (definitions_at t) (past_optional_braces u) (optional_le u) (λ v h. definitions_within (length u) t v h)) tt

opening_lt : (u v : List Token) (o : Opening) → opening_at u ≡ Some (o, v) → length v < length u
opening_lt [] v o e = let f : ◌≡◌ {A = Option (Opening × List Token)} None (Some (o, v)) = e in let y : ⊥ = cc in absurd y
opening_lt (t ∷ u) v o e = let f : length v ≤ length u = subst (Within {A = Opening} (length u)) e (opening_within t u) in omega arith

names_within : (u : List Token) → Within (length u) (names_at u)
names_within u = no_more (names_at u) (names_lt u)
  where
    no_more : (o : Option (List Token × List Token)) → Below (length u) o → Within (length u) o
    no_more None h = tt
    no_more (Some p) h = omega (arith, h)

ended_within : {A : Type 0} (n : ℕ) (x : A) (u : List Token) → length u ≤ n → Within n (ended x u)
ended_within {A = A} n x u h = chosen (Within {A = A} n) _ (Some (x, drop 1 u)) None (omega (arith, h, length-drop 1 u)) tt

names_ended_within : (n : ℕ) (o : Option (List Token × List Token)) → Within n o → Within n (names_ended o)
names_ended_within n None h = tt
names_ended_within n (Some p) h = ended_within n (Some p.0) p.1 h

two_ways : {A : Type 0} (n : ℕ) (a b : Bool) (x y z : Option (A × List Token)) → Within n x → Within n y → Within n z → Within n (if a then x else if b then y else z)
two_ways n true b x y z p q r = p
two_ways n false true x y z p q r = q
two_ways n false false x y z p q r = r

exported_within : (n : ℕ) (u : List Token) → length u ≤ n → Within n (exported_at u)
exported_within n u h =
    let k : length (drop 1 u) ≤ n = omega (arith, h, length-drop 1 u) in
    two_ways {A = Option (List Token)} n _ _ (ended None (drop 1 u)) (Some (Some [], drop 1 u)) (names_ended (names_at u)) (ended_within n None (drop 1 u) k) k (names_ended_within n (names_at u) (less (names_at u) (names_within u)))
  where
    less : (o : Option (List Token × List Token)) → Within (length u) o → Within n o
    less None l = tt
    less (Some p) l = omega (arith, h, l)

exports_le : (u v : List Token) (x : Option (List Token)) → exports_at u ≡ Some (x, v) → length v ≤ length u
exports_le u v x e = subst (Within {A = Option (List Token)} (length u)) e (chosen (Within {A = Option (List Token)} (length u)) _ (exported_at (drop 1 u)) (Some (None, u)) (exported_within (length u) (drop 1 u) (omega (arith, length-drop 1 u))) (omega arith))

reach_le : {u v : List Token} {is : List (List Token × Token)} → ImportsReach u is v → length v ≤ length u
reach_le reaches_here = omega arith
reach_le (reaches_next {u = u} {v = w} {i = i} s e r) = omega (arith, import_lt u w i e, reach_le r)

imports_le : {u v : List Token} {is : List (List Token × Token)} → ImportsParse u is v → length v ≤ length u
imports_le (no_imports a) = omega arith
imports_le {u = u} (imports_parse {v = w} a r s) = omega (arith, length-drop 1 u, length-drop 1 w, reach_le r)

pub header_lt : (u v : List Token) (h : Header) → HeaderParses u h v → length v < length u
header_lt u v h p = omega (arith, opening_lt u p.behind_opening h.opening p.opening, exports_le p.behind_opening p.behind_exports h.exports p.exports, imports_le p.imports)
