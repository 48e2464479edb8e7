-- What follows groups is no longer than what they stand in.
use Rattle.std.proofs.Common.{◌≡◌, ◌≤◌, ℕ, suc, List, [], ◌∷◌, Bool, true, false, ◌||◌, if◌then◌else◌, length, Option, Some, None, Ok, Err, subst, arith}
use Rattle.std.specs.Prelude.{IfSome, IfOk, Result}
use Rattle.std.specs.Borrow.{Bor}
use Rattle.asn_modules_grammar.specs.headers.Fronts.{AnswersRest}
use Rattle.asn_modules_grammar.specs.declared.headers.fault.SyntaxFault.{SyntaxFault}
use Rattle.asn_lexer.specs.declared.token.Token.{Token}
use Rattle.asn_modules_grammar.specs.headers.Groups.{opens, closes, past_groups, past_optional_braces}
use Rattle.asn_modules_grammar.specs.declared.headers.group.Group.{Group}
use Rattle.asn_modules_grammar.specs.declared.headers.group.Group.TheVariants.{Braces, Parens}

pub chosen : {A : Type 0} (P : A → Type 0) (b : Bool) (x y : A) → P x → P y → P (if b then x else y)
chosen P true x y p q = p
chosen P false x y p q = q

abbrev pub AtMost : ℕ → Option (List Token) → Type 0
AtMost n o = IfSome o (λ v. length v ≤ n)

more : (n : ℕ) (o : Option (List Token)) → AtMost n o → AtMost (suc n) o
more n None h = tt
more n (Some v) h = omega (arith, h)

pub groups_le : (gs : List Group) (u : List Token) → AtMost (length u) (past_groups gs u)
groups_le [] u = omega arith
groups_le (g ∷ gs) [] = tt
groups_le (g ∷ gs) (t ∷ u) =
    let P : Option (List Token) → Type 0 = AtMost (suc (length u)) in
    chosen P (opens Braces t.kind) _ _ (more _ (past_groups (Braces ∷ g ∷ gs) u) (groups_le (Braces ∷ g ∷ gs) u))
    (chosen P (opens Parens t.kind) _ _ (more _ (past_groups (Parens ∷ g ∷ gs) u) (groups_le (Parens ∷ g ∷ gs) u))
    (chosen P (closes g t.kind) _ _ (more _ (past_groups gs u) (groups_le gs u))
    (chosen P (closes Braces t.kind || closes Parens t.kind) _ _ tt (more _ (past_groups (g ∷ gs) u) (groups_le (g ∷ gs) u)))))

pub past_le : (gs : List Group) (u v : List Token) → past_groups gs u ≡ Some v → length v ≤ length u
past_le gs u v e = subst (AtMost (length u)) e (groups_le gs u)

pub past_shorter : (gs : List Group) (u : List Token) (r : Result (Bor (List Token)) SyntaxFault) → AnswersRest (past_groups gs u) r → IfOk r (λ rest. length rest.now ≤ length u)
past_shorter gs u (Ok rest) h = past_le gs u rest.now h
past_shorter gs u (Err e) h = tt

pub optional_le : (u : List Token) → AtMost (length u) (past_optional_braces u)
optional_le [] = omega arith
optional_le (t ∷ u) = chosen (AtMost (suc (length u))) (opens Braces t.kind) _ (Some (t ∷ u)) (more _ (past_groups (Braces ∷ []) u) (groups_le (Braces ∷ []) u)) (omega arith)

pub optional_shorter : (u : List Token) (r : Result (Bor (List Token)) SyntaxFault) → AnswersRest (past_optional_braces u) r → IfOk r (λ rest. length rest.now ≤ length u)
optional_shorter u (Ok rest) h = subst (AtMost (length u)) h (optional_le u)
optional_shorter u (Err e) h = tt
