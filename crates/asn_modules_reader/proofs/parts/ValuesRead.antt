-- Values after the identifiers of alternatives.
use Rattle.std.proofs.Common.{◌≡◌, List, [], ◌∷◌, Bool, true, false, ◌&&◌, if◌then◌else◌, Option, Some, None, refl, sym, ap, subst, ◌∙◌}
use Rattle.std.specs.Option.{option_and_then, option_map}
use Rattle.asn_lexer.specs.declared.token.Token.{Token}
use Rattle.asn_modules_grammar.specs.headers.Fronts.{Answers, first_is}
use Rattle.asn_modules_grammar.specs.headers.Groups.{past_groups}
use Rattle.asn_modules_grammar.specs.declared.headers.fault.SyntaxFault.{SyntaxFault}
use Rattle.asn_modules_grammar.specs.declared.headers.group.Group.TheVariants.{Braces}
use Rattle.asn_lexer.specs.declared.kind.Kind.TheVariants as kind
use Rattle.std.specs.Borrow.{Bor}
use Rattle.std.specs.Prelude.{Result}
use Rattle.asn_modules_grammar.specs.notation.Classes.{begins_field, past_braces, past_fields}
use Rattle.asn_modules_grammar.specs.notation.Kinds.{is_colon, is_open_brace, is_word}
use Rattle.asn_modules_grammar.specs.notation.Values.{named_value_at, other_at, value_at, value_by}
use Rattle.asn_modules_grammar.specs.declared.notation.value.Value.{Value}
use Rattle.asn_modules_grammar.specs.declared.notation.value.Value.TheVariants as value
use Rattle.asn_modules_reader.specs.parts.Values.{value_here}

both_ways : (t c : Token) (u : List Token) (a b : Bool) → is_word t.kind ≡ a → is_colon c.kind ≡ b
    → value_at (t ∷ c ∷ u) ≡ (if a && b then option_map (λ p. (value.Other t, p.1)) (value_at u) else value_by t.kind t (c ∷ u))
both_ways t c u a b e f = ap (λ x. if x && is_colon c.kind then option_map (λ p. (value.Other t, p.1)) (value_at u) else value_by t.kind t (c ∷ u)) e
    ∙ ap (λ x. if a && x then option_map (λ p. (value.Other t, p.1)) (value_at u) else value_by t.kind t (c ∷ u)) f

never : (b : Bool) (t : Token) (o p : Option (Value × List Token)) → (if b && false then o else p) ≡ p
never true t o p = refl
never false t o p = refl

pub no_word : (u : List Token) → first_is is_word u ≡ false → value_at u ≡ value_here u
no_word [] h = refl
no_word (t ∷ []) h = refl
no_word (t ∷ c ∷ u) h = both_ways t c u false _ h refl

pub no_colon : (t : Token) (u v : List Token) → v ≡ t ∷ u → first_is is_colon u ≡ false → value_at v ≡ value_here v
no_colon t [] v e h = ap value_at e ∙ sym (ap value_here e)
no_colon t (c ∷ u) v e h = ap value_at e ∙ both_ways t c u _ false refl h ∙ never (is_word t.kind) t _ _ ∙ sym (ap value_here e)

pub alternative : (t c : Token) (u v w : List Token) → w ≡ t ∷ v → v ≡ c ∷ u → is_word t.kind ≡ true → is_colon c.kind ≡ true → value_at w ≡ option_map (λ p. (value.Other t, p.1)) (value_at u)
alternative t c u v w e f h k = ap value_at (e ∙ ap (λ x. t ∷ x) f) ∙ both_ways t c u true true h k

pub ruleset value_steps = (no_word, no_colon, alternative)

-- An alternative of an alternative is seen by the first identifier.
twice : (s t : Token) (found : Option (Value × List Token)) → option_map {U = Value × List Token} (λ p. (value.Other s, p.1)) (option_map {U = Value × List Token} (λ p. (value.Other t, p.1)) found) ≡ option_map (λ p. (value.Other s, p.1)) found
twice s t None = refl
twice s t (Some p) = refl

pub next_alternative : (s t : Token) (u v : List Token) → value_at v ≡ option_map (λ p. (value.Other t, p.1)) (value_at u)
    → option_map {U = Value × List Token} (λ p. (value.Other s, p.1)) (value_at v) ≡ option_map (λ p. (value.Other s, p.1)) (value_at u)
next_alternative s t u v e = ap (option_map (λ p. (value.Other s, p.1))) e ∙ twice s t (value_at u)

pub last_alternative : (s : Token) (v : List Token) → value_at v ≡ value_here v → option_map {U = Value × List Token} (λ p. (value.Other s, p.1)) (value_at v) ≡ option_map (λ p. (value.Other s, p.1)) (value_here v)
last_alternative s v e = ap (option_map (λ p. (value.Other s, p.1))) e

pub braced_here : (t : Token) (u v : List Token) → v ≡ t ∷ u → t.kind ≡ kind.OpenBrace → value_here v ≡ option_map (λ w. (value.Other t, w)) (past_groups (Braces ∷ []) u)
braced_here t u v e h = ap value_here e ∙ ap (λ k. value_by k t u) h

-- A name with a brace after it.
pub braced_name : (x : Value) (t b : Token) (u v : List Token) → u ≡ b ∷ v → is_open_brace b.kind ≡ true → begins_field u ≡ false → named_value_at x t u ≡ option_map (λ w. (value.Other t, w)) (past_groups (Braces ∷ []) v)
braced_name x t b u v e h n =
    ap (λ z. if z then other_at t (past_fields u) else if first_is is_open_brace u then other_at t (past_braces u) else Some (x, u)) n
    ∙ ap (λ z. if first_is is_open_brace z then other_at t (past_braces z) else Some (x, z)) e
    ∙ ap (λ z. if z then other_at t (past_braces (b ∷ v)) else Some (x, b ∷ v)) h
    ∙ ap (λ z. other_at t (option_and_then (past_groups (Braces ∷ [])) (if z then Some v else None))) h

-- The same answer to an equal question.
pub answered : (o p : Option (Value × List Token)) (r : Result (Value × Bor (List Token)) SyntaxFault) → o ≡ p → Answers (λ x. x) p r → Answers (λ x. x) o r
answered o p r e a = subst (λ z. Answers (λ x. x) z r) (sym e) a
