-- The actual parameters that a reader goes over, one at a time.
use Rattle.std.proofs.Common.{◌≡◌, ◌≢◌, ◌++◌, ℕ, suc, List, [], ◌∷◌, map, drop, true, false, Option, Some, None, refl, sym, ap, subst, ◌∙◌}
use Rattle.std.specs.Option.{option_map}
use Rattle.asn_modules_grammar.specs.headers.Groups.{past_groups}
use Rattle.asn_modules_grammar.specs.declared.headers.group.Group.TheVariants.{Braces}
use Rattle.asn_lexer.specs.declared.kind.Kind.{Kind}
use Rattle.asn_lexer.specs.declared.kind.Kind.TheVariants as kind
use Rattle.asn_lexer.specs.declared.token.Token.{Token}
use Rattle.asn_modules_grammar.specs.notation.Grammar.{NotationParses, BaseParses, reference_parses, instance_parses, ArgumentsParse, other_arguments, last_argument, next_argument, unlike_argument}
use Rattle.asn_modules_grammar.specs.notation.Kinds.{first_kind}
use Rattle.asn_modules_grammar.specs.notation.Notation.{Notation, Base, reference, all_types, instance_or}
use Rattle.asn_modules_grammar.specs.notation.Starts.{Start, begins_type}
use Rattle.asn_modules_grammar.proofs.notation.OneText.{same_notation}
use Rattle.asn_modules_reader.proofs.parts.Repeats.{true_false, some_same, none_some}
use Rattle.asn_modules_reader.proofs.parts.Runs.{Going, Step, going_none}
use Rattle.asn_modules_reader.specs.Arguments.{AreArguments}

-- Types that were read.
abbrev pub given : List Notation → List (Option Notation)
given ns = map (λ n. Some n) ns

all_given : (ns : List Notation) → all_types (given ns) ≡ Some ns
all_given [] = refl
all_given (n ∷ ns) = ap (option_map (λ ms. n ∷ ms)) (all_given ns)

-- With something else after them they aren't all.
not_all : (ns : List Notation) (ms : List (Option Notation)) → all_types ms ≡ None → all_types (given ns ++ ms) ≡ None
not_all [] ms e = e
not_all (n ∷ ns) ms e = ap (option_map (λ ms. n ∷ ms)) (not_all ns ms e)

map_join : (ns : List Notation) (n : Notation) → given (ns ++ n ∷ []) ≡ given ns ++ Some n ∷ []
map_join [] n = refl
map_join (m ∷ ns) n = ap (λ l. Some m ∷ l) (map_join ns n)

pub more_given : (ns ms : List Notation) (n : Notation) → ms ≡ ns ++ n ∷ [] → given ms ≡ given ns ++ Some n ∷ []
more_given ns ms n e = ap given e ∙ map_join ns n

brace_comma : {o : Option Kind} → o ≡ Some kind.CloseBrace → o ≡ Some kind.Comma → ⊥
brace_comma a b = let e : Some kind.CloseBrace ≡ Some kind.Comma = sym a ∙ b in let y : ⊥ = cc in y

-- One type, and a comma.
next_behind : {limit level : ℕ} {u v rest : List Token} {n : Notation} {ys : List (Option Notation)} → begins_type u ≡ true → NotationParses limit level u n v → first_kind v ≡ Some kind.Comma → ArgumentsParse limit level u ys rest
    → (xs : List (Option Notation)) × ArgumentsParse limit level (drop 1 v) xs rest × (ys ≡ Some n ∷ xs)
next_behind b p h (other_arguments c g) = absurd (true_false (sym b ∙ c))
next_behind b p h (last_argument c q k) = absurd (brace_comma k (ap first_kind (sym (same_notation p q).1) ∙ h))
next_behind {limit = limit} {level = level} {rest = rest} b p h (next_argument {ns = ns} c q k qs) =
    let e = same_notation p q in (ns, subst (λ z. ArgumentsParse limit level (drop 1 z) ns rest) (sym e.1) qs, ap (λ n. Some n ∷ ns) (sym e.0))
next_behind b p h (unlike_argument c q k l g) = absurd (l (ap first_kind (sym (same_notation p q).1) ∙ h))

pub arguments_step : (limit level : ℕ) (u v w : List Token) (n : Notation) → begins_type u ≡ true → NotationParses limit level u n v → first_kind v ≡ Some kind.Comma → w ≡ drop 1 v → Step (ArgumentsParse limit level) u w (Some n)
arguments_step limit level u v w n b p h e =
    subst (λ z. Step (ArgumentsParse limit level) u z (Some n)) (sym e) (record { forward = λ xs rest q. next_argument b p h q; backward = λ ys rest q. next_behind b p h q })

-- None stand here.
pub arguments_untyped : (limit level : ℕ) (u : List Token) → begins_type u ≡ true → ((n : Notation) (v : List Token) → NotationParses limit level u n v → ⊥) → (xs : List (Option Notation)) (rest : List Token) → ArgumentsParse limit level u xs rest → ⊥
arguments_untyped limit level u b none xs rest (other_arguments c g) = true_false (sym b ∙ c)
arguments_untyped limit level u b none xs rest (last_argument {v = v} {n = n} c q k) = none n v q
arguments_untyped limit level u b none xs rest (next_argument {v = v} {n = n} c q k qs) = none n v q
arguments_untyped limit level u b none xs rest (unlike_argument {v = v} {n = n} c q k l g) = none n v q

pub arguments_open : (limit level : ℕ) (u : List Token) → begins_type u ≡ false → past_groups (Braces ∷ []) u ≡ None → (xs : List (Option Notation)) (rest : List Token) → ArgumentsParse limit level u xs rest → ⊥
arguments_open limit level u b none xs rest (other_arguments c g) = none_some none g
arguments_open limit level u b none xs rest (last_argument c q k) = true_false (sym c ∙ b)
arguments_open limit level u b none xs rest (next_argument c q k qs) = true_false (sym c ∙ b)
arguments_open limit level u b none xs rest (unlike_argument c q k l g) = true_false (sym c ∙ b)

pub unlike_open : (limit level : ℕ) (u v : List Token) (n : Notation) → begins_type u ≡ true → NotationParses limit level u n v → first_kind v ≢ Some kind.CloseBrace → first_kind v ≢ Some kind.Comma → past_groups (Braces ∷ []) v ≡ None
    → (xs : List (Option Notation)) (rest : List Token) → ArgumentsParse limit level u xs rest → ⊥
unlike_open limit level u v n b p h k none xs rest (other_arguments c g) = true_false (sym b ∙ c)
unlike_open limit level u v n b p h k none xs rest (last_argument c q l) = h (ap first_kind (same_notation p q).1 ∙ l)
unlike_open limit level u v n b p h k none xs rest (next_argument c q l qs) = k (ap first_kind (same_notation p q).1 ∙ l)
unlike_open limit level u v n b p h k none xs rest (unlike_argument c q l m g) = none_some (sym (ap (past_groups (Braces ∷ [])) (same_notation p q).1) ∙ none) g

-- What a reader answers at its ends.
pub none_are : (limit level : ℕ) (u here : List Token) (seen : List (Option Notation)) → Going (ArgumentsParse limit level) u here seen → ((xs : List (Option Notation)) (rest : List Token) → ArgumentsParse limit level here xs rest → ⊥)
    → (found : Option (List Notation)) (rest : List Token) → AreArguments limit level u found rest → ⊥
none_are limit level u here seen g none found rest q = going_none (ArgumentsParse limit level) u here seen g none q.0 rest q.1

pub all_are : (limit level : ℕ) (u here v w : List Token) (ns ms : List Notation) (n : Notation) → Going (ArgumentsParse limit level) u here (given ns) → begins_type here ≡ true → NotationParses limit level here n v → first_kind v ≡ Some kind.CloseBrace
    → w ≡ drop 1 v → ms ≡ ns ++ n ∷ [] → AreArguments limit level u (Some ms) w
all_are limit level u here v w ns ms n g b p h e m = (
  given ms,
  subst (λ z. ArgumentsParse limit level u z w) (sym (more_given ns ms n m)) (g.forward (Some n ∷ []) w (subst (λ z. ArgumentsParse limit level here (Some n ∷ []) z) (sym e) (last_argument b p h))),
  sym (all_given ms),
)

pub others_are : (limit level : ℕ) (u here rest : List Token) (ns : List Notation) → Going (ArgumentsParse limit level) u here (given ns) → begins_type here ≡ false → past_groups (Braces ∷ []) here ≡ Some rest → AreArguments limit level u None rest
others_are limit level u here rest ns g b e = (given ns ++ None ∷ [], g.forward (None ∷ []) rest (other_arguments b e), sym (not_all ns (None ∷ []) refl))

pub unlike_are : (limit level : ℕ) (u here v rest : List Token) (ns : List Notation) (n : Notation) → Going (ArgumentsParse limit level) u here (given ns) → begins_type here ≡ true → NotationParses limit level here n v → first_kind v ≢ Some kind.CloseBrace
    → first_kind v ≢ Some kind.Comma → past_groups (Braces ∷ []) v ≡ Some rest → AreArguments limit level u None rest
unlike_are limit level u here v rest ns n g b p h k e =
    (given ns ++ Some n ∷ None ∷ [], g.forward (Some n ∷ None ∷ []) rest (unlike_argument b p h k e), sym (not_all ns (Some n ∷ None ∷ []) refl))

-- The name of a type, with parameters and without.
pub reference_read : (limit level : ℕ) (u : List Token) (home : Option Token) (name : Token) → first_kind u ≢ Some kind.OpenBrace → BaseParses limit level (Start.reference home name) u (reference home name) u
reference_read limit level u home name h = reference_parses h

pub instance_read : (limit level next : ℕ) (u v rest : List Token) (home : Option Token) (name : Token) (found : Option (List Notation)) → next ≡ suc level → first_kind u ≡ Some kind.OpenBrace → v ≡ drop 1 u → AreArguments limit next v found rest
    → BaseParses limit level (Start.reference home name) u (instance_or home name found) rest
instance_read limit level next u v rest home name found l h e p =
    subst (λ z. BaseParses limit level (Start.reference home name) u (instance_or home name z) rest) (sym p.2)
    (instance_parses h (subst (λ z. ArgumentsParse limit z (drop 1 u) p.0 rest) l (subst (λ z. ArgumentsParse limit next z p.0 rest) e p.1)))

pub instance_none : (limit level next : ℕ) (u v : List Token) (home : Option Token) (name : Token) → next ≡ suc level → first_kind u ≡ Some kind.OpenBrace → v ≡ drop 1 u
    → ((found : Option (List Notation)) (rest : List Token) → AreArguments limit next v found rest → ⊥) → (b : Base) (rest : List Token) → BaseParses limit level (Start.reference home name) u b rest → ⊥
instance_none limit level next u v home name l h e none b rest (reference_parses k) = k h
instance_none limit level next u v home name l h e none b rest (instance_parses {ns = ns} k p) =
    none (all_types ns) rest (ns, subst (λ z. ArgumentsParse limit z v ns rest) (sym l) (subst (λ z. ArgumentsParse limit (suc level) z ns rest) (sym e) p), refl)
