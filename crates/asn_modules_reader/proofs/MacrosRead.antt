-- What a reader finds where a macro may be.
use Rattle.std.proofs.Common.{◌≡◌, ℕ, List, ◌∷◌, drop, true, false, Option, Some, None, Result, Ok, Err, refl, sym, ap, subst, ◌∙◌}
use Rattle.std.specs.Borrow.{Bor}
use Rattle.asn_lexer.specs.declared.token.Token.{Token}
use Rattle.asn_modules_grammar.specs.headers.Fronts.{first_is, first_of}
use Rattle.asn_modules_grammar.specs.declared.headers.fault.SyntaxFault.{SyntaxFault}
use Rattle.asn_modules_grammar.specs.notation.Grammar.{NotationParses}
use Rattle.asn_modules_grammar.specs.notation.Kinds.{is_syntax}
use Rattle.asn_modules_grammar.specs.notation.Macros.{clauses_at, macro_named}
use Rattle.asn_modules_grammar.specs.notation.Modules.{AssignedParses, plain_parses, syntax_parses, clauses_parse}
use Rattle.asn_modules_grammar.specs.notation.Notation.{Notation}
use Rattle.asn_modules_reader.proofs.parts.Repeats.{true_false, some_same, none_some}
use Rattle.asn_modules_reader.specs.Macros.{MacroReads}
use Rattle.asn_modules_reader.specs.parts.Reading.{Reads}

-- No macro is read only where none is.
pub unmade : {A B : Type 0} (view : A → B) (e : Option (Option (B × List Token))) (u : List Token) (made : Option (A × Bor (List Token)))
    → ((x : A × Bor (List Token)) → made ≡ Some x → ⊥) → MacroReads view e u (Ok made) → e ≡ None
unmade view e u None none h = h
unmade view e u (Some x) none h = absurd (none x refl)

-- What is read of a macro is what it assigns.
pub made_found : {A B : Type 0} (view : A → B) (e : Option (Option (B × List Token))) (u : List Token) (made : Option (A × Bor (List Token))) (found : A × Bor (List Token))
    → made ≡ Some found → MacroReads view e u (Ok made) → e ≡ Some (Some (view found.0, found.1.now))
made_found view e u made found is h = (subst (λ m. MacroReads view e u (Ok m)) is h).0

plain_only : {limit : ℕ} {u rest : List Token} {n : Notation} → clauses_at u ≡ None → AssignedParses limit u n rest → NotationParses limit 0 u n rest
plain_only none (plain_parses c d) = d
plain_only none (syntax_parses c s d) = absurd (none_some none c)
plain_only none (clauses_parse c s f) = absurd (none_some none c)

-- Without clauses the type that is assigned is the one that stands there.
pub assigned_plain : {A : Type 0} (limit : ℕ) (u : List Token) (view : A → Notation) (r : Result (A × Bor (List Token)) SyntaxFault)
    → clauses_at u ≡ None → Reads view (NotationParses limit 0 u) r → Reads view (AssignedParses limit u) r
assigned_plain limit u view (Ok found) none d = plain_parses none d
assigned_plain limit u view (Err e) none d = λ syntax n rest p. d syntax n rest (plain_only none p)

after_syntax : {limit : ℕ} {u v w rest : List Token} {t : Token} {n : Notation} → clauses_at u ≡ Some v → v ≡ t ∷ w → is_syntax t.kind ≡ true
    → AssignedParses limit u n rest → NotationParses limit 0 w n rest
after_syntax c e s (plain_parses none d) = absurd (none_some none c)
after_syntax {limit = limit} {rest = rest} {n = n} c e s (syntax_parses k h d) = subst (λ z. NotationParses limit 0 z n rest) (ap (drop 1) (some_same k c ∙ e)) d
after_syntax c e s (clauses_parse k h f) = absurd (true_false (sym (ap (first_is is_syntax) (some_same k c ∙ e) ∙ s) ∙ h))

-- With clauses it is the one after SYNTAX.
pub assigned_after : {A : Type 0} (limit : ℕ) (u v w : List Token) (t : Token) (view : A → Notation) (r : Result (A × Bor (List Token)) SyntaxFault)
    → clauses_at u ≡ Some v → v ≡ t ∷ w → is_syntax t.kind ≡ true → Reads view (NotationParses limit 0 w) r → Reads view (AssignedParses limit u) r
assigned_after limit u v w t view (Ok found) c e s d =
    syntax_parses c (ap (first_is is_syntax) e ∙ s) (subst (λ z. NotationParses limit 0 z (view found.0) found.1.now) (sym (ap (drop 1) e)) d)
assigned_after limit u v w t view (Err x) c e s d = λ syntax n rest p. d syntax n rest (after_syntax c e s p)

-- Without SYNTAX among them it is the macro's.
pub assigned_clauses : (limit : ℕ) (u v : List Token) (t : Token) (n : Notation) → clauses_at u ≡ Some v → first_is is_syntax v ≡ false → first_of u ≡ Some t → n ≡ macro_named t
    → AssignedParses limit u n v
assigned_clauses limit u v t n c s f e = subst (λ z. AssignedParses limit u z v) (sym e) (clauses_parse c s f)
