-- What tokens begin with, and what a reader of them returns.
use Rattle.std.specs.Prelude.{◌≡◌, List, [], ◌∷◌, Bool, true, false, Option, Some, None, Result, Ok, Err}
use Rattle.std.specs.Borrow.{Bor}
use Rattle.asn_lexer.specs.declared.kind.Kind.{Kind}
use Rattle.asn_lexer.specs.declared.kind.Kind.TheVariants as kind
use Rattle.asn_lexer.specs.declared.token.Token.{Token}
use Rattle.asn_modules_grammar.specs.declared.headers.fault.SyntaxFault.{SyntaxFault}
use Rattle.asn_modules_grammar.specs.declared.headers.fault.SyntaxFault.TheVariants as fault

-- The first token, if there is one.
abbrev pub first_of : List Token → Option Token
first_of [] = None
first_of (t ∷ u) = Some t

abbrev pub is_name : Kind → Bool
is_name (kind.Name initial) = true
is_name k = false

-- The first token is there, and its kind passes.
abbrev pub first_is : (Kind → Bool) → List Token → Bool
first_is p [] = false
first_is p (t ∷ u) = p t.kind

-- The tokens are refused for what they are, and not for lack of memory.
abbrev pub IsSyntax : SyntaxFault → Type 0
IsSyntax (fault.Unexpected met expected) = Unit {0}
IsSyntax fault.OutOfMemory = ⊥

-- The answer is what was expected, seen through this view, and what follows it; or there is none,
-- unless memory ran out.
abbrev pub Answers : {A B : Type 0} → (A → B) → Option (B × List Token)
    → Result (A × Bor (List Token)) SyntaxFault → Type 0
Answers view expected (Ok found) = expected ≡ Some (view found.0, found.1.now)
Answers view expected (Err e) = IsSyntax e → expected ≡ None

-- So where only what follows is the answer.
abbrev pub AnswersRest : Option (List Token) → Result (Bor (List Token)) SyntaxFault → Type 0
AnswersRest expected (Ok rest) = expected ≡ Some rest.now
AnswersRest expected (Err e) = IsSyntax e → expected ≡ None
