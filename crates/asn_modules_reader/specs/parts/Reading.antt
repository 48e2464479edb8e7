-- What readers of tokens return.
use Rattle.std.specs.Prelude.{◌≡◌, List, Option, Some, None, Result, Ok, Err}
use Rattle.std.specs.Borrow.{Bor}
use Rattle.asn_modules_grammar.specs.headers.Fronts.{IsSyntax}
use Rattle.asn_modules_grammar.specs.declared.headers.fault.SyntaxFault.{SyntaxFault}
use Rattle.asn_lexer.specs.declared.token.Token.{Token}

-- The answer, seen through this view, stands at the front of the tokens that P speaks of, with what
-- follows it; or nothing does, unless memory ran out.
abbrev pub Reads : {A B : Type 0} → (A → B) → (B → List Token → Type 0)
    → Result (A × Bor (List Token)) SyntaxFault → Type 0
Reads view P (Ok found) = P (view found.0) found.1.now
Reads {B = B} view P (Err e) = IsSyntax e → (x : B) (rest : List Token) → P x rest → ⊥

-- What is found is what was expected, with what follows it.
abbrev pub Finds : {A : Type 0} → Option (A × List Token) → Option (A × Bor (List Token)) → Type 0
Finds expected None = expected ≡ None
Finds expected (Some found) = expected ≡ Some (found.0, found.1.now)
