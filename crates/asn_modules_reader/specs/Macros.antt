-- What macros assign, as a reader returns it.
use Rattle.std.specs.Prelude.{◌≡◌, ◌<◌, List, length, Option, Some, None, Result, Ok, Err}
use Rattle.std.specs.Borrow.{Bor}
use Rattle.asn_lexer.specs.declared.token.Token.{Token}
use Rattle.asn_modules_grammar.specs.headers.Fronts.{IsSyntax}
use Rattle.asn_modules_grammar.specs.declared.headers.fault.SyntaxFault.{SyntaxFault}

-- What a macro assigns is found, with what follows it, which is shorter than these tokens; none is
-- found only where neither a macro is defined nor one has clauses; and what isn't whole is refused,
-- unless memory ran out.
abbrev pub MacroReads : {A B : Type 0} → (A → B) → Option (Option (B × List Token)) → List Token
    → Result (Option (A × Bor (List Token))) SyntaxFault → Type 0
MacroReads view expected u (Ok None) = expected ≡ None
MacroReads view expected u (Ok (Some found)) =
    (expected ≡ Some (Some (view found.0, found.1.now))) × (length found.1.now < length u)
MacroReads view expected u (Err e) = IsSyntax e → expected ≡ Some None
