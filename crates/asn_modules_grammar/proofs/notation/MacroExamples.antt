-- Macros by example, each computed from its tokens: what they assign, and what follows.
use Rattle.std.proofs.Common.{◌≡◌, ◌≤◌, ℕ, suc, [], ◌∷◌, None, refl, arith}
use Rattle.asn_lexer.specs.declared.keyword.Keyword.{Keyword}
use Rattle.asn_lexer.specs.declared.keyword.Keyword.TheVariants as keyword
use Rattle.asn_lexer.specs.declared.kind.Initial.TheVariants.{Capital, Small}
use Rattle.asn_lexer.specs.declared.kind.Kind.{Kind}
use Rattle.asn_lexer.specs.declared.kind.Kind.TheVariants as kind
use Rattle.asn_lexer.specs.declared.token.Token.{Token}
use Rattle.asn_modules_grammar.specs.notation.Grammar.{notation_parses, leaf_parses, reference_parses}
use Rattle.asn_modules_grammar.specs.notation.Lists.{no_more}
use Rattle.asn_modules_grammar.specs.notation.Macros.{macro_named, macro_type}
use Rattle.asn_modules_grammar.specs.notation.Modules.{type_assignment, value_assignment, AssignmentParses, assignment_parses, plain_parses, syntax_parses, clauses_parse, type_parses, macro_parses, value_parses}
use Rattle.asn_modules_grammar.specs.notation.Notation.{notation, leaf, reference}
use Rattle.asn_modules_grammar.specs.declared.notation.leaf.Leaf.TheVariants.{OctetString}
use Rattle.asn_modules_grammar.specs.declared.notation.value.Value.TheVariants as value

-- The token of the kind at the place.
abbrev at : Kind → ℕ → Token
at k n = record { kind = k; start = n; end = suc n }

abbrev word : Keyword → ℕ → Token
word k n = at (kind.Reserved k) n

fits : (level : ℕ) → level ≡ 0 → level ≤ 64
fits level e = omega (arith, e)

-- OBJECT-TYPE MACRO ::= BEGIN TYPE NOTATION ::= "SYNTAX" type(TYPE ObjectSyntax) | empty END
defined : AssignmentParses 64
    (at (kind.Name Capital) 0 ∷ word keyword.Macro 1 ∷ at kind.Assignment 2 ∷ word keyword.Begin 3 ∷ at (kind.Name Capital) 4 ∷ at (kind.Name Capital) 5 ∷ at kind.Assignment 6 ∷ at kind.Cstring 7 ∷ at (kind.Name Small) 8
    ∷ at kind.OpenParen 9 ∷ at (kind.Name Capital) 10 ∷ at (kind.Name Capital) 11 ∷ at kind.CloseParen 12 ∷ at kind.Bar 13 ∷ at (kind.Name Small) 14 ∷ word keyword.End 15 ∷ word keyword.End 16 ∷ [])
    (type_assignment (at (kind.Name Capital) 0) macro_type) (word keyword.End 16 ∷ [])
defined = assignment_parses refl refl (macro_parses refl)

-- sysDescr OBJECT-TYPE SYNTAX INTEGER { up(1) } ACCESS read-only ::= { system 1 }
object : AssignmentParses 64
    (at (kind.Name Small) 0 ∷ at (kind.Name Capital) 1 ∷ word keyword.Syntax 2 ∷ word keyword.Integer 3 ∷ at kind.OpenBrace 4 ∷ at (kind.Name Small) 5 ∷ at kind.OpenParen 6 ∷ at kind.Number 7 ∷ at kind.CloseParen 8 ∷ at kind.CloseBrace 9
    ∷ at (kind.Name Capital) 10 ∷ at (kind.Name Small) 11 ∷ at kind.Assignment 12 ∷ at kind.OpenBrace 13 ∷ at (kind.Name Small) 14 ∷ at kind.Number 15 ∷ at kind.CloseBrace 16 ∷ [])
    (value_assignment (at (kind.Name Small) 0) (macro_named (at (kind.Name Capital) 1)) (value.Other (at (kind.Name Small) 0))) []
object = assignment_parses refl refl (macro_parses refl)

-- authorized ERROR PARAMETER Reason ::= localValue 5
error : AssignmentParses 64
    (at (kind.Name Small) 0 ∷ at (kind.Name Capital) 1 ∷ at (kind.Name Capital) 2 ∷ at (kind.Name Capital) 3 ∷ at kind.Assignment 4 ∷ at (kind.Name Small) 5 ∷ at kind.Number 6 ∷ [])
    (value_assignment (at (kind.Name Small) 0) (macro_named (at (kind.Name Capital) 1)) (value.Other (at (kind.Name Small) 0))) []
error = assignment_parses refl refl (macro_parses refl)

-- DisplayString ::= TEXTUAL-CONVENTION DISPLAY-HINT "255a" STATUS current SYNTAX OCTET STRING (SIZE (0..255))
convention : AssignmentParses 64
    (at (kind.Name Capital) 0 ∷ at kind.Assignment 1 ∷ at (kind.Name Capital) 2 ∷ at (kind.Name Capital) 3 ∷ at kind.Cstring 4 ∷ at (kind.Name Capital) 5 ∷ at (kind.Name Small) 6 ∷ word keyword.Syntax 7 ∷ word keyword.Octet 8 ∷ word keyword.String 9
    ∷ at (kind.Name Small) 10 ∷ at (kind.Name Capital) 11 ∷ at kind.Assignment 12 ∷ [])
    (type_assignment (at (kind.Name Capital) 0) (notation [] (leaf OctetString) [])) (at (kind.Name Small) 10 ∷ at (kind.Name Capital) 11 ∷ at kind.Assignment 12 ∷ [])
convention = assignment_parses refl refl (type_parses refl refl (syntax_parses refl refl (notation_parses (fits 0 refl) (no_more refl) refl leaf_parses (no_more refl))))

-- UpdateLocation ::= OPERATION ARGUMENT updateLocationArg UpdateLocationArg ERRORS { UnknownSubscriber }, before updateLocation UpdateLocation ::=
operation : AssignmentParses 64
    (at (kind.Name Capital) 0 ∷ at kind.Assignment 1 ∷ at (kind.Name Capital) 2 ∷ at (kind.Name Capital) 3 ∷ at (kind.Name Small) 4 ∷ at (kind.Name Capital) 5 ∷ at (kind.Name Capital) 6 ∷ at kind.OpenBrace 7 ∷ at (kind.Name Capital) 8 ∷ at kind.CloseBrace 9
    ∷ at (kind.Name Small) 10 ∷ at (kind.Name Capital) 11 ∷ at kind.Assignment 12 ∷ [])
    (type_assignment (at (kind.Name Capital) 0) (macro_named (at (kind.Name Capital) 2))) (at (kind.Name Small) 10 ∷ at (kind.Name Capital) 11 ∷ at kind.Assignment 12 ∷ [])
operation = assignment_parses refl refl (type_parses refl refl (clauses_parse refl refl refl))

-- updateLocation UpdateLocation ::= localValue 2
numbered : AssignmentParses 64
    (at (kind.Name Small) 0 ∷ at (kind.Name Capital) 1 ∷ at kind.Assignment 2 ∷ at (kind.Name Small) 3 ∷ at kind.Number 4 ∷ [])
    (value_assignment (at (kind.Name Small) 0) (notation [] (reference None (at (kind.Name Capital) 1)) []) (value.Other (at (kind.Name Small) 3))) []
numbered = assignment_parses refl refl (value_parses (λ e. cc) refl (notation_parses (fits 0 refl) (no_more refl) refl (reference_parses (λ e. cc)) (no_more refl)) refl refl)

-- Failure ::= Reason, before Kinds REASONS ::=, has no clauses.
plain : AssignmentParses 64
    (at (kind.Name Capital) 0 ∷ at kind.Assignment 1 ∷ at (kind.Name Capital) 2 ∷ at (kind.Name Capital) 3 ∷ at (kind.Name Capital) 4 ∷ at kind.Assignment 5 ∷ [])
    (type_assignment (at (kind.Name Capital) 0) (notation [] (reference None (at (kind.Name Capital) 2)) [])) (at (kind.Name Capital) 3 ∷ at (kind.Name Capital) 4 ∷ at kind.Assignment 5 ∷ [])
plain = assignment_parses refl refl (type_parses refl refl (plain_parses refl (notation_parses (fits 0 refl) (no_more refl) refl (reference_parses (λ e. cc)) (no_more refl))))
