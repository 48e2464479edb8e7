-- Macros (X.208, Annex A), which X.680 has left out: their definitions, and the notation that they
-- define. What a macro makes of its notation is not read.
use Rattle.std.specs.Prelude.{List, [], ◌∷◌, drop, Bool, true, false, ◌&&◌, ◌||◌, if◌then◌else◌, Option, Some, None}
use Rattle.std.specs.Option.{option_map, option_and_then}
use Rattle.asn_lexer.specs.declared.keyword.Keyword.TheVariants as keyword
use Rattle.asn_lexer.specs.declared.kind.Initial.TheVariants.{Capital}
use Rattle.asn_lexer.specs.declared.kind.Kind.{Kind}
use Rattle.asn_lexer.specs.declared.kind.Kind.TheVariants as kind
use Rattle.asn_lexer.specs.declared.token.Token.{Token}
use Rattle.asn_modules_grammar.specs.headers.Fronts.{first_is, is_name}
use Rattle.asn_modules_grammar.specs.notation.Kinds.{past, is_assignment, is_identifier, is_number, is_small, is_syntax, is_word}
use Rattle.asn_modules_grammar.specs.notation.Notation.{Notation, notation, leaf, reference}
use Rattle.asn_modules_grammar.specs.notation.Values.{value_at}
use Rattle.asn_modules_grammar.specs.declared.notation.leaf.Closed.TheVariants.{Macro}
use Rattle.asn_modules_grammar.specs.declared.notation.leaf.Leaf.TheVariants.{Closed}
use Rattle.asn_modules_grammar.specs.declared.notation.value.Value.{Value}
use Rattle.asn_modules_grammar.specs.declared.notation.value.Value.TheVariants.{Other}

-- A name that begins with a capital letter, as that of a macro does (X.208, Annex A).
abbrev pub is_capital : Kind → Bool
is_capital (kind.Name Capital) = true
is_capital k = false

abbrev pub is_macro : Kind → Bool
is_macro (kind.Reserved keyword.Macro) = true
is_macro k = false

abbrev pub is_begin : Kind → Bool
is_begin (kind.Reserved keyword.Begin) = true
is_begin k = false

abbrev pub is_end : Kind → Bool
is_end (kind.Reserved keyword.End) = true
is_end k = false

abbrev pub is_object : Kind → Bool
is_object (kind.Reserved keyword.Object) = true
is_object k = false

abbrev pub is_cstring : Kind → Bool
is_cstring kind.Cstring = true
is_cstring k = false

-- What follows END, which may stand after any other tokens.
abbrev pub past_end : List Token → Option (List Token)
past_end [] = None
past_end (t ∷ u) = if is_end t.kind then Some u else past_end u

-- What follows the definition of a macro after its MACRO: `::=`, and BEGIN to END (X.208, A.2).
abbrev pub past_definition : List Token → Option (List Token)
past_definition u =
    option_and_then past_end (option_and_then (past is_begin) (past is_assignment u))

-- A macro has no values.
abbrev pub macro_type : Notation
macro_type = notation [] (leaf (Closed Macro)) []

-- The type that a macro's notation states, as far as it is known: that of the macro's name.
abbrev pub macro_named : Token → Notation
macro_named t = notation [] (reference None t) []

-- A word that a macro's notation has after its name. After the name of a type only SIZE may stand
-- there, before the assignment is done.
abbrev pub opens_clause : Kind → Bool
opens_clause (kind.Name Capital) = true
opens_clause (kind.Reserved keyword.Size) = false
opens_clause (kind.Reserved k) = true
opens_clause k = false

-- What follows the clauses of a macro's notation and the `::=` after them. The module doesn't end
-- before.
abbrev pub past_clauses : List Token → Option (List Token)
past_clauses [] = None
past_clauses (t ∷ u) =
    if is_assignment t.kind then Some u else if is_end t.kind then None else past_clauses u

-- A name and a number stand here: an alternative of a CHOICE and its value, as X.208 has it,
-- without `:`.
abbrev pub begins_numbered : List Token → Bool
begins_numbered (t ∷ n ∷ u) = is_name t.kind && is_number n.kind
begins_numbered u = false

-- What a value is whose first token this is and whose second one is its last, and what follows it.
abbrev pub numbered_at : List Token → Option (Value × List Token)
numbered_at [] = None
numbered_at (t ∷ u) = Some (Other t, drop 1 u)

-- The value that is assigned after `::=`, and what follows it.
abbrev pub assigned_value_at : List Token → Option (Value × List Token)
assigned_value_at u = if begins_numbered u then numbered_at u else value_at u

-- What is assigned to this name after the clauses of a macro's notation, as far as it is known: a
-- value of any type stands after `::=`.
abbrev pub macro_value_at : Token → List Token → Option (Value × List Token)
macro_value_at name u =
    option_map (λ p. (Other name, p.1)) (option_and_then assigned_value_at (past_clauses u))

-- In a type a clause of a macro begins here: a word, and a string or two words. Where no macro's
-- notation goes on, an assignment begins with a word.
abbrev pub begins_clause : List Token → Bool
begins_clause (a ∷ b ∷ c ∷ u) =
    is_capital a.kind
    && (is_cstring b.kind || (is_name b.kind && (is_name c.kind || opens_clause c.kind)))
begins_clause u = false

-- A type, or a macro, is assigned here to a name.
abbrev pub begins_type_assigned : List Token → Bool
begins_type_assigned (t ∷ a ∷ u) = is_name t.kind && (is_assignment a.kind || is_macro a.kind)
begins_type_assigned u = false

-- A value is assigned here to a name, and its type is one word.
abbrev pub begins_value_assigned : List Token → Bool
begins_value_assigned (t ∷ w ∷ a ∷ u) = is_small t.kind && (is_word w.kind && is_assignment a.kind)
begins_value_assigned u = false

-- An OBJECT IDENTIFIER is assigned here to a name.
abbrev pub begins_identifier_assigned : List Token → Bool
begins_identifier_assigned (t ∷ o ∷ i ∷ a ∷ u) =
    is_small t.kind && (is_object o.kind && (is_identifier i.kind && is_assignment a.kind))
begins_identifier_assigned u = false

-- An assignment begins here, after the clauses of a macro.
abbrev pub begins_assigned : List Token → Bool
begins_assigned u =
    begins_type_assigned u || (begins_value_assigned u || begins_identifier_assigned u)

-- SYNTAX, with the type after it, or END stands here, or an assignment begins.
abbrev pub ends_clauses : List Token → Bool
ends_clauses u = first_is is_syntax u || (first_is is_end u || begins_assigned u)

-- The tokens from the first place on where the clauses of a macro end in a type.
abbrev pub behind_clauses : List Token → List Token
behind_clauses [] = []
behind_clauses (t ∷ u) = if ends_clauses (t ∷ u) then t ∷ u else behind_clauses u

-- Where the clauses end after the name of a macro, if that stands here with clauses after it.
abbrev pub clauses_at : List Token → Option (List Token)
clauses_at [] = None
clauses_at (t ∷ u) = if is_capital t.kind && begins_clause u then Some (behind_clauses u) else None
