-- Values, by what stands first.
use Rattle.std.specs.Prelude.{List, [], ◌∷◌, drop, Bool, true, false, ◌&&◌, if◌then◌else◌, Option, Some, None}
use Rattle.std.specs.Option.{option_map, option_and_then}
use Rattle.asn_lexer.specs.declared.keyword.Keyword.TheVariants as keyword
use Rattle.asn_lexer.specs.declared.kind.Kind.{Kind}
use Rattle.asn_lexer.specs.declared.kind.Kind.TheVariants as kind
use Rattle.asn_lexer.specs.declared.token.Token.{Token}
use Rattle.asn_modules_grammar.specs.headers.Fronts.{first_is}
use Rattle.asn_modules_grammar.specs.headers.Groups.{past_groups}
use Rattle.asn_modules_grammar.specs.declared.headers.group.Group.TheVariants.{Braces}
use Rattle.asn_modules_grammar.specs.notation.Classes.{begins_field, past_braces, past_fields}
use Rattle.asn_modules_grammar.specs.notation.Kinds.{first_kind, name_at, is_colon, is_open_brace, is_point, is_word}
use Rattle.asn_modules_grammar.specs.notation.Numbers.{negative_at}
use Rattle.asn_modules_grammar.specs.declared.notation.notation.Presence.{Presence}
use Rattle.asn_modules_grammar.specs.declared.notation.notation.Presence.TheVariants.{Required, Optional, Default}
use Rattle.asn_modules_grammar.specs.declared.notation.value.Value.{Value}
use Rattle.asn_modules_grammar.specs.declared.notation.value.Value.TheVariants as value

-- Some other value, of which this is the first token, and what follows it.
abbrev pub other_at : Token → Option (List Token) → Option (Value × List Token)
other_at t = option_map (λ v. (value.Other t, v))

-- The value of a name, and what follows it: fields of an object and actual parameters make another.
abbrev pub named_value_at : Value → Token → List Token → Option (Value × List Token)
named_value_at x t u =
    if begins_field u then other_at t (past_fields u)
    else if first_is is_open_brace u then other_at t (past_braces u)
    else Some (x, u)

-- The value that a word begins, and what follows it: with `.` and a name after it, it is the name
-- of a module.
abbrev pub word_value_at : Token → List Token → Option (Value × List Token)
word_value_at t u =
    if begins_field u then named_value_at (value.Word t) t u
    else if first_is is_point u
    then option_and_then (λ p. named_value_at (value.Qualified t p.0) t p.1)
    (name_at (drop 1 u))
    else named_value_at (value.Word t) t u

-- What stands after this minus, by the kind of its first token, and what follows it: a number, or
-- a real number, which is some other value (X.680, section 21.6).
abbrev pub negative_by : Option Kind → Token → List Token → Option (Value × List Token)
negative_by (Some kind.RealNumber) t u = Some (value.Other t, drop 1 u)
negative_by k t u = option_map (λ p. (value.Number p.0, p.1)) (negative_at u)

-- What a value without `:` is, by the kind of its first token.
abbrev pub value_by : Kind → Token → List Token → Option (Value × List Token)
value_by kind.Number t u = Some (value.Number (record { negative = false; digits = t }), u)
value_by kind.RealNumber t u = Some (value.Other t, u)
value_by kind.Minus t u = negative_by (first_kind u) t u
value_by kind.Cstring t u = Some (value.Cstring t, u)
value_by kind.Bstring t u = Some (value.Bstring t, u)
value_by kind.Hstring t u = Some (value.Hstring t, u)
value_by (kind.Name initial) t u = word_value_at t u
value_by (kind.Reserved k) t u = word_value_at t u
value_by kind.OpenBrace t u = option_map (λ v. (value.Other t, v)) (past_groups (Braces ∷ []) u)
value_by k t u = None

-- A value, and what follows it. A word with `:` after it is the alternative of a CHOICE, whose
-- value follows.
abbrev pub value_at : List Token → Option (Value × List Token)
value_at [] = None
value_at (t ∷ []) = value_by t.kind t []
value_at (t ∷ c ∷ u) =
    if is_word t.kind && is_colon c.kind then option_map (λ p. (value.Other t, p.1)) (value_at u)
    else value_by t.kind t (c ∷ u)

-- Whether a component may be absent, by the kind of the token after its type, and what follows
-- that.
abbrev pub presence_by : Option Kind → List Token → Option (Presence × List Token)
presence_by (Some (kind.Reserved keyword.Optional)) u = Some (Optional, drop 1 u)
presence_by (Some (kind.Reserved keyword.Default)) u =
    option_map (λ p. (Default p.0, p.1)) (value_at (drop 1 u))
presence_by k u = Some (Required, u)

-- So where it may be stated; an alternative of a CHOICE may not be absent.
abbrev pub presence_at : Bool → List Token → Option (Presence × List Token)
presence_at true u = presence_by (first_kind u) u
presence_at false u = Some (Required, u)
