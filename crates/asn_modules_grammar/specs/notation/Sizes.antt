-- Constraints, of which only sizes are kept (X.680, section 51.5).
use Rattle.std.specs.Prelude.{List, [], ◌∷◌, drop, Bool, true, false, if◌then◌else◌, Option, Some, None}
use Rattle.std.specs.Option.{option_map, option_and_then}
use Rattle.asn_lexer.specs.declared.keyword.Keyword.TheVariants as keyword
use Rattle.asn_lexer.specs.declared.kind.Kind.{Kind}
use Rattle.asn_lexer.specs.declared.kind.Kind.TheVariants as kind
use Rattle.asn_lexer.specs.declared.token.Token.{Token}
use Rattle.asn_modules_grammar.specs.headers.Fronts.{first_is}
use Rattle.asn_modules_grammar.specs.headers.Groups.{past_groups}
use Rattle.asn_modules_grammar.specs.declared.headers.group.Group.TheVariants.{Parens}
use Rattle.asn_modules_grammar.specs.notation.Classes.{names_value}
use Rattle.asn_modules_grammar.specs.notation.Kinds.{past, token_at, is_number_or_name, is_open_paren, is_range, is_size, is_of}
use Rattle.asn_modules_grammar.specs.notation.Lists.{Repeated}
use Rattle.asn_modules_grammar.specs.notation.Numbers.{closed}
use Rattle.asn_modules_grammar.specs.declared.notation.size.Size.{Size}

-- The size from this low end, and what follows it: `..` and a high end may.
abbrev pub size_from : Token × List Token → Option (Size × List Token)
size_from low =
    if first_is is_range low.1
    then option_map (λ high. (record { low = low.0; high = high.0 }, high.1))
    (token_at is_number_or_name (drop 1 low.1))
    else Some (record { low = low.0; high = low.0 }, low.1)

-- A size after the parenthesis that opens it, and what follows the one that closes it.
abbrev pub size_at : List Token → Option (Size × List Token)
size_at u =
    option_and_then (λ p. closed p)
    (option_and_then (λ low. size_from low) (token_at is_number_or_name u))

-- The size that is all that stands between parentheses, after the one that opens.
abbrev pub size_alone : List Token → Option Size
size_alone u =
    option_map (λ p. p.0)
    (option_and_then (λ p. closed p) (option_and_then (λ v. size_at v) (option_and_then (λ v. past is_open_paren v) (past is_size u))))

-- What stands between parentheses, and what follows it; of that the size is kept that this reads.
abbrev pub in_parens_at : (List Token → Option Size) → List Token
    → Option (Option Size × List Token)
in_parens_at size u = option_map (λ v. (size u, v)) (past_groups (Parens ∷ []) u)

-- What a constraint is, by the kind of its first token.
abbrev pub constraint_by : Kind → List Token → Option (Option Size × List Token)
constraint_by kind.OpenParen u = in_parens_at size_alone u
constraint_by (kind.Reserved keyword.Size) u =
    option_and_then (λ v. in_parens_at (λ w. option_map (λ p. p.0) (size_at w)) v)
    (past is_open_paren u)
constraint_by k u = None

-- A constraint, of which its size is kept if it is one, and what follows it.
abbrev pub constraint_at : List Token → Option (Option Size × List Token)
constraint_at [] = None
constraint_at (t ∷ u) = constraint_by t.kind u

-- A constraint begins with this token.
abbrev pub begins_constraint : Kind → Bool
begins_constraint kind.OpenParen = true
begins_constraint (kind.Reserved keyword.Size) = true
begins_constraint k = false

-- The constraints that stand here, of which there may be none, and what follows them.
abbrev pub ConstraintsParse : List Token → List (Option Size) → List Token → Type 0
ConstraintsParse = Repeated begins_constraint constraint_at

-- What follows the name of the elements, if they are named (X.680, sections 26.1 and 28.1). It
-- means nothing for a text.
abbrev pub past_element_name : List Token → List Token
past_element_name u = if names_value u then drop 1 u else u

-- What follows OF and the name of the elements.
abbrev pub past_of : List Token → Option (List Token)
past_of u = option_map (λ v. past_element_name v) (past is_of u)

-- What stands between SEQUENCE or SET and the type of its elements, by the kind of its first token,
-- and what follows it.
abbrev pub of_by : Kind → List Token → Option (List Token)
of_by (kind.Reserved keyword.Of) u = Some (past_element_name (drop 1 u))
of_by (kind.Reserved keyword.Size) u = option_and_then (λ p. past_of p.1) (constraint_at u)
of_by kind.OpenParen u = option_and_then (λ p. past_of p.1) (constraint_at u)
of_by k u = None

-- OF with an optional constraint before it and an optional name after it, and what follows them.
abbrev pub of_at : List Token → Option (List Token)
of_at [] = None
of_at (t ∷ u) = of_by t.kind (t ∷ u)
