-- Groups of tokens between braces or parentheses, which are passed over. Square brackets are no
-- groups, since two that close two may stand as one token.
use Rattle.std.specs.Prelude.{List, [], ◌∷◌, Bool, true, false, ◌||◌, if◌then◌else◌, Option, Some, None}
use Rattle.asn_lexer.specs.declared.kind.Kind.{Kind}
use Rattle.asn_lexer.specs.declared.kind.Kind.TheVariants as kind
use Rattle.asn_lexer.specs.declared.token.Token.{Token}
use Rattle.asn_modules_grammar.specs.declared.headers.group.Group.{Group}
use Rattle.asn_modules_grammar.specs.declared.headers.group.Group.TheVariants.{Braces, Parens}

-- A token of the kind opens the group.
abbrev pub opens : Group → Kind → Bool
opens Braces kind.OpenBrace = true
opens Parens kind.OpenParen = true
opens g k = false

-- A token of the kind closes the group.
abbrev pub closes : Group → Kind → Bool
closes Braces kind.CloseBrace = true
closes Parens kind.CloseParen = true
closes g k = false

-- What follows the groups that are open, the innermost first: each ends with the token that closes
-- it, and those that open within it end before.
abbrev pub past_groups : List Group → List Token → Option (List Token)
past_groups [] u = Some u
past_groups (g ∷ gs) [] = None
past_groups (g ∷ gs) (t ∷ u) =
    if opens Braces t.kind then past_groups (Braces ∷ g ∷ gs) u
    else if opens Parens t.kind then past_groups (Parens ∷ g ∷ gs) u
    else if closes g t.kind then past_groups gs u
    else if closes Braces t.kind || closes Parens t.kind then None
    else past_groups (g ∷ gs) u

-- What follows an optional group in braces.
abbrev pub past_optional_braces : List Token → Option (List Token)
past_optional_braces [] = Some []
past_optional_braces (t ∷ u) =
    if opens Braces t.kind then past_groups (Braces ∷ []) u else Some (t ∷ u)
