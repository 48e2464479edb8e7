-- The kinds that decide what stands in a text.
use Rattle.std.specs.Prelude.{List, [], ◌∷◌, drop, Bool, true, false, ◌&&◌, ◌||◌, if◌then◌else◌, Option, Some, None}
use Rattle.std.specs.Option.{option_map}
use Rattle.asn_lexer.specs.declared.keyword.Keyword.TheVariants as keyword
use Rattle.asn_lexer.specs.declared.kind.Initial.TheVariants.{Small}
use Rattle.asn_lexer.specs.declared.kind.Kind.{Kind}
use Rattle.asn_lexer.specs.declared.kind.Kind.TheVariants as kind
use Rattle.asn_lexer.specs.declared.token.Token.{Token}
use Rattle.asn_modules_grammar.specs.headers.Fronts.{first_of, first_is, is_name}

-- The kind of the first token, if there is one.
abbrev pub first_kind : List Token → Option Kind
first_kind u = option_map (λ t. t.kind) (first_of u)

-- What follows the first token, where that passes.
abbrev pub past : (Kind → Bool) → List Token → Option (List Token)
past p u = if first_is p u then Some (drop 1 u) else None

-- The first token where it passes, and what follows it.
abbrev pub token_at : (Kind → Bool) → List Token → Option (Token × List Token)
token_at p [] = None
token_at p (t ∷ u) = if p t.kind then Some (t, u) else None

-- A name, and what follows it.
abbrev pub name_at : List Token → Option (Token × List Token)
name_at = token_at is_name

-- A word, reserved or not.
abbrev pub is_word : Kind → Bool
is_word (kind.Name initial) = true
is_word (kind.Reserved k) = true
is_word k = false

-- A name that begins with a small letter: that of a value, an object, a component or an element
-- (X.680, sections 12.3 and 12.4). A type's begins with a capital letter (12.2).
abbrev pub is_small : Kind → Bool
is_small (kind.Name Small) = true
is_small k = false

-- A word that names a component: COMPONENTS begins COMPONENTS OF.
abbrev pub is_component_word : Kind → Bool
is_component_word (kind.Reserved keyword.Components) = false
is_component_word k = is_word k

-- What stands for a number that isn't negative.
abbrev pub is_number_or_name : Kind → Bool
is_number_or_name kind.Number = true
is_number_or_name (kind.Name initial) = true
is_number_or_name k = false

abbrev pub is_number : Kind → Bool
is_number kind.Number = true
is_number k = false

abbrev pub is_open_brace : Kind → Bool
is_open_brace kind.OpenBrace = true
is_open_brace k = false

abbrev pub is_open_paren : Kind → Bool
is_open_paren kind.OpenParen = true
is_open_paren k = false

abbrev pub is_close_paren : Kind → Bool
is_close_paren kind.CloseParen = true
is_close_paren k = false

abbrev pub is_open_bracket : Kind → Bool
is_open_bracket kind.OpenBracket = true
is_open_bracket k = false

abbrev pub is_close_bracket : Kind → Bool
is_close_bracket kind.CloseBracket = true
is_close_bracket k = false

abbrev pub is_close_brace : Kind → Bool
is_close_brace kind.CloseBrace = true
is_close_brace k = false

abbrev pub is_ampersand : Kind → Bool
is_ampersand kind.Ampersand = true
is_ampersand k = false

abbrev pub is_with : Kind → Bool
is_with (kind.Reserved keyword.With) = true
is_with k = false

abbrev pub is_syntax : Kind → Bool
is_syntax (kind.Reserved keyword.Syntax) = true
is_syntax k = false

-- What names an object class after INSTANCE OF.
abbrev pub is_class_word : Kind → Bool
is_class_word (kind.Name initial) = true
is_class_word (kind.Reserved keyword.TypeIdentifier) = true
is_class_word k = false

abbrev pub is_colon : Kind → Bool
is_colon kind.Colon = true
is_colon k = false

abbrev pub is_point : Kind → Bool
is_point kind.Point = true
is_point k = false

abbrev pub is_range : Kind → Bool
is_range kind.Range = true
is_range k = false

abbrev pub is_definitions : Kind → Bool
is_definitions (kind.Reserved keyword.Definitions) = true
is_definitions k = false

abbrev pub is_size : Kind → Bool
is_size (kind.Reserved keyword.Size) = true
is_size k = false

abbrev pub is_of : Kind → Bool
is_of (kind.Reserved keyword.Of) = true
is_of k = false

abbrev pub is_by : Kind → Bool
is_by (kind.Reserved keyword.By) = true
is_by k = false

abbrev pub is_defined : Kind → Bool
is_defined (kind.Reserved keyword.Defined) = true
is_defined k = false

abbrev pub is_string : Kind → Bool
is_string (kind.Reserved keyword.String) = true
is_string k = false

abbrev pub is_identifier : Kind → Bool
is_identifier (kind.Reserved keyword.Identifier) = true
is_identifier k = false

abbrev pub is_pdv : Kind → Bool
is_pdv (kind.Reserved keyword.Pdv) = true
is_pdv k = false

abbrev pub is_assignment : Kind → Bool
is_assignment kind.Assignment = true
is_assignment k = false

abbrev pub is_universal : Kind → Bool
is_universal (kind.Reserved keyword.Universal) = true
is_universal k = false

-- The word of a type of character strings.
abbrev pub is_string_type : Kind → Bool
is_string_type (kind.Reserved keyword.Utf8String) = true
is_string_type (kind.Reserved keyword.NumericString) = true
is_string_type (kind.Reserved keyword.PrintableString) = true
is_string_type (kind.Reserved keyword.VisibleString) = true
is_string_type (kind.Reserved keyword.Ia5String) = true
is_string_type (kind.Reserved keyword.GeneralString) = true
is_string_type (kind.Reserved keyword.GraphicString) = true
is_string_type (kind.Reserved keyword.BmpString) = true
is_string_type (kind.Reserved keyword.UniversalString) = true
is_string_type (kind.Reserved keyword.Iso646String) = true
is_string_type (kind.Reserved keyword.TeletexString) = true
is_string_type (kind.Reserved keyword.T61String) = true
is_string_type k = false

-- A type with a universal tag is assigned here.
abbrev pub assigns_universal : List Token → Bool
assigns_universal (a ∷ b ∷ c ∷ u) =
    is_assignment a.kind && (is_open_bracket b.kind && is_universal c.kind)
assigns_universal u = false

-- What something is assigned to, and what follows it: a name; or the word of a type of character
-- strings, to which modules assign what is built in, by its universal tag.
abbrev pub assigned_at : List Token → Option (Token × List Token)
assigned_at [] = None
assigned_at (t ∷ u) =
    if is_name t.kind || (is_string_type t.kind && assigns_universal u) then Some (t, u) else None
