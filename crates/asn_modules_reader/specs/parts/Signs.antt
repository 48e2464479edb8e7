-- Tokens that are what they always are.
use Rattle.std.specs.Prelude.{Bool, true, false}
use Rattle.asn_lexer.specs.declared.keyword.Keyword.TheVariants as keyword
use Rattle.asn_lexer.specs.declared.kind.Kind.{Kind}
use Rattle.asn_lexer.specs.declared.kind.Kind.TheVariants as kind
use Rattle.asn_modules_grammar.specs.notation.Kinds.{is_open_brace, is_close_brace, is_of, is_assignment}
use Rattle.asn_modules_reader.specs.declared.parts.sign.Sign.{Sign}
use Rattle.asn_modules_reader.specs.declared.parts.sign.Sign.TheVariants as sign

-- The kind of the token.
abbrev pub kind_of : Sign → Kind
kind_of sign.OpenBrace = kind.OpenBrace
kind_of sign.CloseBrace = kind.CloseBrace
kind_of sign.CloseVersion = kind.CloseVersion
kind_of sign.Comma = kind.Comma
kind_of sign.Assignment = kind.Assignment
kind_of sign.End = kind.Reserved keyword.End
kind_of sign.Of = kind.Reserved keyword.Of
kind_of sign.Components = kind.Reserved keyword.Components
kind_of sign.Ellipsis = kind.Ellipsis
kind_of sign.OpenVersion = kind.OpenVersion

abbrev pub is_close_version : Kind → Bool
is_close_version kind.CloseVersion = true
is_close_version k = false

abbrev pub is_comma : Kind → Bool
is_comma kind.Comma = true
is_comma k = false

abbrev pub is_end : Kind → Bool
is_end (kind.Reserved keyword.End) = true
is_end k = false

abbrev pub is_components : Kind → Bool
is_components (kind.Reserved keyword.Components) = true
is_components k = false

abbrev pub is_ellipsis : Kind → Bool
is_ellipsis kind.Ellipsis = true
is_ellipsis k = false

abbrev pub is_open_version : Kind → Bool
is_open_version kind.OpenVersion = true
is_open_version k = false

-- A token of the kind is this one.
abbrev pub is_sign : Sign → Kind → Bool
is_sign sign.OpenBrace k = is_open_brace k
is_sign sign.CloseBrace k = is_close_brace k
is_sign sign.CloseVersion k = is_close_version k
is_sign sign.Comma k = is_comma k
is_sign sign.Assignment k = is_assignment k
is_sign sign.End k = is_end k
is_sign sign.Of k = is_of k
is_sign sign.Components k = is_components k
is_sign sign.Ellipsis k = is_ellipsis k
is_sign sign.OpenVersion k = is_open_version k
