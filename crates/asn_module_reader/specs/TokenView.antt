-- The token that a `Token` is.
use Rattle.std.specs.Prelude.{string_bytes}
use Rattle.asn_notation.specs.Tokens as spec
use Rattle.asn_module_reader.specs.declared.token.Token.{Token}
use Rattle.asn_module_reader.specs.declared.token.Token.TheVariants as token

-- The token that a `Token` is.
abbrev pub token_view : Token → spec.Token
token_view (token.Word word) = spec.Token.word (string_bytes word)
token_view token.Assignment = spec.Token.assignment
token_view token.OpenBrace = spec.Token.open_brace
token_view token.CloseBrace = spec.Token.close_brace
token_view token.Comma = spec.Token.comma
token_view token.Ellipsis = spec.Token.ellipsis
token_view token.End = spec.Token.end
token_view token.Unknown = spec.Token.unknown
