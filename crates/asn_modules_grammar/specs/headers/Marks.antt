-- The tokens that divide the parts of a header.
use Rattle.std.specs.Prelude.{Bool, true, false}
use Rattle.asn_lexer.specs.declared.keyword.Keyword.TheVariants as keyword
use Rattle.asn_lexer.specs.declared.kind.Kind.{Kind}
use Rattle.asn_lexer.specs.declared.kind.Kind.TheVariants as kind
use Rattle.asn_modules_grammar.specs.declared.headers.mark.Mark.{Mark}
use Rattle.asn_modules_grammar.specs.declared.headers.mark.Mark.TheVariants as mark

-- The token of the kind is this one.
abbrev pub is_mark : Mark → Kind → Bool
is_mark mark.Exports (kind.Reserved keyword.Exports) = true
is_mark mark.All (kind.Reserved keyword.All) = true
is_mark mark.Imports (kind.Reserved keyword.Imports) = true
is_mark mark.From (kind.Reserved keyword.From) = true
is_mark mark.With (kind.Reserved keyword.With) = true
is_mark mark.Successors (kind.Reserved keyword.Successors) = true
is_mark mark.Descendants (kind.Reserved keyword.Descendants) = true
is_mark mark.Definitions (kind.Reserved keyword.Definitions) = true
is_mark mark.Assignment kind.Assignment = true
is_mark mark.Begin (kind.Reserved keyword.Begin) = true
is_mark mark.Comma kind.Comma = true
is_mark mark.Semicolon kind.Semicolon = true
is_mark m k = false
