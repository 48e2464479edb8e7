-- Tags (X.680, section 31).
use Rattle.std.specs.Prelude.{List, drop, Option, Some, None}
use Rattle.std.specs.Option.{option_map, option_and_then}
use Rattle.asn_core.specs.declared.tag.Class.{Class}
use Rattle.asn_core.specs.declared.tag.Class.TheVariants.{Universal, Application, Context, Private}
use Rattle.asn_lexer.specs.declared.keyword.Keyword.TheVariants as keyword
use Rattle.asn_lexer.specs.declared.kind.Kind.{Kind}
use Rattle.asn_lexer.specs.declared.kind.Kind.TheVariants as kind
use Rattle.asn_lexer.specs.declared.token.Token.{Token}
use Rattle.asn_modules_grammar.specs.notation.Kinds.{first_kind, past, token_at, is_number_or_name, is_open_bracket, is_close_bracket}
use Rattle.asn_modules_grammar.specs.notation.Lists.{Repeated}
use Rattle.asn_modules_grammar.specs.declared.notation.tag.TagMode.{TagMode}
use Rattle.asn_modules_grammar.specs.declared.notation.tag.TagMode.TheVariants.{Implicit, Explicit}
use Rattle.asn_modules_grammar.specs.declared.notation.tag.TagNotation.{TagNotation}

-- The class that the first token states, and what follows it; else the class is that of the
-- context.
abbrev pub class_by : Option Kind → List Token → Class × List Token
class_by (Some (kind.Reserved keyword.Universal)) u = (Universal, drop 1 u)
class_by (Some (kind.Reserved keyword.Application)) u = (Application, drop 1 u)
class_by (Some (kind.Reserved keyword.Private)) u = (Private, drop 1 u)
class_by k u = (Context, u)

-- How the first token states that the tag is encoded, and what follows it.
abbrev pub mode_by : Option Kind → List Token → Option TagMode × List Token
mode_by (Some (kind.Reserved keyword.Implicit)) u = (Some Implicit, drop 1 u)
mode_by (Some (kind.Reserved keyword.Explicit)) u = (Some Explicit, drop 1 u)
mode_by k u = (None, u)

-- The tag of the class and number, and what follows it, by what stands after its bracket.
abbrev pub moded : Class → Token → List Token → TagNotation × List Token
moded c n u =
    (record { class = c; number = n; mode = (mode_by (first_kind u) u).0 }, (mode_by (first_kind u) u).1)

-- A tag of the class after the word of that, and what follows it.
abbrev pub numbered_at : Class × List Token → Option (TagNotation × List Token)
numbered_at c =
    option_and_then (λ n. option_map (λ v. moded c.0 n.0 v) (past is_close_bracket n.1))
    (token_at is_number_or_name c.1)

-- A tag whose bracket is the first token, and what follows it.
abbrev pub tag_at : List Token → Option (TagNotation × List Token)
tag_at u = numbered_at (class_by (first_kind (drop 1 u)) (drop 1 u))

-- The tags that stand here, of which there may be none, and what follows them.
abbrev pub TagsParse : List Token → List TagNotation → List Token → Type 0
TagsParse = Repeated is_open_bracket tag_at
