-- Values after the identifiers of alternatives.
use Rattle.std.specs.Prelude.{List, [], ◌∷◌, Option, None}
use Rattle.asn_lexer.specs.declared.token.Token.{Token}
use Rattle.asn_modules_grammar.specs.notation.Values.{value_by}
use Rattle.asn_modules_grammar.specs.declared.notation.value.Value.{Value}

-- The value that stands here where it is none of an alternative, and what follows it.
abbrev pub value_here : List Token → Option (Value × List Token)
value_here [] = None
value_here (t ∷ u) = value_by t.kind t u
