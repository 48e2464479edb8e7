-- The sizes among constraints.
use Rattle.std.specs.Prelude.{◌≡◌, List, Option}
use Rattle.asn_lexer.specs.declared.token.Token.{Token}
use Rattle.asn_modules_grammar.specs.notation.Grammar.{sizes_of}
use Rattle.asn_modules_grammar.specs.notation.Sizes.{ConstraintsParse}
use Rattle.asn_modules_grammar.specs.declared.notation.size.Size.{Size}

-- Constraints with these sizes stand at the front of the tokens, and the rest follows them.
abbrev pub SizesParse : List Token → List Size → List Token → Type 0
SizesParse u sizes rest =
    (cs : List (Option Size)) × ConstraintsParse u cs rest × (sizes ≡ sizes_of cs)
