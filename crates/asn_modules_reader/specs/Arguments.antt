-- Actual parameters of a type, as a reader returns them.
use Rattle.std.specs.Prelude.{ℕ, ◌≡◌, List, map, Option}
use Rattle.std.specs.Global.{Vec}
use Rattle.std.specs.Option.{option_map}
use Rattle.asn_lexer.specs.declared.token.Token.{Token}
use Rattle.asn_modules_grammar.specs.notation.Grammar.{ArgumentsParse}
use Rattle.asn_modules_grammar.specs.notation.Notation as spec
use Rattle.asn_modules_grammar.specs.notation.View.{notation_view}
use Rattle.asn_modules_grammar.specs.declared.notation.notation.Notation.{Notation}

-- The types that were read, if all are types.
abbrev pub arguments_view : Option (Vec Notation) → Option (List spec.Notation)
arguments_view = option_map (λ ns. map notation_view ns.items)

-- Looked for at the level, actual parameters stand at the front of the tokens, which are these
-- types, or not all types.
abbrev pub AreArguments : ℕ → ℕ → List Token → Option (List spec.Notation) → List Token → Type 0
AreArguments limit level u found rest =
    (ns : List (Option spec.Notation)) × ArgumentsParse limit level u ns rest
    × (found ≡ spec.all_types ns)
