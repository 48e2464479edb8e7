use Rattle.std.proofs.Common.{◌≡◌, ◌≤◌, List, length}
use Rattle.std.specs.Option.{option_map}
use Rattle.asn_lexer.specs.declared.token.Token.{Token}
use Rattle.asn_modules_grammar.specs.notation.Values.{value_at}
use Rattle.asn_modules_grammar.specs.declared.notation.value.Value.{Value}
use Rattle.asn_modules_grammar.specs.declared.notation.value.Value.TheVariants as value
use Rattle.asn_modules_reader.proofs.parts.value.read_alternative.Given as goal

abbrev pub invariant-alternatives : goal.invariant-alternatives
invariant-alternatives l =
    (option_map {U = Value × List Token} (λ p. (value.Other l.word, p.1)) (value_at l.tokens) ≡ option_map (λ p. (value.Other l.word, p.1)) (value_at l.rest)) × (length l.rest ≤ length l.tokens)

abbrev pub decreases-alternatives : goal.decreases-alternatives
decreases-alternatives l = length l.rest
