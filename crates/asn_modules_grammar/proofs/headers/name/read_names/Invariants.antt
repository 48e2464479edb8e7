use Rattle.std.proofs.Common.{◌≡◌, ◌++◌, length}
use Rattle.std.specs.Option.{option_map}
use Rattle.asn_modules_grammar.specs.headers.Headers.{names_at}
use Rattle.asn_modules_grammar.proofs.headers.name.read_names.Given as goal

abbrev pub invariant-names : goal.invariant-names
invariant-names l = names_at l.tokens ≡ option_map (λ p. (l.names.items ++ p.0, p.1)) (names_at l.rest)

abbrev pub decreases-names : goal.decreases-names
decreases-names l = length l.rest
