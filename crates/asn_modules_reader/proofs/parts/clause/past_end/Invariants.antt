use Rattle.std.proofs.Common.{◌≡◌, ◌≤◌, length}
use Rattle.asn_modules_grammar.specs.notation.Macros.{past_end}
use Rattle.asn_modules_reader.proofs.parts.clause.past_end.Given as goal

abbrev pub invariant-tokens : goal.invariant-tokens
invariant-tokens l = (past_end l.tokens ≡ past_end l.rest) × (length l.rest ≤ length l.tokens)

abbrev pub decreases-tokens : goal.decreases-tokens
decreases-tokens l = length l.rest
