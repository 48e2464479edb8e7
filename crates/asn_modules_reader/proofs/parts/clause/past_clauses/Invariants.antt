use Rattle.std.proofs.Common.{◌≡◌, ◌≤◌, length}
use Rattle.asn_modules_grammar.specs.notation.Macros.{past_clauses}
use Rattle.asn_modules_reader.proofs.parts.clause.past_clauses.Given as goal

abbrev pub invariant-tokens : goal.invariant-tokens
invariant-tokens l = (past_clauses l.tokens ≡ past_clauses l.rest) × (length l.rest ≤ length l.tokens)

abbrev pub decreases-tokens : goal.decreases-tokens
decreases-tokens l = length l.rest
