use Rattle.std.proofs.Common.{◌≡◌, ◌≤◌, length}
use Rattle.asn_modules_grammar.specs.notation.Classes.{past_fields}
use Rattle.asn_modules_reader.proofs.parts.class.past_fields.Given as goal

abbrev pub invariant-fields : goal.invariant-fields
invariant-fields l = (past_fields l.tokens ≡ past_fields l.rest) × (length l.rest ≤ length l.tokens)

abbrev pub decreases-fields : goal.decreases-fields
decreases-fields l = length l.rest
