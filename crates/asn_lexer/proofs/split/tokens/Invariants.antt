use Rattle.std.proofs.Common.{◌≤◌, length}
use Rattle.asn_lexer.specs.Tokens.{Reads}
use Rattle.asn_lexer.proofs.split.tokens.Given as goal

abbrev pub invariant-loop-rest : goal.invariant-loop-rest
invariant-loop-rest l = Reads (length l.text) l.text l.tokens.items l.rest × (length l.rest ≤ length l.text)

abbrev pub decreases-loop-rest : goal.decreases-loop-rest
decreases-loop-rest l = length l.rest
