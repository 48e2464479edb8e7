use Rattle.std.proofs.Common.{◌≡◌, length}
use Rattle.asn_lexer.specs.Words.{past_word}
use Rattle.asn_lexer.proofs.word.past_word.Given as goal

abbrev pub invariant-loop-rest : goal.invariant-loop-rest
invariant-loop-rest l = past_word l.rest ≡ past_word l.text

abbrev pub decreases-loop-rest : goal.decreases-loop-rest
decreases-loop-rest l = length l.rest
