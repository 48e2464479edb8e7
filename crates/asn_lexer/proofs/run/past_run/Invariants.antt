use Rattle.std.proofs.Common.{◌≡◌, ◌≤◌, drop, length, ◌-◌}
use Rattle.avn_grammar.specs.Chars.{skip_while}
use Rattle.asn_lexer.specs.Runs.{passes}
use Rattle.asn_lexer.proofs.run.past_run.Given as goal

abbrev pub invariant-loop-place : goal.invariant-loop-place
invariant-loop-place l = (l.place ≤ length l.text) × (skip_while (passes l.run) (drop l.place l.text) ≡ skip_while (passes l.run) l.text)

abbrev pub decreases-loop-place : goal.decreases-loop-place
decreases-loop-place l = length l.text - l.place
