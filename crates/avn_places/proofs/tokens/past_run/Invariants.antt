use Rattle.std.proofs.Common.{◌≡◌, ◌≤◌, ◌-◌, drop, length, IsCharBoundary}
use Rattle.avn_grammar.specs.Chars.{skip_while}
use Rattle.avn_places.specs.Tokens.{passes}
use Rattle.avn_places.proofs.tokens.past_run.Given as goal

abbrev pub invariant-loop-place : goal.invariant-loop-place
invariant-loop-place l = (l.place ≤ length l.bytes) × (skip_while (passes l.run) (drop l.place l.bytes) ≡ skip_while (passes l.run) l.bytes) × IsCharBoundary l.bytes l.place

abbrev pub decreases-loop-place : goal.decreases-loop-place
decreases-loop-place l = length l.bytes - l.place
