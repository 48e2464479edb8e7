use Rattle.std.proofs.Common.{◌≡◌, None, replicate}
use Rattle.avn_rules.proofs.avn.take_apart.absent_slots.Given as goal

-- So many absent slots are there.
abbrev pub invariant-loop-place : goal.invariant-loop-place
invariant-loop-place l = l.slots.items ≡ replicate l._place None
