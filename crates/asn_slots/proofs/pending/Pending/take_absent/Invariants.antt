use Rattle.std.proofs.Common.{◌≡◌, length, reverse}
use Rattle.asn_slots.specs.Pending.{run_before, slots_of}
use Rattle.asn_slots.proofs.pending.Pending.take_absent.Given as goal

-- The slots are those that there were.
abbrev pub invariant-runs : goal.invariant-runs
invariant-runs g l = run_before l.self-inside.first l.self-inside.later.items (slots_of (reverse l.self-inside.runs.items)) ≡ l.fn.self

abbrev pub decreases-runs : goal.decreases-runs
decreases-runs g l = length l.self-inside.runs.items
