use Rattle.std.proofs.Common.{◌≡◌, ◌++◌, ◌≤◌, ◌+◌, [], None, reverse, length}
use Rattle.std.specs.Prelude.{vec_len, vec_capacity}
use Rattle.asn_slots.specs.Pending.{slots_of}
use Rattle.asn_slots.proofs.pending.Pending.put_all.Given as goal

-- The slots that are left stand before those that were put, there is room for them, and none is read before them.
abbrev pub invariant-loop-slot : goal.invariant-loop-slot
invariant-loop-slot g l = record {
  slots : l.slots.items ++ slots_of (reverse l.self-inside.runs.items) ≡ l.fn.slots.items ++ l.fn.self;
  room : vec_len l.self-inside.runs + vec_len l.slots ≤ vec_capacity l.self-inside.runs;
  first : l.self-inside.first ≡ None;
  later : l.self-inside.later.items ≡ [];
}

abbrev pub decreases-loop-slot : goal.decreases-loop-slot
decreases-loop-slot g l = length l.slots.items
