use Rattle.std.proofs.Common.{◌≡◌, ◌++◌, ◌≤◌, ◌+◌, take, drop, reverse}
use Rattle.std.specs.Prelude.{vec_len, vec_capacity}
use Rattle.asn_slots.specs.Slots.{present_of}
use Rattle.asn_slots.proofs.slots.take_present.Given as goal

-- The values of the slots that are left from the place on, and those that were taken, are all, and there is room for each slot.
abbrev pub invariant-taking : goal.invariant-taking
invariant-taking g l = record {
  within : l.start ≤ vec_len l.slots;
  present : present_of (drop l.start l.slots.items) ++ reverse l.values.items ≡ present_of (drop l.start l.fn.slots.items);
  front : take l.start l.slots.items ≡ take l.start l.fn.slots.items;
  room : vec_len l.values + vec_len l.slots ≤ vec_capacity l.values + l.start;
}

abbrev pub decreases-taking : goal.decreases-taking
decreases-taking g l = vec_len l.slots
