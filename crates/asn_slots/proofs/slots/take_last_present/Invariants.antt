use Rattle.std.proofs.Common.{◌≡◌, ◌≤◌, take, drop}
use Rattle.std.specs.Prelude.{vec_len}
use Rattle.asn_slots.specs.Slots.{last_present}
use Rattle.asn_slots.proofs.slots.take_last_present.Given as goal

-- The slots that were taken are absent.
abbrev pub invariant-taking : goal.invariant-taking
invariant-taking g l = record {
  within : l.start ≤ vec_len l.slots;
  last : last_present (drop l.start l.slots.items) ≡ last_present (drop l.start l.fn.slots.items);
  front : take l.start l.slots.items ≡ take l.start l.fn.slots.items;
}

abbrev pub decreases-taking : goal.decreases-taking
decreases-taking g l = vec_len l.slots
