use Rattle.std.proofs.Common.{◌≡◌, ◌≤ℤ◌, ◌+ℤ◌, ◌-◌, ℤ, pos, List, length}
use Rattle.asn_modules_rules.specs.numbers.Numbered.{Holds, first_free, free_from}
use Rattle.asn_modules_rules.proofs.numbers.free.free_from.Given as goal

abbrev pub invariant-loop-step : goal.invariant-loop-step
invariant-loop-step l = record {
  free : (numbers : List ℤ) → Holds l.taken numbers → length numbers ≡ l.count → free_from numbers l.first ≡ first_free (l.count - l._step) numbers l.number;
  least : pos 0 ≤ℤ l.number;
  greatest : l.number ≤ℤ (l.first +ℤ pos l._step);
}
