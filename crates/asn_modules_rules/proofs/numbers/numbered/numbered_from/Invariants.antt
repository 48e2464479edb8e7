use Rattle.std.proofs.Common.{◌≡◌, ◌++◌, ◌≤ℤ◌, ◌^◌, ℤ, pos, List, Some, drop, length}
use Rattle.asn_modules_rules.specs.numbers.Numbered.{Holds, if_small, numbered_from}
use Rattle.asn_modules_rules.proofs.numbers.numbered.numbered_from.Given as goal

abbrev pub invariant-loop-item : goal.invariant-loop-item
invariant-loop-item l = record {
  numbered : (numbers : List ℤ) → Holds l.taken numbers → length numbers ≡ l.count
      → if_small (numbered_from l.is_added l.text numbers (pos 0) l.items) ≡ if_small (l.found.items ++ numbered_from l.is_added l.text numbers l.next (drop l.item-index l.items));
  small : if_small l.found.items ≡ Some l.found.items;
  least : pos 0 ≤ℤ l.next;
  greatest : l.next ≤ℤ pos (2 ^ 64);
}
