use Rattle.std.proofs.Common.{◌≡◌, ◌++◌, map, drop}
use Rattle.asn_modules_types.specs.named_numbers.Entries.{entries_in}
use Rattle.asn_modules_types.specs.named_numbers.Views.{entry_view}
use Rattle.asn_modules_types.proofs.named_numbers.entries.add_numbers.Given as goal

abbrev pub invariant-loop-entry : goal.invariant-loop-entry
invariant-loop-entry l = map entry_view l.fn.entries.items ++ entries_in l.number l.text l.named ≡ map entry_view l.entries.items ++ entries_in l.number l.text (drop l.entry-index l.named)
