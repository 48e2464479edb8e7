use Rattle.std.proofs.Common.{◌≡◌, ◌++◌, map}
use Rattle.asn_modules_types.specs.named_numbers.Views.{entry_view}
use Rattle.asn_modules_types.proofs.named_numbers.Listing.{entries_from}
use Rattle.asn_modules_types.proofs.named_numbers.entries.entries_of.Given as goal

abbrev pub invariant-loop-number : goal.invariant-loop-number
invariant-loop-number l = entries_from l.types 0 ≡ map entry_view l.entries.items ++ entries_from l.types l.number
