use Rattle.std.proofs.Common.{◌≡◌, ◌++◌, map}
use Rattle.asn_modules_names.specs.lookup.Views.{entry_view}
use Rattle.asn_modules_names.proofs.lookup.Listing.{headed_from}
use Rattle.asn_modules_names.proofs.lookup.entries.module_entries.Given as goal

abbrev pub invariant-loop-number : goal.invariant-loop-number
invariant-loop-number l = headed_from l.homes 0 ≡ map entry_view l.entries.items ++ headed_from l.homes l.number
