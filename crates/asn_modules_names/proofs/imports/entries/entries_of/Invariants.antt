use Rattle.std.proofs.Common.{◌≡◌, ◌++◌, map}
use Rattle.asn_modules_names.specs.imports.Tables.{names_of}
use Rattle.asn_modules_names.proofs.imports.Listing.{names_from}
use Rattle.asn_modules_names.proofs.imports.entries.entries_of.Given as goal
use Rattle.asn_modules_names.specs.lookup.Views.{entry_view}

abbrev pub invariant-loop-number : goal.invariant-loop-number
invariant-loop-number l = names_from (names_of l.listed) l.homes 0 ≡ map entry_view l.entries.items ++ names_from (names_of l.listed) l.homes l.number
