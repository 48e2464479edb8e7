use Rattle.std.proofs.Common.{◌≡◌, ◌++◌, map}
use Rattle.asn_modules_names.specs.lookup.Views.{key_view}
use Rattle.asn_modules_names.proofs.lookup.Listing.{keys_from}
use Rattle.asn_modules_names.proofs.lookup.entries.keys_of.Given as goal

abbrev pub invariant-loop-number : goal.invariant-loop-number
invariant-loop-number l = keys_from l.sort l.homes 0 ≡ map key_view l.keys.items ++ keys_from l.sort l.homes l.number
