use Rattle.std.proofs.Common.{◌≡◌, ◌++◌, map}
use Rattle.asn_modules_types.specs.Known.{assigned_view}
use Rattle.asn_modules_types.proofs.Listing.{listed_from}
use Rattle.asn_modules_types.proofs.assigned.assigned_of.Given as goal

abbrev pub invariant-loop-number : goal.invariant-loop-number
invariant-loop-number l = listed_from l.sort l.homes 0 ≡ map assigned_view l.found.items ++ listed_from l.sort l.homes l.number
