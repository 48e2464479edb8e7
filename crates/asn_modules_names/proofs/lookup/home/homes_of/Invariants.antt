use Rattle.std.proofs.Common.{◌≡◌, ◌++◌, map, drop}
use Rattle.asn_modules_names.specs.lookup.Homes.{home_view}
use Rattle.asn_modules_names.proofs.lookup.Listing.{homes_from}
use Rattle.asn_modules_names.proofs.lookup.home.homes_of.Given as goal

abbrev pub invariant-loop-source : goal.invariant-loop-source
invariant-loop-source l = homes_from l.sources ≡ map home_view l.found.items ++ homes_from (drop l.source-index l.sources)
