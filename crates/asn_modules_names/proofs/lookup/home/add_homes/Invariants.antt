use Rattle.std.proofs.Common.{◌≡◌, ◌++◌, map, drop}
use Rattle.asn_modules_names.specs.lookup.Homes.{home_view}
use Rattle.asn_modules_names.specs.Mentions.{source_view}
use Rattle.asn_modules_names.proofs.lookup.Listing.{housed}
use Rattle.asn_modules_names.proofs.lookup.home.add_homes.Given as goal

abbrev pub invariant-loop-parsed : goal.invariant-loop-parsed
invariant-loop-parsed l = map home_view l.fn.found.items ++ housed (source_view l.source) l.modules ≡ map home_view l.found.items ++ housed (source_view l.source) (drop l.parsed-index l.modules)
