use Rattle.std.proofs.Common.{◌≡◌, List, map, drop}
use Rattle.asn_modules_names.specs.lookup.Homes.{home_view}
use Rattle.asn_modules_names.specs.lookup.Indexes.{IsIndexOf}
use Rattle.asn_modules_names.specs.Mentions.{Source}
use Rattle.asn_modules_names.specs.references.References.{first_unknown}
use Rattle.asn_modules_names.proofs.references.check.check_references.Given as goal

abbrev pub invariant-loop-number : goal.invariant-loop-number
invariant-loop-number l = (ss : List Source) → IsIndexOf l.sort ss l.index → first_unknown l.sort ss 0 (map home_view l.homes) ≡ first_unknown l.sort ss l.number (map home_view (drop l.number l.homes))
