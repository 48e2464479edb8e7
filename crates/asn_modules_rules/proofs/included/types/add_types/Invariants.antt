use Rattle.std.proofs.Common.{◌≡◌, ◌++◌, List, map, drop}
use Rattle.asn_modules_rules.specs.included.Types.{type_view}
use Rattle.asn_modules_names.specs.lookup.Homes.{home_view}
use Rattle.asn_modules_names.specs.lookup.Indexes.{IsIndexOf}
use Rattle.asn_modules_names.specs.declared.lookup.sort.Sort.TheVariants.{Types}
use Rattle.asn_modules_names.specs.Mentions.{Source}
use Rattle.asn_modules_rules.proofs.included.Listing.{listed}
use Rattle.asn_modules_rules.proofs.included.types.add_types.Given as goal

abbrev pub invariant-loop-assignment : goal.invariant-loop-assignment
invariant-loop-assignment l = (ss : List Source) → IsIndexOf Types ss l.index
    → map type_view l.fn.types.items ++ listed ss l.number (home_view l.home) l.assignments ≡ map type_view l.types.items ++ listed ss l.number (home_view l.home) (drop l.assignment-index l.assignments)
