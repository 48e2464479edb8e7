use Rattle.std.proofs.Common.{◌≡◌, ◌++◌, List, map}
use Rattle.asn_modules_rules.specs.included.Types.{type_view}
use Rattle.asn_modules_names.specs.lookup.Indexes.{IsIndexOf}
use Rattle.asn_modules_names.specs.declared.lookup.sort.Sort.TheVariants.{Types}
use Rattle.asn_modules_names.specs.Mentions.{Source}
use Rattle.asn_modules_rules.proofs.included.Listing.{listed_from}
use Rattle.asn_modules_rules.proofs.included.types.types_of.Given as goal

abbrev pub invariant-loop-number : goal.invariant-loop-number
invariant-loop-number l = (ss : List Source) → IsIndexOf Types ss l.index → listed_from ss l.homes 0 ≡ map type_view l.types.items ++ listed_from ss l.homes l.number
