use Rattle.std.proofs.Common.{◌≡◌, ◌++◌, List, map, drop}
use Rattle.asn_modules_names.specs.lookup.Homes.{home_view}
use Rattle.asn_modules_names.specs.lookup.Indexes.{IsIndexOf}
use Rattle.asn_modules_names.specs.declared.lookup.sort.Sort.TheVariants.{Values}
use Rattle.asn_modules_names.specs.Mentions.{Source}
use Rattle.asn_modules_rules.specs.values.ValueLinks.{link_view}
use Rattle.asn_modules_rules.proofs.values.Linking.{listed}
use Rattle.asn_modules_rules.proofs.values.links.add_links.Given as goal

abbrev pub invariant-loop-assignment : goal.invariant-loop-assignment
invariant-loop-assignment l = (ss : List Source) → IsIndexOf Values ss l.index
    → map link_view l.fn.links.items ++ listed ss l.number (home_view l.home) l.assignments ≡ map link_view l.links.items ++ listed ss l.number (home_view l.home) (drop l.assignment-index l.assignments)
