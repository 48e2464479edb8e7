use Rattle.std.proofs.Common.{◌≡◌, ◌++◌, List, map}
use Rattle.asn_modules_names.specs.lookup.Indexes.{IsIndexOf}
use Rattle.asn_modules_names.specs.declared.lookup.sort.Sort.TheVariants.{Values}
use Rattle.asn_modules_names.specs.Mentions.{Source}
use Rattle.asn_modules_rules.specs.values.ValueLinks.{link_view}
use Rattle.asn_modules_rules.proofs.values.Linking.{listed_from}
use Rattle.asn_modules_rules.proofs.values.links.links_of.Given as goal

abbrev pub invariant-loop-number : goal.invariant-loop-number
invariant-loop-number l = (ss : List Source) → IsIndexOf Values ss l.index → listed_from ss l.homes 0 ≡ map link_view l.links.items ++ listed_from ss l.homes l.number
