use Rattle.std.proofs.Common.{◌≡◌, List}
use Rattle.asn_modules_names.specs.lookup.Homes.{home_view}
use Rattle.asn_modules_names.specs.lookup.Indexes.{IsIndexOf}
use Rattle.asn_modules_names.specs.declared.lookup.sort.Sort.{Sort}
use Rattle.asn_modules_names.specs.Mentions.{Source}
use Rattle.asn_modules_names.proofs.references.Unknowns.{unknown_from}
use Rattle.asn_modules_names.proofs.references.check.check_names.Given as goal

abbrev pub invariant-loop-name : goal.invariant-loop-name
invariant-loop-name l = (sort : Sort) (ss : List Source) → IsIndexOf sort ss l.index → unknown_from sort ss l.number (home_view l.home) l.names 0 ≡ unknown_from sort ss l.number (home_view l.home) l.names l.name-index
