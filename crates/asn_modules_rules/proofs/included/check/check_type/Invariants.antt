use Rattle.std.proofs.Common.{◌≡◌, List, drop, map}
use Rattle.asn_modules_rules.specs.included.TooLarge.{Counted}
use Rattle.asn_modules_rules.specs.included.Types.{type_view}
use Rattle.asn_modules_rules.proofs.included.Telling.{told_from}
use Rattle.asn_modules_names.specs.lookup.Indexes.{IsIndexOf}
use Rattle.asn_modules_names.specs.declared.lookup.sort.Sort.TheVariants.{Types}
use Rattle.asn_modules_names.specs.Mentions.{Source}
use Rattle.asn_modules_rules.proofs.included.check.check_type.Given as goal

abbrev pub invariant-loop-name : goal.invariant-loop-name
invariant-loop-name l = (ss : List Source) → IsIndexOf Types ss l.scope.index.now → (others : List Counted)
    → told_from ss (map type_view l.scope.types.now) (type_view l.within) others l.names l.left ≡ told_from ss (map type_view l.scope.types.now) (type_view l.within) others (drop l.name-index l.names) l.rest
