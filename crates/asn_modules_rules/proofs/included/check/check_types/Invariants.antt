use Rattle.std.proofs.Common.{◌≡◌, List, drop, map}
use Rattle.asn_modules_rules.specs.included.TooLarge.{first_too_large_in}
use Rattle.asn_modules_rules.specs.included.Types.{type_view}
use Rattle.asn_modules_rules.proofs.included.Telling.{told_in}
use Rattle.asn_modules_names.specs.lookup.Indexes.{IsIndexOf}
use Rattle.asn_modules_names.specs.declared.lookup.sort.Sort.TheVariants.{Types}
use Rattle.asn_modules_names.specs.Mentions.{Source}
use Rattle.asn_modules_rules.proofs.included.check.check_types.Given as goal

abbrev pub invariant-loop-assigned : goal.invariant-loop-assigned
invariant-loop-assigned l = (ss : List Source) → IsIndexOf Types ss l.index
    → first_too_large_in ss (map type_view l.types) ≡ told_in ss (map type_view l.types) (drop l.assigned-index l.types) l.left
