use Rattle.std.proofs.Common.{◌≡◌, map, drop}
use Rattle.asn_modules_rules.specs.lists.Written.{written_view}
use Rattle.asn_modules_names.specs.Assigned.{first_found}
use Rattle.asn_modules_rules.specs.numbers.Faults.{numbers_fault}
use Rattle.asn_modules_rules.proofs.numbers.check.check_types.Given as goal

abbrev pub invariant-loop-written : goal.invariant-loop-written
invariant-loop-written l = first_found numbers_fault (map written_view l.types) ≡ first_found numbers_fault (map written_view (drop l.written-index l.types))
