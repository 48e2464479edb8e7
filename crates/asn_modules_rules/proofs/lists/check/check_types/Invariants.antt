use Rattle.std.proofs.Common.{◌≡◌, map, drop}
use Rattle.asn_modules_rules.specs.lists.Listed.{listed_twice}
use Rattle.asn_modules_rules.specs.lists.Written.{written_view}
use Rattle.asn_modules_rules.proofs.lists.check.check_types.Given as goal
use Rattle.asn_modules_names.specs.Assigned.{first_found}

abbrev pub invariant-loop-written : goal.invariant-loop-written
invariant-loop-written l = first_found listed_twice (map written_view l.types) ≡ first_found listed_twice (map written_view (drop l.written-index l.types))
