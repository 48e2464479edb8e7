use Rattle.std.proofs.Common.{◌≡◌, map, drop}
use Rattle.asn_modules_names.specs.Assigned.{assigned_again, first_found}
use Rattle.asn_modules_names.specs.Mentions.{source_view}
use Rattle.asn_modules_names.proofs.assigned.check_assigned.Given as goal

abbrev pub invariant-loop-source : goal.invariant-loop-source
invariant-loop-source l = first_found assigned_again (map source_view l.sources) ≡ first_found assigned_again (map source_view (drop l.source-index l.sources))
