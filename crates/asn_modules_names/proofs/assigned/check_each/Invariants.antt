use Rattle.std.proofs.Common.{◌≡◌, map, drop}
use Rattle.asn_modules_names.specs.Assigned.{assigned_twice, first_found}
use Rattle.asn_modules_names.specs.Mentions.{source_view}
use Rattle.asn_modules_grammar.specs.notation.View.{module_view}
use Rattle.asn_modules_names.proofs.assigned.check_each.Given as goal

abbrev pub invariant-loop-parsed : goal.invariant-loop-parsed
invariant-loop-parsed l =
    first_found (assigned_twice (source_view l.source)) (map module_view l.modules) ≡ first_found (assigned_twice (source_view l.source)) (map module_view (drop l.parsed-index l.modules))
