use Rattle.std.proofs.Common.{◌≡◌, ◌++◌, map, drop}
use Rattle.asn_modules_rules.specs.lists.Written.{written_view}
use Rattle.asn_modules_rules.proofs.lists.Collecting.{written_in_modules}
use Rattle.asn_modules_rules.proofs.lists.written.add_modules.Given as goal
use Rattle.asn_modules_names.specs.Mentions.{source_view}

abbrev pub invariant-loop-parsed : goal.invariant-loop-parsed
invariant-loop-parsed l = map written_view l.fn.found.items ++ written_in_modules (source_view l.source) l.modules ≡ map written_view l.found.items ++ written_in_modules (source_view l.source) (drop l.parsed-index l.modules)
