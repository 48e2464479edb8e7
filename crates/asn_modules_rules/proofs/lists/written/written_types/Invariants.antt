use Rattle.std.proofs.Common.{◌≡◌, ◌++◌, map, drop}
use Rattle.asn_modules_rules.specs.lists.Written.{written_view}
use Rattle.asn_modules_rules.proofs.lists.Collecting.{written_in_texts}
use Rattle.asn_modules_rules.proofs.lists.written.written_types.Given as goal

abbrev pub invariant-loop-source : goal.invariant-loop-source
invariant-loop-source l = written_in_texts l.sources ≡ map written_view l.found.items ++ written_in_texts (drop l.source-index l.sources)
