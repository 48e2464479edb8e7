use Rattle.std.proofs.Common.{◌≡◌, ◌++◌, map, drop}
use Rattle.asn_modules_names.specs.Assigned.{all_module_names}
use Rattle.asn_modules_names.specs.Mentions.{mention_view, source_view}
use Rattle.asn_modules_names.proofs.headed.names_of.Given as goal

abbrev pub invariant-loop-source : goal.invariant-loop-source
invariant-loop-source l =
    all_module_names (map source_view l.sources) ≡ map mention_view l.names.items ++ all_module_names (map source_view (drop l.source-index l.sources))
