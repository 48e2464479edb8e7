use Rattle.std.proofs.Common.{◌≡◌, ◌++◌, map, drop}
use Rattle.asn_modules_names.specs.Mentions.{mention_view, source_view}
use Rattle.asn_modules_names.proofs.Naming.{headings}
use Rattle.asn_modules_names.proofs.headed.add_names.Given as goal

abbrev pub invariant-loop-parsed : goal.invariant-loop-parsed
invariant-loop-parsed l =
    map mention_view l.fn.names.items ++ headings (source_view l.source) l.modules ≡ map mention_view l.names.items ++ headings (source_view l.source) (drop l.parsed-index l.modules)
