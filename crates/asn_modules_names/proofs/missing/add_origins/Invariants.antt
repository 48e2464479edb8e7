use Rattle.std.proofs.Common.{◌≡◌, ◌++◌, map, drop}
use Rattle.asn_modules_names.specs.Mentions.{mention_view, source_view}
use Rattle.asn_modules_names.proofs.Origins.{origins}
use Rattle.asn_modules_names.proofs.missing.add_origins.Given as goal

abbrev pub invariant-loop-import : goal.invariant-loop-import
invariant-loop-import l = map mention_view l.fn.origins.items ++ origins (source_view l.source) l.imports ≡ map mention_view l.origins.items ++ origins (source_view l.source) (drop l.import-index l.imports)
