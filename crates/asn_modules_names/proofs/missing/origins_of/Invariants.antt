use Rattle.std.proofs.Common.{◌≡◌, ◌++◌, map}
use Rattle.asn_modules_names.specs.Mentions.{mention_view}
use Rattle.asn_modules_names.proofs.Origins.{origins_from}
use Rattle.asn_modules_names.proofs.missing.origins_of.Given as goal

abbrev pub invariant-loop-home : goal.invariant-loop-home
invariant-loop-home l = origins_from l.homes 0 ≡ map mention_view l.origins.items ++ origins_from l.homes l.home-index
