use Rattle.std.proofs.Common.{◌≡◌, ◌++◌, map, drop}
use Rattle.asn_modules_rules.proofs.lists.listed.mentions_of.Given as goal
use Rattle.asn_modules_names.specs.Mentions.{mention_in, mention_view, source_view}

abbrev pub invariant-loop-name : goal.invariant-loop-name
invariant-loop-name l = map (mention_in (source_view l.source)) l.names ≡ map mention_view l.mentions.items ++ map (mention_in (source_view l.source)) (drop l.name-index l.names)
