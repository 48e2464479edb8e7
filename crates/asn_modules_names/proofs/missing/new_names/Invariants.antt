use Rattle.std.proofs.Common.{◌≡◌, ◌++◌, map, drop}
use Rattle.asn_modules_names.specs.Mentions.{mention_view, name_of}
use Rattle.asn_modules_names.specs.Missing.{new_names}
use Rattle.asn_modules_names.proofs.Origins.{known, rest}
use Rattle.asn_modules_names.proofs.Repeating.{Knows}
use Rattle.asn_modules_names.proofs.missing.new_names.Given as goal

abbrev pub invariant-loop-name : goal.invariant-loop-name
invariant-loop-name l =
    Knows l.seen (known (map name_of (map mention_view l.known)) l.found.items)
    × (new_names (map name_of (map mention_view l.known)) (map mention_view l.names) ≡ map mention_view l.found.items ++ rest (map name_of (map mention_view l.known)) l.found.items (drop l.name-index l.names))
