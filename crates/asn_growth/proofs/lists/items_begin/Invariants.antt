use Rattle.std.proofs.Common.{◌≡◌, drop}
use Rattle.std.proofs.Common.{map, string_bytes}
use Rattle.std.specs.Str.{bytes_eq}
use Rattle.asn_growth.specs.Reasons.{begins}
use Rattle.asn_growth.proofs.lists.items_begin.Given as goal

-- The rest of the newer list begins with that of the older one where the lists do.
abbrev pub invariant-loop-index : goal.invariant-loop-index
invariant-loop-index l = begins bytes_eq (map string_bytes (drop l.index l.old)) (map string_bytes (drop l.index l.new)) ≡ begins bytes_eq (map string_bytes (l.old)) (map string_bytes (l.new))
