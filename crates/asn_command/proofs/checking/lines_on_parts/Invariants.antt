use Rattle.std.proofs.Common.{◌≡◌, map, string_bytes, take}
use Rattle.std.specs.List.{flat_map}
use Rattle.asn_command.specs.Listings.{valueless_line}
use Rattle.asn_command.proofs.checking.lines_on_parts.Given as goal

abbrev pub invariant-loop-part : goal.invariant-loop-part
invariant-loop-part l = string_bytes l.lines ≡ flat_map (valueless_line l.name) (map string_bytes (take l.part-index l.parts))
