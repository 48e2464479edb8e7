use Rattle.std.proofs.Common.{◌≡◌, map, string_bytes, take}
use Rattle.std.specs.List.{flat_map}
use Rattle.asn_version_reports.specs.Valueless.{uncompared_line}
use Rattle.asn_version_reports.proofs.uncompared.lines_on_parts.Given as goal

-- There is a line for each of the parts so far.
abbrev pub invariant-loop-part : goal.invariant-loop-part
invariant-loop-part l = string_bytes l.lines ≡ flat_map uncompared_line (map string_bytes (take l.part-index l.parts))
