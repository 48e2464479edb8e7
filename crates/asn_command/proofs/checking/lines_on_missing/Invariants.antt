use Rattle.std.proofs.Common.{◌≡◌, map, string_bytes, take}
use Rattle.std.specs.List.{flat_map}
use Rattle.asn_modules.specs.Missing.{missing_view}
use Rattle.asn_command.specs.Listings.{missing_line}
use Rattle.asn_command.proofs.checking.lines_on_missing.Given as goal

abbrev pub invariant-loop-missing : goal.invariant-loop-missing
invariant-loop-missing l = string_bytes l.lines ≡ flat_map missing_line (map missing_view (take l.missing-index l.modules))
