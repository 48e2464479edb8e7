use Rattle.std.proofs.Common.{◌≡◌, false, drop}
use Rattle.asn_modules_types.specs.Joining.{IsFirm, whole}
use Rattle.asn_modules_types.specs.Strings.{joined}
use Rattle.asn_modules_types.proofs.lines.join_lines.Given as goal

abbrev pub invariant-loop-byte : goal.invariant-loop-byte
invariant-loop-byte l = IsFirm l.joined × (whole l.joined (drop l.byte-index l.bytes) ≡ joined false l.bytes)
