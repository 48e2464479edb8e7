use Rattle.std.proofs.Common.{◌≡◌, map}
use Rattle.asn_modules.specs.Missing.{missing_view}
use Rattle.asn_modules.proofs.Absent.{missing_before}
use Rattle.asn_modules.proofs.missing.each_missing.Given as goal

abbrev pub invariant-loop-name : goal.invariant-loop-name
invariant-loop-name l = map missing_view l.missing.items ≡ missing_before l.names l.name-index
