use Rattle.std.proofs.Common.{◌≡◌, ◌++◌, string_bytes, take}
use Rattle.std.specs.List.{flat_map}
use Rattle.asn_convert.specs.Reports.{refusal_line}
use Rattle.asn_convert.proofs.report.refusals_after.Given as goal

abbrev pub invariant-loop-refusal : goal.invariant-loop-refusal
invariant-loop-refusal l = string_bytes l.lines ≡ string_bytes l.initial.lines ++ flat_map refusal_line (take l.refusal-index l.refused)
