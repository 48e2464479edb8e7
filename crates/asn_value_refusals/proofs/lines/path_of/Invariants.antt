use Rattle.std.proofs.Common.{◌≡◌, ◌++◌, codes, string_bytes, take}
use Rattle.std.specs.List.{flat_map}
use Rattle.asn_value_refusals.specs.Lines.{step_text}
use Rattle.asn_value_refusals.proofs.lines.path_of.Given as goal

abbrev pub invariant-loop-step : goal.invariant-loop-step
invariant-loop-step l = string_bytes l.text ≡ string_bytes l.initial.text ++ flat_map (step_text (codes ".")) (take l.step-index l.others)
