-- What is written so far is what is shown of the characters so far.
use Rattle.std.proofs.Common.{◌≡◌, ◌++◌, string_bytes}
use Rattle.asn_value_refusals.specs.Excerpts.{shown_text}
use Rattle.asn_value_refusals.proofs.shown.add_after.Given as goal

abbrev pub invariant-loop-character : goal.invariant-loop-character
invariant-loop-character l = string_bytes l.line ≡ string_bytes l.initial.line ++ shown_text l.yielded
