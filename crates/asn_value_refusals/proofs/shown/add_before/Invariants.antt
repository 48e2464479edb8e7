-- What is written so far is what is shown of the characters so far, and a blank for each.
use Rattle.std.proofs.Common.{◌≡◌, ◌++◌, string_bytes}
use Rattle.asn_value_refusals.specs.Excerpts.{blanks, shown_text}
use Rattle.asn_value_refusals.proofs.shown.add_before.Given as goal

abbrev pub invariant-loop-character : goal.invariant-loop-character
invariant-loop-character l = (string_bytes l.line ≡ string_bytes l.initial.line ++ shown_text l.yielded) × (string_bytes l.caret ≡ string_bytes l.initial.caret ++ blanks l.yielded)
