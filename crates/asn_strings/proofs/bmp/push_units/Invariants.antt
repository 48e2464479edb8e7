-- What is written so far is the text of the units so far.
use Rattle.std.proofs.Common.{string_bytes}
use Rattle.asn_strings.specs.Units.{IsTextBefore}
use Rattle.asn_strings.proofs.bmp.push_units.Given as goal

abbrev pub invariant-loop-place : goal.invariant-loop-place
invariant-loop-place l = IsTextBefore l.units l.place (string_bytes l.text)
