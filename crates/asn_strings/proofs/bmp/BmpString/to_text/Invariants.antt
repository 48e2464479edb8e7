-- What is written so far is the text of the units so far.
use Rattle.std.proofs.Common.{◌-◌, length, string_bytes}
use Rattle.asn_strings.specs.Units.{IsTextBefore}
use Rattle.asn_strings.proofs.bmp.BmpString.to_text.Given as goal

abbrev pub invariant-loop-place : goal.invariant-loop-place
invariant-loop-place l = IsTextBefore l.units l.place (string_bytes l.text)

-- What is left of the units.
abbrev pub decreases-loop-place : goal.decreases-loop-place
decreases-loop-place l = length l.units - l.place
