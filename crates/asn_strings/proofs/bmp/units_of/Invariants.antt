-- The units so far are the characters so far.
use Rattle.std.proofs.Common.{◌≡◌}
use Rattle.asn_strings.proofs.bmp.units_of.Given as goal

abbrev pub invariant-loop-character : goal.invariant-loop-character
invariant-loop-character l = l.units.items ≡ l.yielded
