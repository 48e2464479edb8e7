-- What is written so far is what is shown of the characters so far.
use Rattle.std.proofs.Common.{◌≡◌, encode_utf8_all, map, string_bytes}
use Rattle.asn_value_refusals.specs.Visible.{visible}
use Rattle.asn_value_refusals.proofs.shown.on_one_line.Given as goal

abbrev pub invariant-loop-character : goal.invariant-loop-character
invariant-loop-character l = string_bytes l.line ≡ encode_utf8_all (map visible l.yielded)
