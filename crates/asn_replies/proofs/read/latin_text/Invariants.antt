use Rattle.std.proofs.Common.{◌≡◌, ◌++◌, drop}
use Rattle.std.specs.Str.{encode_utf8_all}
use Rattle.std.specs.Prelude.{string_bytes}
use Rattle.asn_replies.proofs.read.latin_text.Given as goal

abbrev pub invariant-loop-byte : goal.invariant-loop-byte
invariant-loop-byte l = encode_utf8_all l.bytes ≡ string_bytes l.text ++ encode_utf8_all (drop l.byte-index l.bytes)
