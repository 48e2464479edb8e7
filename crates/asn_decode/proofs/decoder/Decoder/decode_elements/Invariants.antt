use Rattle.std.proofs.Common.{◌≡◌, ◌≤◌}
use Rattle.std.specs.Prelude.{vec_len, vec_capacity}
use Rattle.asn_coding.proofs.Reading.{Reading}
use Rattle.asn_decode.proofs.decoder.Decoder.decode_elements.Given as goal

-- Of the elements those that were read stand in the vector, which has room for all.
abbrev pub invariant-loop-i : goal.invariant-loop-i
invariant-loop-i g l = record {
  reading : Reading g.Self.Decoder.notation g.T.AsnType.shape_of g.T.AsnType.value_of (g.Self.Decoder.pending l.fn.self) l.items.items l.i l.count (g.Self.Decoder.pending l.self);
  filled : vec_len l.items ≡ l.i;
  room : l.count ≤ vec_capacity l.items;
}
