-- The fields so far are read, in order.
use Rattle.asn_coding.specs.SetFields.{places_read}
use Rattle.asn_coding.proofs.SetReading.{SetRead}
use Rattle.asn_decode.proofs.decoder.Decoder.decode_set.Given as goal

abbrev pub invariant-loop-field : goal.invariant-loop-field
invariant-loop-field g l = SetRead g.Self.Decoder.notation g.S.SetField.number g.S.SetField.slot (places_read g.C.Constructed.fields g.C.Constructed.added) (g.Self.Decoder.pending l.initial.self) l.field-index l.answers.items (g.Self.Decoder.pending l.self)
