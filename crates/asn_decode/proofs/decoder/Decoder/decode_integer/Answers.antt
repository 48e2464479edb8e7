use Rattle.std.proofs.Common.{refl, pos, inl}
use Rattle.asn_fault.specs.Failure.{Cause}
use Rattle.asn_model.specs.Leaf.{codec_of}
use Rattle.asn_model.specs.Shape.{Shape}
use Rattle.asn_model.specs.Value.{Value}
use Rattle.asn_model.specs.declared.leaves.LeafKind.TheVariants.{Number}
use Rattle.asn_coding.proofs.LeafValues.{leaf_decodes, leaf_refused}
use Rattle.asn_decode.proofs.Ranges.{number_is, number_overflows}
use Rattle.asn_decode.proofs.decoder.Decoder.decode_integer.Goals as goal

pub returns-in-Some : goal.returns-in-Some
returns-in-Some g c =
    let i = g.I.IntegerType in
    let h = c.in-Ok.ensures in
    (h.0, h.1, leaf_decodes (Shape.int i.LEAST (pos i.GREATEST) i.WIDTH) Number (Value.int (i.number c.in-Some.value)) h.0 _ _ refl c.in-Number.is h.3 (λ v e. number_is i.number i.WIDTH (codec_of g.Self.Decoder.notation) v c.in-Some.value (c.in-Some.ensures v e)))

pub returns-in-None : goal.returns-in-None
returns-in-None g c =
    let i = g.I.IntegerType in
    let h = c.in-Ok.ensures in
    leaf_refused (Shape.int i.LEAST (pos i.GREATEST) i.WIDTH) Number (Cause.integer_overflow i.WIDTH) _ h.0 _ _ _ _ _ refl c.in-Number.is h.1 h.3 (λ v e. number_overflows i.number i.WIDTH (codec_of g.Self.Decoder.notation) v (c.in-None.ensures v e)) (rw c.WIDTH.ensures at c.integer_overflow.ensures) (inl c.codec.ensures)
