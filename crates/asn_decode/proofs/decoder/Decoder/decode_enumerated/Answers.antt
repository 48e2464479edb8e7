use Rattle.std.proofs.Common.{refl, ◌∙◌, string_bytes}
use Rattle.asn_fault.specs.Failure.{Cause}
use Rattle.asn_model.specs.Leaf.{codec_of}
use Rattle.asn_model.specs.Shape.{Shape}
use Rattle.asn_model.specs.Value.{Value}
use Rattle.asn_model.specs.declared.leaves.LeafKind.TheVariants.{Item}
use Rattle.asn_coding.proofs.LeafValues.{leaf_decodes, leaf_refused, own_codec, item_decodes, item_refused}
use Rattle.asn_decode.proofs.decoder.Decoder.decode_enumerated.Goals as goal

pub returns-in-Some : goal.returns-in-Some
returns-in-Some g c =
    let t = g.E.Enumerated in
    let h = c.in_ok-text.ensures in
    let p = c.in-Some.ensures in
    (h.0, h.1, leaf_decodes (Shape.enum t.items t.added) Item (Value.item (t.item c.in-Some.item)) h.0 _ _ refl c.in-Item.is h.3 (λ v e. item_decodes (codec_of g.Self.Decoder.notation) t.items t.added _ _ v e (p.0 ∙ c.as_str.ensures.value) (rw c.as_str.ensures.value at p.1)))

pub returns-in-None : goal.returns-in-None
returns-in-None g c =
    let t = g.E.Enumerated in
    let n = g.Self.Decoder.notation in
    let h = c.in_ok-text.ensures in
    leaf_refused (Shape.enum t.items t.added) Item (Cause.invalid_enum_discriminant (codec_of n) (string_bytes c.in-Item.text)) _ h.0 _ _ _ _ _ refl c.in-Item.is h.1 h.3 (λ v e. item_refused (codec_of n) t.items t.added _ v e (rw c.as_str.ensures.value at c.in-None.ensures)) c.no_item.ensures (own_codec n)
