use Rattle.std.proofs.Common.{string_bytes}
use Rattle.asn_types.proofs.TextLeaves.{text_taken}
use Rattle.asn_decode.proofs.decoder.Decoder.decode_text.Goals as goal

pub returns : goal.returns
returns g c =
    let t = g.T.TextType in
    let h = c.in_ok-text.ensures in
    text_taken t.shape c.text_kind.result t.value c.codec.result h.0 _ _ _ _ (string_bytes c.in-Text.text) c.of_text.result c.text_kind.ensures.of_shape c.in-Text.is h.1 h.3 (λ v o. o) c.codec.ensures c.of_text.ensures
