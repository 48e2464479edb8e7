use Rattle.std.proofs.Common.{ap, refl, ◌∙◌, string_bytes}
use Rattle.asn_model.specs.Leaf.{codec_of, refine}
use Rattle.asn_model.specs.Shape.{Shape, Alphabet}
use Rattle.asn_model.specs.Value.{Value}
use Rattle.asn_model.specs.declared.leaves.LeafKind.TheVariants.{Text}
use Rattle.asn_model.proofs.StringFacts.{utf8_kept}
use Rattle.asn_coding.proofs.LeafValues.{leaf_decodes}
use Rattle.asn_decode.proofs.decoder.Decoder.decode_utf8_string.Goals as goal

pub returns : goal.returns
returns g c =
    let h = c.in_ok-text.ensures in
    (h.0, h.1, leaf_decodes (Shape.text Alphabet.utf8) Text (Value.text (string_bytes c.in-Text.text)) h.0 _ _ refl c.in-Text.is h.3 (λ v e. ap (refine (codec_of g.Self.Decoder.notation) (Shape.text Alphabet.utf8)) e ∙ utf8_kept (codec_of g.Self.Decoder.notation) (string_bytes c.in-Text.text)))
