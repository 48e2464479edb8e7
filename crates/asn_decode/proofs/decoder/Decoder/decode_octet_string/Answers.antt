use Rattle.std.proofs.Common.{ap, refl, Ok}
use Rattle.asn_model.specs.Shape.{Shape}
use Rattle.asn_model.specs.Value.{Value}
use Rattle.asn_model.specs.declared.leaves.LeafKind.TheVariants.{Octets}
use Rattle.asn_coding.proofs.LeafValues.{leaf_decodes}
use Rattle.asn_decode.proofs.decoder.Decoder.decode_octet_string.Goals as goal

pub returns : goal.returns
returns g c =
    let h = c.in_ok-octets.ensures in
    (h.0, h.1, leaf_decodes Shape.octets Octets (Value.octets c.in-Octets.octets.items) h.0 _ _ refl c.in-Octets.is h.3 (λ v e. ap Ok e))
