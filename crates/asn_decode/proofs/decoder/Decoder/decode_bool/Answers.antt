use Rattle.std.proofs.Common.{ap, refl, Ok}
use Rattle.asn_model.specs.Shape.{Shape}
use Rattle.asn_model.specs.Value.{Value}
use Rattle.asn_model.specs.declared.leaves.LeafKind.TheVariants.{Boolean}
use Rattle.asn_coding.proofs.LeafValues.{leaf_decodes}
use Rattle.asn_decode.proofs.decoder.Decoder.decode_bool.Goals as goal

pub returns : goal.returns
returns g c =
    let h = c.in-Ok.ensures in
    (h.0, h.1, leaf_decodes Shape.boolean Boolean (Value.boolean c.in-Boolean.flag) h.0 _ _ refl c.in-Boolean.is h.3 (λ v e. ap Ok e))
