use Rattle.std.proofs.Common.{ap, refl, ◌∙◌, sym, Ok}
use Rattle.asn_model.specs.Shape.{Shape}
use Rattle.asn_model.specs.Value.{Value}
use Rattle.asn_model.specs.declared.leaves.LeafKind.TheVariants.{Any}
use Rattle.asn_coding.proofs.LeafValues.{leaf_decodes}
use Rattle.asn_decode.proofs.decoder.Decoder.decode_any.Goals as goal

pub returns : goal.returns
returns g c =
    let h = c.in_ok-octets.ensures in
    (h.0, h.1, leaf_decodes Shape.any Any (Value.octets c.new.result) h.0 _ _ refl c.in-Any.is h.3 (λ v e. ap Ok (e ∙ ap Value.octets (sym c.new.ensures))))
