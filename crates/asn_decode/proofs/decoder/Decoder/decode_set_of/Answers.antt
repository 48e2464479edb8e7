use Rattle.std.proofs.Common.{subst}
use Rattle.asn_model.specs.DecodesTo.{DecodesTo}
use Rattle.asn_model.specs.Shape.{Shape}
use Rattle.asn_decode.proofs.Multisets.{bag-same}
use Rattle.asn_decode.proofs.decoder.Decoder.decode_set_of.Goals as goal

pub returns-in-Ok : goal.returns-in-Ok
returns-in-Ok g c =
    let h = c.in_ok-elements.ensures in
    let t = g.T.AsnType in (
      h.0,
      h.1,
      subst (DecodesTo g.Self.Decoder.notation (Shape.set_of t.shape_of) h.0) (bag-same g.T.PartialEq.eq g.met.T.Eq.laws t.value_of g.met.T.SetElement.same _ _ c.in-Ok.ensures.same) h.2,
    )
