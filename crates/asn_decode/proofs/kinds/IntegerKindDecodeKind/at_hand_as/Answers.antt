use Rattle.std.proofs.Common.{refl, pos, Some}
use Rattle.asn_core.specs.Numbers.{signed}
use Rattle.asn_model.specs.Leaf.{codec_of}
use Rattle.asn_model.specs.Shape.{Shape}
use Rattle.asn_model.specs.Value.{Value}
use Rattle.asn_model.specs.declared.leaves.LeafKind.TheVariants.{Number}
use Rattle.asn_model.specs.declared.leaves.OwnedLeaf.{OwnedLeaf}
use Rattle.asn_coding.proofs.LeafValues.{leaf_decodes}
use Rattle.asn_decode.proofs.AtHand.{passed}
use Rattle.asn_decode.proofs.Ranges.{number_is}
use Rattle.asn_decode.proofs.kinds.IntegerKindDecodeKind.at_hand_as.Goals as goal

pub returns-in-Some-of_parts : goal.returns-in-Some-of_parts
returns-in-Some-of_parts g c =
    let i = g.I.IntegerType in
    let n = c.in-Some.number in
    let leaf = OwnedLeaf.Number (Some n) in
    let h = c.in-Some.ensures in
    let x = c.in-Some-of_parts.value in (
      h.1.0,
      passed h.1.0 _ _ h.0 h.1.1 c.pass.ensures,
      leaf_decodes (Shape.int i.LEAST (pos i.GREATEST) i.WIDTH) Number (Value.int (i.number x)) h.1.0 leaf leaf refl refl h.1.3
          (λ v e. number_is i.number i.WIDTH (codec_of g.D.Decoder.notation) v x (signed n.negative n.magnitude, e, c.in-Some-of_parts.ensures)),
    )
