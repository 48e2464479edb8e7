use Rattle.std.proofs.Common.{ap, refl, Ok}
use Rattle.asn_model.specs.Shape.{Shape}
use Rattle.asn_model.specs.Value.{Value}
use Rattle.asn_model.specs.declared.leaves.LeafKind.TheVariants.{Boolean}
use Rattle.asn_model.specs.declared.leaves.OwnedLeaf.{OwnedLeaf}
use Rattle.asn_coding.proofs.LeafValues.{leaf_decodes}
use Rattle.asn_decode.proofs.AtHand.{passed}
use Rattle.asn_decode.proofs.plain.PlainKindDecodeKindBool.at_hand_as.Goals as goal

pub returns-in-Some : goal.returns-in-Some
returns-in-Some g c =
    let leaf = OwnedLeaf.Boolean c.in-Some.flag in
    let h = c.in-Some.ensures in (
      h.1.0,
      passed h.1.0 _ _ h.0 h.1.1 c.pass.ensures,
      leaf_decodes Shape.boolean Boolean (Value.boolean c.in-Some.flag) h.1.0 leaf leaf refl refl h.1.3 (λ v e. ap Ok e),
    )
