use Rattle.std.proofs.Common.{refl}
use Rattle.asn_core.specs.declared.codec.Codec.TheVariants.{Avn}
use Rattle.asn_traits.specs.Leaf.{IsFailureOf}
use Rattle.asn_coding.proofs.Refusing.{at_no_field}
use Rattle.avn_rules.proofs.LeafNodes.{present_is}
use Rattle.avn_rules.proofs.avn.faults.mismatch.Goals as goal

pub returns-in-Ok : goal.returns-in-Ok
returns-in-Ok c = at_no_field _ Avn _ c.avn_error.ensures refl (refl, IsFailureOf.is_mismatch _ _ (c.in-Ok.ensures _ (present_is _ c.requires.1)))
