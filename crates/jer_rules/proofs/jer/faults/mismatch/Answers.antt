use Rattle.std.proofs.Common.{refl}
use Rattle.asn_core.specs.declared.codec.Codec.TheVariants.{Jer}
use Rattle.asn_traits.specs.Leaf.{IsFailureOf}
use Rattle.asn_coding.proofs.Refusing.{at_no_field}
use Rattle.jer_rules.proofs.jer.faults.mismatch.Goals as goal

pub returns-in-Ok : goal.returns-in-Ok
returns-in-Ok c = at_no_field _ Jer _ c.jer_error.ensures refl (refl, IsFailureOf.is_mismatch _ _ c.in-Ok.ensures.text)
