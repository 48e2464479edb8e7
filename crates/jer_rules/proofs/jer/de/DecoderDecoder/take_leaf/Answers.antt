use Rattle.std.proofs.Common.{refl}
use Rattle.asn_core.specs.declared.codec.Codec.TheVariants.{Jer}
use Rattle.asn_coding.proofs.LeafValues.{taken}
use Rattle.asn_coding.proofs.Refusing.{absent}
use Rattle.jer_rules.proofs.jer.de.DecoderDecoder.take_leaf.Goals as goal

pub returns-in_default : goal.returns-in_default
returns-in_default c = λ s is. absent s _ Jer _ c.in_default.ensures refl c.end_of_input.ensures

pub returns-in-Ok : goal.returns-in-Ok
returns-in-Ok c = taken _ _ _ _ c.in-Some.ensures c.in-Ok.ensures

pub returns : goal.returns
returns c = λ s is. rw c.in-Some.ensures (c.refusal_of_leaf.ensures _ c.in-Err.ensures s is)
