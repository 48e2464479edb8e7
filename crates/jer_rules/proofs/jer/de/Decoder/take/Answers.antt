use Rattle.std.proofs.Common.{refl}
use Rattle.asn_core.specs.declared.codec.Codec.TheVariants.{Jer}
use Rattle.asn_coding.proofs.Refusing.{absent}
use Rattle.jer_rules.proofs.jer.de.Decoder.take.Goals as goal

pub returns-in-None : goal.returns-in-None
returns-in-None c = λ s. absent s _ Jer _ c.in-None.ensures refl c.end_of_input.ensures
