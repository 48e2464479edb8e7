use Rattle.std.proofs.Common.{refl}
use Rattle.asn_notation.specs.Printed.{module_text}
use Rattle.asn_notation.proofs.ReadAgain.{module_again}
use Rattle.asn_notation.proofs.laws.printed_module_is_read.Goals as goal

pub returns : goal.returns
returns c = λ limit assignments proper. module_again limit (module_text assignments) assignments refl proper
