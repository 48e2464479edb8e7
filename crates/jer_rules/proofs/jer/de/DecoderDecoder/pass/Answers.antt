use Rattle.asn_slots.proofs.Trees.{dropped}
use Rattle.jer_rules.specs.Pending.{tree_of}
use Rattle.jer_rules.proofs.jer.de.DecoderDecoder.pass.Goals as goal

pub returns : goal.returns
returns c = dropped tree_of c.take-slot.result _ _ c.take-slot.ensures
