use Rattle.avn_rules.proofs.Opened.{taken_held, passes}
use Rattle.avn_rules.proofs.avn.de.DecoderDecoder.pass.Goals as goal

pub invariant_of-self : goal.invariant_of-self
invariant_of-self c = taken_held c.self.inside.table c.self.inside.pending c.take-slot.new.self c.take-slot.result c.take-slot.ensures c.self.invariant

pub returns : goal.returns
returns c = passes _ _ _ c.self.view_is c.take-slot.result _ c.take-slot.ensures
