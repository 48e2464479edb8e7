use Rattle.avn_rules.proofs.Opened.{absent_held}
use Rattle.avn_rules.proofs.avn.de.DecoderDecoder.take_absent.Goals as goal

pub invariant_of-self : goal.invariant_of-self
invariant_of-self c = absent_held c.self.inside.table c.self.inside.pending c.take_absent.new.self c.take_absent.result c.take_absent.ensures c.self.invariant
