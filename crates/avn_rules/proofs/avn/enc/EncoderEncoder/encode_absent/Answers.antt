use Rattle.std.proofs.Common.{None, refl}
use Rattle.avn_rules.proofs.Building.{slot_added}
use Rattle.avn_rules.proofs.Told.{told}
use Rattle.avn_rules.proofs.avn.enc.EncoderEncoder.encode_absent.Goals as goal

pub returns-clause-written : goal.returns-clause-written
returns-clause-written c = told c.add_absent.result c.in_avn.result c.in_avn.ensures.same (slot_added None None _ _ refl) c.add_absent.ensures
