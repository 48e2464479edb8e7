use Rattle.avn_rules.proofs.Building.{set_closed}
use Rattle.avn_rules.proofs.Told.{told}
use Rattle.avn_rules.proofs.avn.enc.EncoderEncoder.close_set.Goals as goal

pub returns-clause-closed : goal.returns-clause-closed
returns-clause-closed c = told c.close_set.result c.in_avn.result c.in_avn.ensures.same (set_closed _ _) c.close_set.ensures
