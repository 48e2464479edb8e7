use Rattle.std.proofs.Common.{[], ◌∷◌, ap, sym, ◌∙◌}
use Rattle.avn_rules.proofs.Told.{told}
use Rattle.avn_rules.proofs.avn.enc.EncoderEncoder.open_frame.Goals as goal

pub returns-clause-opened : goal.returns-clause-opened
returns-clause-opened c = told c.open.result c.in_avn.result c.in_avn.ensures.same (λ a fs h. ap (λ x. [] ∷ x) h ∙ sym a) c.open.ensures
