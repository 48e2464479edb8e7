use Rattle.std.proofs.Common.{ap, Some}
use Rattle.avn_rules.proofs.Building.{avn_same, slot_added}
use Rattle.avn_rules.proofs.Told.{both_told}
use Rattle.avn_rules.proofs.avn.enc.EncoderEncoder.put_leaf.Goals as goal

pub returns-clause-put : goal.returns-clause-put
returns-clause-put c =
    both_told c.add_leaf.result c.in_avn.result c.in_avn.ensures.same (λ a w. record { added = λ v same. slot_added (Some v) _ _ _ (ap Some (avn_same same)) a; writable = w }) c.add_leaf.ensures.added c.add_leaf.ensures.writable
