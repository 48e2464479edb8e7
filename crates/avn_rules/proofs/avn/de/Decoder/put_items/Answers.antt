use Rattle.std.proofs.Common.{sym, subst}
use Rattle.std.specs.List.{All}
use Rattle.avn_rules.specs.Pending.{IsPresent}
use Rattle.avn_rules.proofs.Opened.{put_held}
use Rattle.avn_rules.proofs.avn.de.Decoder.put_items.Goals as goal

pub invariant_of-self : goal.invariant_of-self
invariant_of-self c =
    put_held c.self.inside.table c.args.items.items c.self.inside.pending c.put_present.new.self c.put_present.result c.put_present.ensures.put c.put_present.ensures.kept
    (subst (λ d. All (IsPresent d.root) c.args.items.items) (sym c.self.view_is) c.requires) c.self.invariant
