use Rattle.std.proofs.Common.{◌≡◌, subst, true}
use Rattle.asn_times.specs.Held.{is_held_day}
use Rattle.asn_times.proofs.laws.day_is_held.Goals as goal

pub returns : goal.returns
returns c = subst (λ n. is_held_day n ≡ true) c.days-days.ensures.value c.days-days.ensures.held
