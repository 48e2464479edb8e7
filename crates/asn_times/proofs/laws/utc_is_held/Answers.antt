use Rattle.std.proofs.Common.{◌≡◌, subst, true}
use Rattle.asn_times.specs.Held.{is_held_second}
use Rattle.asn_times.proofs.laws.utc_is_held.Goals as goal

pub returns : goal.returns
returns c = subst (λ n. is_held_second n ≡ true) c.seconds-seconds.ensures.value c.seconds-seconds.ensures.held
