use Rattle.std.proofs.Common.{◌≡◌, subst, true}
use Rattle.asn_times.specs.Held.{is_held_nanosecond}
use Rattle.asn_times.proofs.laws.generalized_is_held.Goals as goal

pub returns : goal.returns
returns c = subst (λ n. is_held_nanosecond n ≡ true) c.nanoseconds-nanoseconds.ensures.value c.nanoseconds-nanoseconds.ensures.held
