use Rattle.std.proofs.Common.{◌≡◌, drop}
use Rattle.asn_modules_rules.specs.included.Sizes.{constraint_size}
use Rattle.asn_modules_rules.proofs.sizes.Past.{past_all}
use Rattle.asn_modules_rules.proofs.included.sizes.past_constraints.Given as goal

abbrev pub invariant-loop-size : goal.invariant-loop-size
invariant-loop-size l = past_all constraint_size l.sizes l.left ≡ past_all constraint_size (drop l.size-index l.sizes) l.rest
