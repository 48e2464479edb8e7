use Rattle.std.proofs.Common.{◌≡◌, drop}
use Rattle.asn_modules_rules.specs.sizes.Sizes.{entry_size}
use Rattle.asn_modules_rules.proofs.sizes.Past.{past_all}
use Rattle.asn_modules_rules.proofs.sizes.sizes.take_numbers.Given as goal

-- The named numbers that are left leave of the rest what all leave.
abbrev pub invariant-loop-entry : goal.invariant-loop-entry
invariant-loop-entry l = past_all (λ n. entry_size n.name) l.named l.left ≡ past_all (λ n. entry_size n.name) (drop l.entry-index l.named) l.rest
