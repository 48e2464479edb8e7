use Rattle.std.proofs.Common.{◌≡◌, drop}
use Rattle.asn_modules_rules.specs.sizes.Sizes.{entry_size}
use Rattle.asn_modules_rules.proofs.sizes.Past.{past_all}
use Rattle.asn_modules_rules.proofs.sizes.sizes.take_list.Given as goal

-- The items that are left leave of the rest what all leave.
abbrev pub invariant-loop-item : goal.invariant-loop-item
invariant-loop-item l = past_all (λ i. entry_size i.name) l.items l.left ≡ past_all (λ i. entry_size i.name) (drop l.item-index l.items) l.rest
