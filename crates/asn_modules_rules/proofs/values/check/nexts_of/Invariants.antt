use Rattle.std.proofs.Common.{◌≡◌, map, take}
use Rattle.asn_modules_rules.specs.values.ValueLinks.{link_view}
use Rattle.asn_modules_rules.proofs.values.check.nexts_of.Given as goal

abbrev pub invariant-loop-link : goal.invariant-loop-link
invariant-loop-link l = l.nexts.items ≡ map (λ x. x.next) (map link_view (take l.link-index l.links))
