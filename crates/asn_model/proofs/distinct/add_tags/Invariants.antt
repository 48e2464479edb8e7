use Rattle.std.proofs.Common.{◌≡◌, ◌++◌, map, take}
use Rattle.asn_model.proofs.distinct.add_tags.Given as goal

abbrev pub invariant-loop-alternative : goal.invariant-loop-alternative
invariant-loop-alternative l = l.tags.items ≡ l.fn.tags.items ++ map (λ a. a.tag) (take l.alternative-index l.alternatives)
