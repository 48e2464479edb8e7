use Rattle.std.proofs.Common.{◌≡◌, ◌++◌, map, take}
use Rattle.asn_model.proofs.distinct.add_names.Given as goal

abbrev pub invariant-loop-part : goal.invariant-loop-part
invariant-loop-part g l = map (λ n. n.now) l.names.items ≡ map (λ n. n.now) l.fn.names.items ++ map g.T.Named.name_of (take l.part-index l.parts)
