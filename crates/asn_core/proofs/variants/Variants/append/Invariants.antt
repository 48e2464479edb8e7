use Rattle.std.proofs.Common.{◌≡◌, ◌++◌, Some, map, take}
use Rattle.asn_core.specs.Tags.{smallest}
use Rattle.asn_core.proofs.variants.Variants.append.Given as goal

abbrev pub invariant-loop-tree : goal.invariant-loop-tree
invariant-loop-tree l = map Some l.self-inside.tags.items ≡ map Some l.initial.self-inside.tags.items ++ map smallest (take l.tree-index l.trees)
