use Rattle.std.proofs.Common.{◌≡◌, None, fold, take, map}
use Rattle.asn_core.specs.Tags.{smallest, smaller_tag}
use Rattle.asn_core.proofs.tag_tree.TagTree.+least_leaf.Given as goal

abbrev pub invariant-loop-part : goal.invariant-loop-part
invariant-loop-part l = l.least ≡ fold smaller_tag None (take l.part-index (map smallest l.part-items))
