use Rattle.asn_core.proofs.SmallestTag.{one_more, after_all}
use Rattle.asn_core.proofs.tag_tree.TagTree.+least_leaf.Goals as goal

pub loop-part-preserved : goal.loop-part-preserved
loop-part-preserved t c =
    one_more _ _ _ _ _ _ c.loop-part-test.true c.loop-part.invariant c.part-item.is c.least_leaf.ensures c.smaller-least.ensures

pub returns-after-loop-part : goal.returns-after-loop-part
returns-after-loop-part t c = after_all _ _ _ _ c.in-Choice.is c.loop-part-test.false c.loop-part.invariant
