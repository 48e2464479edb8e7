use Rattle.avn_frames.proofs.Rearranged.{alone_first, alone_stands, alone_moved}
use Rattle.avn_frames.proofs.arranging.keep_alone.Goals as goal

pub returns-then-node-eq0 : goal.returns-then-node-eq0
returns-then-node-eq0 c = alone_first c.args.nodes.now c.truncate.new.self c.args.node c.end-end.result c.if-node-eq0.true c.requires.tree c.requires.nameless c.requires.clear c.end-end.ensures c.truncate.ensures

pub arrange-requires-clause-subtrees : goal.arrange-requires-clause-subtrees
arrange-requires-clause-subtrees c = alone_stands c.args.nodes.now.nodes c.args.node c.requires.tree

pub returns : goal.returns
returns c = alone_moved c.arrange.result c.args.nodes.now c.arrange.new.self c.args.node c.requires.tree c.requires.nameless c.requires.clear c.arrange.ensures
