use Rattle.std.proofs.Common.{Some}
use Rattle.avn_grammar.specs.Tree.{null}
use Rattle.avn_nodes.proofs.Extending.{extended-null}
use Rattle.avn_frames.proofs.frames.NodeFrames.add_null.Goals as goal

pub put-requires-clause-slot : goal.put-requires-clause-slot
put-requires-clause-slot c = (λ _. Some null, extended-null)

pub returns : goal.returns
returns c = c.put.ensures (λ _. Some null) (extended-null)
