use Rattle.std.proofs.Common.{Some}
use Rattle.avn_grammar.specs.Tree.{enumerated}
use Rattle.avn_nodes.proofs.Extending.{extended-enumerated}
use Rattle.avn_frames.proofs.frames.NodeFrames.add_item.Goals as goal

pub put-requires-clause-slot : goal.put-requires-clause-slot
put-requires-clause-slot c = (λ x. Some (enumerated x), extended-enumerated)

pub returns : goal.returns
returns c = c.put.ensures (λ x. Some (enumerated x)) (extended-enumerated)
