use Rattle.std.proofs.Common.{Some}
use Rattle.avn_grammar.specs.Tree.{integer}
use Rattle.avn_nodes.proofs.Extending.{extended-integer}
use Rattle.avn_frames.proofs.frames.NodeFrames.add_integer.Goals as goal

pub put-requires-clause-slot : goal.put-requires-clause-slot
put-requires-clause-slot c = (λ x. Some (integer x), extended-integer)

pub returns : goal.returns
returns c = c.put.ensures (λ x. Some (integer x)) (extended-integer)
