use Rattle.std.proofs.Common.{Some}
use Rattle.avn_grammar.specs.Tree.{boolean}
use Rattle.avn_nodes.proofs.Extending.{extended-boolean}
use Rattle.avn_frames.proofs.frames.NodeFrames.add_boolean.Goals as goal

pub put-requires-clause-slot : goal.put-requires-clause-slot
put-requires-clause-slot c = (λ _. Some (boolean c.args.flag), λ s. extended-boolean s c.args.flag)

pub returns : goal.returns
returns c = c.put.ensures (λ _. Some (boolean c.args.flag)) (λ s. extended-boolean s c.args.flag)
