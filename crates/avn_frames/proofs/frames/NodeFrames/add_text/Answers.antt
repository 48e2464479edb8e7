use Rattle.std.proofs.Common.{Some}
use Rattle.avn_grammar.specs.Tree.{char_string}
use Rattle.avn_nodes.proofs.Extending.{extended-text}
use Rattle.avn_frames.proofs.frames.NodeFrames.add_text.Goals as goal

pub put-requires-clause-slot : goal.put-requires-clause-slot
put-requires-clause-slot c = (λ x. Some (char_string x), extended-text)

pub returns : goal.returns
returns c = c.put.ensures (λ x. Some (char_string x)) (extended-text)
