use Rattle.std.proofs.Common.{Some, string_bytes}
use Rattle.avn_grammar.specs.Tree.{char_string}
use Rattle.avn_nodes.proofs.Extending.{extended-text}
use Rattle.avn_nodes.specs.declared.node_kind.NodeKind.TheVariants as kind
use Rattle.avn_frames.proofs.Framing.{leaf_put, only_root}
use Rattle.avn_frames.proofs.frames.NodeFrames.add_string.Goals as goal

pub invariant_of-self : goal.invariant_of-self
invariant_of-self c =
    (leaf_put c.put_string.result c.self.inside.nodes c.put_string.new.nodes _ c.args.self.now kind.CharString (string_bytes c.args.text) (λ x. Some (char_string x)) c.self.invariant c.self.view_is extended-text c.in-Ok.ensures).holds

pub invariant_of-self-in-Err : goal.invariant_of-self-in-Err
invariant_of-self-in-Err c = (only_root _ _ c.start_over.ensures.nodes c.start_over.ensures.places).holds

pub returns-in-Ok : goal.returns-in-Ok
returns-in-Ok c =
    (leaf_put c.put_string.result c.self.inside.nodes c.put_string.new.nodes _ c.args.self.now kind.CharString (string_bytes c.args.text) (λ x. Some (char_string x)) c.self.invariant c.self.view_is extended-text c.in-Ok.ensures).lists
