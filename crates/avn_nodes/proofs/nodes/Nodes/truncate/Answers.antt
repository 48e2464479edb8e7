use Rattle.std.proofs.Common.{string_bytes}
use Rattle.avn_nodes.proofs.Moving.{shortened}
use Rattle.avn_nodes.proofs.nodes.Nodes.truncate.Goals as goal

pub returns : goal.returns
returns c = shortened (string_bytes c.self.inside.text) c.self.inside.octets.items c.self.inside.arcs.items c.self.inside.nodes.items c.truncate.new.self.items c.args.count c.args.self.now c.self.inside.name c.self.inside.word c.self.view_is c.truncate.ensures.items
