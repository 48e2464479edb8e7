use Rattle.std.proofs.Common.{sym, subst}
use Rattle.avn_grammar.specs.Grammar.{ParsesWhole}
use Rattle.avn_nodes.proofs.Tables.{new_holds}
use Rattle.avn_value.proofs.node_table.NodeTable.read.Goals as goal

pub invariant_of-result : goal.invariant_of-result
invariant_of-result c = let k = c.in-Ok.ensures.ok in (new_holds _ _ k.0 c.new-nodes.ensures k.2).0

pub returns-in-Ok-clause-ok : goal.returns-in-Ok-clause-ok
returns-in-Ok-clause-ok c = let k = c.in-Ok.ensures.ok in subst (λ t. ParsesWhole c.args.limit c.args.cursor.now.rest t) (sym (new_holds _ _ k.0 c.new-nodes.ensures k.2).1) k.1
