use Rattle.std.proofs.Common.{refl, sym}
use Rattle.avn_rules.proofs.LeafNodes.{number_node_taken, no_number_text, cause_refused}
use Rattle.avn_rules.proofs.avn.leaf_nodes.number_of_node.Goals as goal

pub returns-in-Some : goal.returns-in-Some
returns-in-Some c = number_node_taken _ c.text-text.result.now c.in-Some.number (sym c.in-Integer.ensures) c.text-text.ensures c.in-Some.ensures

pub returns-in-None : goal.returns-in-None
returns-in-None c = cause_refused _ _ _ _ (no_number_text _ c.text-text.result.now (sym c.in-Integer.ensures) c.text-text.ensures c.in-None.ensures) refl c.no_number.ensures
