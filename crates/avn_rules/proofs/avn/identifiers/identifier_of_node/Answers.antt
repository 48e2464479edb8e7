use Rattle.std.proofs.Common.{sym}
use Rattle.asn_model.specs.declared.leaves.LeafKind.TheVariants.{Oid}
use Rattle.avn_rules.proofs.LeafNodes.{arcs_wrong, elements_read, wrong_refused}
use Rattle.avn_rules.proofs.avn.identifiers.identifier_of_node.Goals as goal

pub returns-in-Err : goal.returns-in-Err
returns-in-Err c = wrong_refused Oid _ _ _ (elements_read _ (sym c.in-SequenceOf.ensures)) (arcs_wrong _ _ c.in-Err.ensures)
