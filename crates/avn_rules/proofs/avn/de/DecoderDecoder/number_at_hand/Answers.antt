use Rattle.std.proofs.Common.{Some}
use Rattle.asn_model.specs.declared.leaves.LeafKind.TheVariants.{Number}
use Rattle.asn_model.specs.declared.leaves.OwnedLeaf.{OwnedLeaf}
use Rattle.avn_rules.proofs.Opened.{leaf_there}
use Rattle.avn_rules.proofs.avn.de.DecoderDecoder.number_at_hand.Goals as goal

pub returns-in-Some : goal.returns-in-Some
returns-in-Some c =
    let w = c.in-Some in
    leaf_there _ _ _ c.self.view_is Number (λ n. OwnedLeaf.Number (Some n)) w.node.now w.ensures.0 c.number_at.result w.ensures.1 c.number_at.ensures
