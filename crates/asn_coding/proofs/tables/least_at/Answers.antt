use Rattle.std.proofs.Common.{◌∙◌}
use Rattle.asn_coding.proofs.Choices.{tag_of_tree}
use Rattle.asn_coding.proofs.tables.least_at.Goals as goal

pub returns-in-Some : goal.returns-in-Some
returns-in-Some c =
    let at = c.in-Some.ensures.lookup in
    c.or_end.ensures ∙ tag_of_tree _ _ _ _ at.3.0 at.1 c.least_leaf.ensures
