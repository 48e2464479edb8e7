use Rattle.std.proofs.Common.{sym, ◌∙◌}
use Rattle.avn_rules.proofs.Walks.{members_of_no_elements}
use Rattle.avn_rules.proofs.avn.take_apart.has_members.Goals as goal

pub returns-in-SequenceOf : goal.returns-in-SequenceOf
returns-in-SequenceOf c = c.has_no_parts.ensures ∙ members_of_no_elements _ (sym c.in-SequenceOf.ensures)
