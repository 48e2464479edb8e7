use Rattle.std.proofs.Common.{sym, ◌∙◌}
use Rattle.avn_rules.proofs.Walks.{list_of_no_fields}
use Rattle.avn_rules.proofs.avn.take_apart.is_list.Goals as goal

pub returns-in-Sequence : goal.returns-in-Sequence
returns-in-Sequence c = c.has_no_parts.ensures ∙ list_of_no_fields _ (sym c.in-Sequence.ensures)
