use Rattle.asn_coding.specs.Writing.{as_choice}
use Rattle.asn_names.specs.Text.{name_text}
use Rattle.avn_frames.specs.Closing.{as_choice as choice_of_tree}
use Rattle.avn_rules.proofs.Building.{frame_closed, choice-trees}
use Rattle.avn_rules.proofs.Told.{told}
use Rattle.avn_rules.proofs.avn.enc.EncoderEncoder.close_choice.Goals as goal

pub returns-clause-closed : goal.returns-clause-closed
returns-clause-closed c =
    let id = name_text c.args.identifier in
    told c.close_choice.result c.in_avn.result c.in_avn.ensures.same (frame_closed (as_choice id) (choice_of_tree id) (choice-trees id) _ _) (rw c.as_str.ensures at c.close_choice.ensures)
