use Rattle.asn_coding.specs.Writing.{as_list}
use Rattle.avn_frames.specs.Closing.{as_list as list_of_trees}
use Rattle.avn_rules.proofs.Building.{frame_closed, list-trees}
use Rattle.avn_rules.proofs.Told.{told}
use Rattle.avn_rules.proofs.avn.enc.EncoderEncoder.close_list.Goals as goal

pub returns-clause-closed : goal.returns-clause-closed
returns-clause-closed c = told c.close_list.result c.in_avn.result c.in_avn.ensures.same (frame_closed as_list list_of_trees list-trees _ _) c.close_list.ensures
