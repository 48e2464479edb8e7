use Rattle.asn_coding.specs.Writing.{as_members}
use Rattle.asn_names.specs.Rows.{name_at, row_names}
use Rattle.avn_frames.specs.Closing.{as_members as members_of_trees}
use Rattle.avn_rules.proofs.Building.{frame_closed, members-trees}
use Rattle.avn_rules.proofs.Told.{told}
use Rattle.avn_rules.proofs.avn.enc.EncoderEncoder.close_members.Goals as goal

pub returns-clause-closed : goal.returns-clause-closed
returns-clause-closed g c =
    let rows = g.N.NameList.rows c.args.names.now in
    told c.close_members.result c.in_avn.result c.in_avn.ensures.same (frame_closed (as_members (row_names rows)) (members_of_trees (name_at rows)) (members-trees rows) _ _) c.close_members.ensures
