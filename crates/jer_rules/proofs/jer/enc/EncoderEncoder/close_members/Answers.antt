use Rattle.std.proofs.lemmas.Result.{IfOk-at_ok, on_ok_weaker}
use Rattle.jer_values.specs.Views.{data_of}
use Rattle.asn_names.specs.Rows.{row_names}
use Rattle.asn_slots.proofs.Trees.{frame_closed}
use Rattle.asn_traits.specs.Canonical.{jer_data}
use Rattle.asn_coding.specs.Writing.{as_members}
use Rattle.jer_rules.proofs.Building.{members_built}
use Rattle.jer_rules.proofs.jer.enc.EncoderEncoder.close_members.Goals as goal

pub returns-clause-closed : goal.returns-clause-closed
returns-clause-closed g c =
    let closed = IfOk-at_ok _ c.in_ok-slots.ensures.same c.close.ensures.closed in
    let built = members_built _ _ (row_names (g.N.NameList.rows c.args.names.now)) (IfOk-at_ok _ c.in_ok-members.ensures.same c.members_of.ensures) in
    on_ok_weaker c.put.result (λ a. frame_closed jer_data data_of (as_members _) _ _ _ _ _ closed built a) c.put.ensures.added
