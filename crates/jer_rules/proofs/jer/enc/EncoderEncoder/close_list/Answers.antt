use Rattle.std.proofs.lemmas.Result.{on_ok_weaker}
use Rattle.jer_values.specs.Views.{data_of}
use Rattle.asn_slots.proofs.Trees.{frame_closed}
use Rattle.asn_traits.specs.Canonical.{jer_data}
use Rattle.asn_coding.specs.Writing.{as_list}
use Rattle.jer_rules.proofs.Building.{list_built}
use Rattle.jer_rules.proofs.jer.enc.EncoderEncoder.close_list.Goals as goal

pub returns-in-Ok-clause-closed : goal.returns-in-Ok-clause-closed
returns-in-Ok-clause-closed c =
    on_ok_weaker c.put.result (λ a. frame_closed jer_data data_of as_list _ _ _ _ _ c.in-Ok.ensures.closed.1 (list_built _ _ c.in-Ok.ensures.closed.2) a) c.put.ensures.added
