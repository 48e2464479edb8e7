use Rattle.std.proofs.Common.{ap, sym, ◌∙◌, Some}
use Rattle.std.proofs.lemmas.Result.{on_ok_weaker}
use Rattle.asn_slots.proofs.Trees.{slot_added}
use Rattle.asn_traits.specs.Canonical.{jer_data}
use Rattle.jer_values.specs.Views.{data_of}
use Rattle.jer_rules.proofs.Building.{json_same}
use Rattle.jer_rules.proofs.jer.enc.EncoderEncoder.put_leaf.Goals as goal

pub returns-clause-put : goal.returns-clause-put
returns-clause-put c = on_ok_weaker c.put.result (λ a. record { added = λ v same. slot_added jer_data data_of (Some v) _ _ _ (ap Some (c.in_ok-value.ensures.json ∙ sym (json_same same))) a; writable = c.in_ok-value.ensures.writable }) c.put.ensures.added
