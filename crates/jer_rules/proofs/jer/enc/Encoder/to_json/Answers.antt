use Rattle.std.proofs.lemmas.Result.{IfOk-at_ok, IfOk-weaker}
use Rattle.asn_slots.specs.Slots.{last_present}
use Rattle.jer_rules.proofs.Floats.{json-held}
use Rattle.jer_rules.proofs.jer.enc.Encoder.to_json.Goals as goal

pub returns-clause-tree : goal.returns-clause-tree
returns-clause-tree c =
    IfOk-weaker c.in_jer.result _ _ (λ t same f fs h. json-held (last_present f) _ _ (c.in_ok-into_last.ensures.tree f fs h) (IfOk-at_ok _ same c.to_json.ensures)) c.in_jer.ensures.same
