use Rattle.std.proofs.lemmas.Result.{IfOk-at_ok, IfOk-weaker}
use Rattle.asn_slots.specs.Slots.{last_present}
use Rattle.jer_rules.proofs.Floats.{text-held, back-held}
use Rattle.jer_rules.proofs.jer.enc.Encoder.to_string.Goals as goal

pub returns-clause-text : goal.returns-clause-text
returns-clause-text c =
    IfOk-weaker c.in_jer.result _ _ (λ s same f fs h. text-held (last_present f) _ _ (c.in_ok-into_last.ensures.tree f fs h) (IfOk-at_ok _ same c.to_text.ensures.text)) c.in_jer.ensures.same

pub returns-clause-reads_back : goal.returns-clause-reads_back
returns-clause-reads_back c =
    IfOk-weaker c.in_jer.result _ _ (λ s same f fs h. back-held (last_present f) _ _ (c.in_ok-into_last.ensures.tree f fs h) (IfOk-at_ok _ same c.to_text.ensures.reads_back)) c.in_jer.ensures.same
