use Rattle.std.proofs.Common.{ap, sym, ◌∙◌}
use Rattle.serde_json.specs.Data.{Data}
use Rattle.serde_json.specs.View.{view, number_view}
use Rattle.jer_rules.proofs.AtHand.{number_there, view-Number}
use Rattle.jer_rules.proofs.jer.de.DecoderDecoder.number_at_hand.Goals as goal

pub returns-in-Some-Number : goal.returns-in-Some-Number
returns-in-Some-Number c =
    let w = c.in-Some-Number in
    number_there c.args.self.now.pending w.ensures.0 w.field-0.now _ c.whole_number.result w.ensures.1 (ap view w.field-0-is ∙ view-Number w.number ∙ ap (λ x. Data.number (number_view x)) (sym w.number-is)) c.whole_number.ensures
