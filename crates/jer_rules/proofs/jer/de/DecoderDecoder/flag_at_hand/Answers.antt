use Rattle.std.proofs.Common.{ap, sym, ◌∙◌}
use Rattle.serde_json.specs.Data.{Data}
use Rattle.serde_json.specs.View.{view}
use Rattle.jer_rules.proofs.AtHand.{flag_there, view-Bool}
use Rattle.jer_rules.proofs.jer.de.DecoderDecoder.flag_at_hand.Goals as goal

pub returns-in-Some-Bool : goal.returns-in-Some-Bool
returns-in-Some-Bool c =
    let w = c.in-Some-Bool in
    flag_there c.args.self.now.pending w.ensures.0 w.field-0.now _ w.ensures.1 (ap view w.field-0-is ∙ view-Bool w.flag ∙ ap Data.boolean (sym w.flag-is))
