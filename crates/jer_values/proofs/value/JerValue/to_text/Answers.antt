-- The events of a value are written as its compact text, since its numbers are whole.
use Rattle.serde_json.proofs.FreeTexts.{text_of_value}
use Rattle.jer_values.specs.Views.{data_of}
use Rattle.jer_values.proofs.Reading.{text_read, without_float}
use Rattle.jer_values.proofs.Whole.{whole}
use Rattle.jer_values.proofs.value.JerValue.to_text.Goals as goal

pub returns-in-Ok-clause-text : goal.returns-in-Ok-clause-text
returns-in-Ok-clause-text c =
    let value = c.args.self.now in
    let sent = c.in-Ok.ensures.events in
    text_of_value (data_of value) sent.0 _ sent.1 sent.2
    (without_float (data_of value) (whole value))

pub returns-in-Ok-clause-reads_back : goal.returns-in-Ok-clause-reads_back
returns-in-Ok-clause-reads_back c =
    let value = c.args.self.now in
    text_read (data_of value) _ (whole value) (returns-in-Ok-clause-text c)
