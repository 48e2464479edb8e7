use Rattle.asn_model.proofs.JsonRead.{text-held}
use Rattle.asn_model.proofs.laws.json_texts_are_held.Goals as goal

pub returns : goal.returns
returns c = text-held
