use Rattle.asn_model.proofs.DecodedJson.{avn-writable}
use Rattle.asn_model.proofs.laws.avn_writes_what_jer_writes.Goals as goal

pub returns : goal.returns
returns c = avn-writable
