use Rattle.asn_codec.proofs.Again.{json_writable, json_not_refused}
use Rattle.asn_codec.proofs.conversion.values_of_json_can_be_written.Goals as goal

pub returns : goal.returns
returns c = record { written = json_writable; refused = json_not_refused }
