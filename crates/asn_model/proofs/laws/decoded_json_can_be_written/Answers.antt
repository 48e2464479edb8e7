use Rattle.asn_model.proofs.DecodedJson.{avn-writable, decoded-can}
use Rattle.asn_model.proofs.JsonRead.{text-held}
use Rattle.asn_model.proofs.laws.decoded_json_can_be_written.Goals as goal

pub returns : goal.returns
returns c = record {
  text = λ s text d v utf8 is h. let can = decoded-can h (text-held text d utf8 is) in (can, avn-writable v can);
  held = λ s d v held h. let can = decoded-can h held in (can, avn-writable v can);
}
