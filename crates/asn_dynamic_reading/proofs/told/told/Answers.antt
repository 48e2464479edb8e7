use Rattle.asn_dynamic_reading.proofs.told.told.Goals as goal

pub returns : goal.returns
returns g c = (c.codec.result, c.codec.ensures, c.of_decode.ensures)
