use Rattle.asn_dynamic_reading.proofs.told.within.Goals as goal

pub returns : goal.returns
returns g c = (c.codec.result, c.codec.ensures, c.within.ensures)
