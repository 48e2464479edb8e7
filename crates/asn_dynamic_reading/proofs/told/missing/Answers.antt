use Rattle.asn_dynamic_reading.proofs.told.missing.Goals as goal

pub returns : goal.returns
returns g c = (c.codec.result, c.codec.ensures, c.missing_field.ensures)
