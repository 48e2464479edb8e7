use Rattle.asn_dynamic_reading.proofs.told.repeated.Goals as goal

pub returns : goal.returns
returns g c = (c.codec.result, c.codec.ensures, c.duplicate_field.ensures)
