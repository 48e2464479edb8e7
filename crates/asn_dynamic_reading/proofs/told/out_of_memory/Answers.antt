use Rattle.asn_dynamic_reading.proofs.told.out_of_memory.Goals as goal

pub returns : goal.returns
returns g c = (c.codec.result, c.codec.ensures, c.out_of_memory.ensures)
