use Rattle.asn_dynamic_reading.proofs.fitting.Fitting.{decoded_fits}
use Rattle.asn_dynamic_reading.proofs.fitting.laws.decoded_values_fit.Goals as goal

pub returns : goal.returns
returns c = λ n s slot v is says held. decoded_fits is says held
