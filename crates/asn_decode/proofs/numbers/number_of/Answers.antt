use Rattle.asn_core.specs.Numbers.{signed}
use Rattle.asn_decode.proofs.numbers.number_of.Goals as goal

pub returns-in-Some : goal.returns-in-Some
returns-in-Some g c = λ v e. (signed c.in-Some.number.negative c.in-Some.number.magnitude, (rw c.in-Some.is at e), c.of_parts.ensures)

pub returns-in-None : goal.returns-in-None
returns-in-None g c = λ v e. let w = rw c.in-None.is at e in (signed w.0 w.1, w.2, c.beyond_128_bits.ensures w.0 w.1 w.3)
