use Rattle.asn_modules_reader.proofs.parts.ValuesRead.{answered}
use Rattle.asn_modules_reader.proofs.parts.value.read_value.Goals as goal

pub returns-in_default-clause-found : goal.returns-in_default-clause-found
returns-in_default-clause-found c = answered _ _ c.read_plain_value.result c.in_default.ensures c.read_plain_value.ensures.found

pub returns-clause-found : goal.returns-clause-found
returns-clause-found c = answered _ _ c.read_alternative.result c.in-Some.ensures.0 c.read_alternative.ensures.found
