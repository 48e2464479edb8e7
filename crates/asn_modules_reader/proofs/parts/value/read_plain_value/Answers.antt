use Rattle.asn_modules_reader.proofs.parts.ValuesRead.{answered, braced_here}
use Rattle.asn_modules_reader.proofs.parts.value.read_plain_value.Goals as goal

pub returns-in-OpenBrace-clause-found : goal.returns-in-OpenBrace-clause-found
returns-in-OpenBrace-clause-found c =
    answered _ _ c.read_braced_value.result (braced_here c.in-Some.first c.in-Some.rest.now c.args.tokens.now c.in-Some.ensures.0 c.in-OpenBrace.is) c.read_braced_value.ensures.found
