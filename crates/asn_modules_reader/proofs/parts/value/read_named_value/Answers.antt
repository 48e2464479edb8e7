use Rattle.asn_modules_reader.proofs.parts.ValuesRead.{answered, braced_name}
use Rattle.asn_modules_reader.proofs.parts.value.read_named_value.Goals as goal

pub returns-in-Some-take-clause-found : goal.returns-in-Some-take-clause-found
returns-in-Some-take-clause-found c =
    answered _ _ c.read_braced_value.result
    (braced_name c.args.value c.args.word c.in-Some-take._brace c.args.tokens.now c.in-Some-take.inner.now c.in-Some-take.ensures.0 c.in-Some-take.ensures.1 c.in_default.ensures)
    c.read_braced_value.ensures.found
