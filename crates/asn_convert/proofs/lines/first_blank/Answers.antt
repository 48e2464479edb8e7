use Rattle.asn_convert.proofs.Places.{at_ascii, after_first}
use Rattle.asn_convert.proofs.lines.first_blank.Goals as goal

pub returns-clause-boundary : goal.returns-clause-boundary
returns-clause-boundary c =
    let e = c.first_blank_byte.ensures in
    at_ascii c.as_bytes.result.now c.args.text.now c.first_blank_byte.result c.as_bytes.ensures.value e.bound e.ascii

pub returns-clause-after : goal.returns-clause-after
returns-clause-after c =
    after_first c.as_bytes.result.now c.args.text.now c.first_blank_byte.result c.as_bytes.ensures.value c.utf8.text c.first_blank_byte.ensures.ascii
