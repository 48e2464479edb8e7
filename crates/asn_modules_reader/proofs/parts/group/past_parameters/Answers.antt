use Rattle.asn_modules_reader.proofs.parts.Groups.{optional_shorter}
use Rattle.asn_modules_reader.proofs.parts.group.past_parameters.Goals as goal

pub returns-clause-shorter : goal.returns-clause-shorter
returns-clause-shorter c = optional_shorter c.args.tokens.now c.past_optional_braces.result c.past_optional_braces.ensures
