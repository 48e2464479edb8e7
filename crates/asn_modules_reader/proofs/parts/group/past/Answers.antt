use Rattle.std.proofs.Common.{[], ◌∷◌}
use Rattle.asn_modules_reader.proofs.parts.Groups.{past_shorter}
use Rattle.asn_modules_reader.proofs.parts.group.past.Goals as goal

pub returns-clause-shorter : goal.returns-clause-shorter
returns-clause-shorter c = past_shorter (c.args.group ∷ []) c.args.tokens.now c.past_group.result c.past_group.ensures
