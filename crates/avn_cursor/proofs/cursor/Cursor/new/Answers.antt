use Rattle.std.proofs.Common.{ap}
use Rattle.std.specs.Str.{chars}
use Rattle.asn_core.specs.Seen.{after}
use Rattle.avn_cursor.proofs.cursor.Cursor.new.Goals as goal

pub returns-clause-rest : goal.returns-clause-rest
unfolding after
returns-clause-rest c = ap chars c.look-kept.ensures.same
