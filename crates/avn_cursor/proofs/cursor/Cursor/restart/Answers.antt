use Rattle.asn_core.specs.Seen.{after}
use Rattle.avn_cursor.proofs.cursor.Cursor.restart.Goals as goal

pub returns-clause-rest : goal.returns-clause-rest
unfolding after
returns-clause-rest c = c.go_to.ensures.rest
