use Rattle.std.proofs.Common.{sym}
use Rattle.std.proofs.lemmas.Bool.{eqb-true}
use Rattle.avn_cursor.proofs.BitPairs.{pairs_done}
use Rattle.avn_cursor.proofs.bit_pairs.octets_of_pairs.Goals as goal

pub returns : goal.returns
returns c = pairs_done c.args.pairs.now c.loop-rest.rest.now c.loop-rest.octets.items (eqb-true _ 0 (sym c.loop-rest-test.ensures)) c.loop-rest.invariant.0 c.loop-rest.invariant.1
