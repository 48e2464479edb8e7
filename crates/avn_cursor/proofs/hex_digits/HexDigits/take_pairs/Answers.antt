use Rattle.std.proofs.Common.{sym}
use Rattle.avn_cursor.proofs.DigitValues.{takes_after, chunk_added}
use Rattle.avn_cursor.proofs.hex_digits.HexDigits.take_pairs.Goals as goal

pub returns-clause-taken : goal.returns-clause-taken
returns-clause-taken c = takes_after c.args.self.now _ _ _ _ c.take_pairs-pairs.ensures.taken (chunk_added c.self.inside.octets.items c.extend_from_slice.new.self.items c.take_pairs-pairs.new.room c.args.self.now c.self.inside.odd c.take_pairs-pairs.result.odd c.take_pairs-pairs.result.length (sym c.self.view_is) (sym c.if-is_some.ensures) c.in_ok-extend_from_slice.ensures.items)
