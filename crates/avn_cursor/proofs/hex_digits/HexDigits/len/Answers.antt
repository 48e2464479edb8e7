use Rattle.std.proofs.Common.{sym, arith}
use Rattle.std.proofs.lemmas.Grind.{common_steps}
use Rattle.avn_cursor.proofs.DigitValues.{digits_length}
use Rattle.avn_cursor.proofs.hex_digits.HexDigits.len.Goals as goal

pub returns : goal.returns
returns c = digits_length c.self.inside.octets.items c.args.self.now c.self.inside.odd c.len.result c.from.result (sym c.self.view_is) (grind (arith, common_steps)) (grind (arith, common_steps))
