use Rattle.std.proofs.Common.{sym}
use Rattle.avn_cursor.proofs.DigitValues.{odd_octets}
use Rattle.avn_cursor.proofs.hex_digits.HexDigits.octets.Goals as goal

pub returns-in-Some : goal.returns-in-Some
returns-in-Some c = odd_octets c.self.inside.octets.items c.args.self.now c.self.inside.odd _ (sym c.self.view_is) c.in-Some.is
