use Rattle.std.proofs.Common.{sym}
use Rattle.avn_cursor.proofs.DigitValues.{second_added}
use Rattle.avn_cursor.proofs.hex_digits.HexDigits.add.Goals as goal

pub returns-in_ok-push-in-Some : goal.returns-in_ok-push-in-Some
returns-in_ok-push-in-Some c = second_added c.self.inside.octets.items c.push.new.self.items c.args.self.now c.self.inside.odd c.in-Some.high c.args.value (sym c.self.view_is) c.in-Some.is c.self.invariant c.requires c.in_ok-push-in-Some.ensures.items
