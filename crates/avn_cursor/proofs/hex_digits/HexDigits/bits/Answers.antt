use Rattle.std.proofs.Common.{sym, arith}
use Rattle.std.proofs.lemmas.Grind.{common_steps}
use Rattle.avn_cursor.proofs.DigitValues.{Filled, filled_up, filled_already, bits_found}
use Rattle.avn_cursor.proofs.hex_digits.HexDigits.bits.Goals as goal
use Rattle.avn_cursor.proofs.hex_digits.HexDigits.bits.Goals.{in-Some+in_ok-push, in_default}

pub returns : goal.returns
returns c =
    let filled : Filled c.args.self.now c.match-self.self-inside.octets.items =
    elim c.match-self.branch [
      | in-Some+in_ok-push w ↦ rw w.self-inside-is (filled_up c.self.inside.octets.items _ c.args.self.now c.self.inside.odd w.in-Some.high (sym c.self.view_is) w.in-Some.is c.self.invariant w.in_ok-push.ensures.items)
      | in_default w ↦ rw w.self-inside-is (filled_already c.self.inside.octets.items c.args.self.now c.self.inside.odd (sym c.self.view_is) (grind (arith, common_steps)))
    ] in
    bits_found c.args.self.now _ _ _ (λ v. v.items) filled c.deref.ensures.value c.octets_of_pairs.ensures
