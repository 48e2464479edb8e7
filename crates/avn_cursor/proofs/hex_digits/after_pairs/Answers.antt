use Rattle.std.proofs.Common.{◌<◌, ◌+◌, ◌*◌, [], ◌∷◌, ◌++◌, ◌∙◌, refl, arith, take, length}
use Rattle.std.proofs.lemmas.List.{length-set}
use Rattle.avn_cursor.specs.HexDigits.{digit_values}
use Rattle.avn_cursor.proofs.DigitValues.{takes_then, takes_after, room_more}
use Rattle.avn_cursor.proofs.Paying.{advances_on}
use Rattle.avn_cursor.proofs.hex_digits.after_pairs.Goals as goal

pub loop-length-preserved : goal.loop-length-preserved
loop-length-preserved c =
    let i = c.loop-length.invariant in
    let n = c.loop-length.length in
    let vs = digit_values (take n c.loop-length.room) in
    let first = c.in-Some.ensures in
    let second = c.in-Some-take_digit.ensures in
    let h = c.in-Some.high in
    let l = c.in-Some-take_digit.low in
    let k : n < length c.loop-length.room = omega (arith, i.room, c.loop-length-test.true) in record {
      advances = advances_on i.advances (advances_on first.advances second.advances);
      together = second.together;
      room = length-set c.loop-length.room n (16 * h + l) ∙ i.room;
      within = omega (arith, c.loop-length-test.true);
      taken = takes_then i.taken (takes_then (takes_after vs (h ∷ []) (vs ++ (h ∷ [])) _ _ first.found.1 refl) (takes_after (vs ++ (h ∷ [])) (l ∷ []) _ _ _ second.found.1 (room_more c.loop-length.room n h l (16 * h + l) k first.found.0 second.found.0 refl)));
    }
