use Rattle.std.proofs.Common.{◌≡◌, true, false, arith, string_bytes}
use Rattle.std.proofs.lemmas.Grind.{common_steps}
use Rattle.avn_value.proofs.Finding.{found_on, found_end, found_ok}
use Rattle.avn_cursor.proofs.Paying.{advances_on}
use Rattle.avn_value.proofs.parse.found.Goals as goal

pub returns-then-not-take_choice-clause-found : goal.returns-then-not-take_choice-clause-found
returns-then-not-take_choice-clause-found c =
    let e : c.take_choice.result ≡ false = grind (arith, common_steps) in
    let n = c.take_choice.ensures in
    let f = found_end c.loop-cursor.cursor.rest c.skip.new.self.rest c.take_choice.new.self.rest c.skip.ensures.moves (n.stays e) (n.no e) in
    found_ok (λ s. string_bytes s) c.excerpt.result c.args.cursor.now.rest c.take_choice.new.self.rest (c.loop-cursor.invariant.0 _ f) c.excerpt.ensures.copied

pub loop-cursor-preserved : goal.loop-cursor-preserved
loop-cursor-preserved c =
    let e : c.take_choice.result ≡ true = grind (arith, common_steps) in
    let y = c.take_choice.ensures in
    let i = c.loop-cursor.invariant in (
      λ x f. i.0 x (found_on c.loop-cursor.cursor.rest c.skip.new.self.rest c.take_choice.new.self.rest x c.skip.ensures.moves (y.yes e) (y.moves e) f),
      y.together,
      advances_on i.2 (advances_on c.skip.ensures.advances (y.advances e)),
    )
