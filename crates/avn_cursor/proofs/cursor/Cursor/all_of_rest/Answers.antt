use Rattle.std.proofs.Common.{arith, ◌≡◌, length, take, ap, subst, string_bytes, IfOk}
use Rattle.std.specs.Str.{encode_utf8_all}
use Rattle.std.proofs.lemmas.List.{take_all}
use Rattle.avn_cursor.proofs.cursor.Cursor.all_of_rest.Goals as goal

pub returns-clause-copied : goal.returns-clause-copied
returns-clause-copied c =
    let u = c.args.self.now.rest in
    let e : take 18446744073709551615 u ≡ u = take_all 18446744073709551615 u (omega (arith, c.has_short_rest.ensures, ap (λ v. length v.rest) c.self.view_is)) in
    subst (λ x. IfOk c.excerpt.result (λ s. string_bytes s ≡ encode_utf8_all x)) e c.excerpt.ensures.copied
