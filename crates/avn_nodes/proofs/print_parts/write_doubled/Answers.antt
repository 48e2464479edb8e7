use Rattle.std.proofs.Common.{rules, arith, ◌++◌, [], ◌∷◌, refl, sym, ap, ◌∙◌}
use Rattle.std.proofs.lemmas.Grind.{put_two, put_three}
use Rattle.avn_nodes.proofs.Rows.{was_ok}
use Rattle.avn_nodes.proofs.Doubling.{no-quote, quote-next}
use Rattle.avn_nodes.proofs.print_parts.write_doubled.Goals as goal

pub loop-run-init : goal.loop-run-init
loop-run-init g c = ([], (λ p. search rules), search rules, search rules)

pub loop-run-preserved : goal.loop-run-preserved
loop-run-preserved g c =
    let was = c.loop-run.invariant in
    let cut = c.in-Some.ensures.byte (omega arith) (λ w o f. f) in (
      was.0 ++ (c.in-Some.run'.now ++ (34 ∷ 34 ∷ [])),
      (λ p.
          let h0 = was.1 p in
          let h1 = c.write_str.ensures.writes h0.plain (was_ok _ _ c.in_ok-write_str.was) in
          let h2 = c.write_str-in-Some.ensures.writes h1.plain (was_ok _ _ c.in_ok-write_str-2.was) in
          put_three g.W.Write.write_str_gives _ _ _ _ _ _ _ _ h0 h1 h2 refl),
      quote-next was.0 c.in-Some.run'.now c.loop-run.rest.now c.in-Some.after.now _ was.2 cut.2 cut.0 cut.1,
      search rules,
    )

pub returns : goal.returns
returns g c = λ p ok.
    let was = c.loop-run.invariant in
    let none = c.in_default.ensures.byte (omega arith) (λ w o f. f) in
    let h0 = was.1 p in
    put_two g.W.Write.write_str_gives _ _ _ _ _ _ h0 (c.write_str-2.ensures.writes h0.plain ok) (sym (ap (λ x. was.0 ++ x) (no-quote c.loop-run.rest.now none)) ∙ was.2)
