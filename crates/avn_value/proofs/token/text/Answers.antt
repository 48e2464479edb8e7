use Rattle.std.proofs.Common.{◌≡◌, ◌==◌, ◌++◌, ◌∷◌, [], arith, ap, sym, ◌∙◌}
use Rattle.std.proofs.lemmas.Bool.{eqb-true}
use Rattle.std.proofs.lemmas.Grind.{common_steps}
use Rattle.std.specs.Str.{chars}
use Rattle.avn_grammar.specs.Chars.{starts_with}
use Rattle.avn_value.proofs.NoToken.{text_none}
use Rattle.avn_value.proofs.QuotedText.{open_quote, run_more, quote_more, at_quote, closed}
use Rattle.avn_nodes.proofs.NodeForms.{worded}
use Rattle.avn_value.proofs.TextNodes.{run_worded, char_worded, text_read}
use Rattle.avn_value.proofs.token.text.Goals as goal

pub runs-init : goal.runs-init
runs-init c = ([], ap (worded c.args.nodes.now) c.requires.clear, open_quote c.args.cursor.now.rest c.requires.quote ∙ ap (λ x. 34 ∷ x) (sym c.take-open.ensures.moves), grind (arith, common_steps), grind (arith, common_steps))

pub returns-in_default-clause-none : goal.returns-in_default-clause-none
returns-in_default-clause-none c = λ e.
    let i = c.runs.invariant in
    let run = c.take_up_to_quote.ensures in
    let ds = chars c.take_up_to_quote.result.now in
    text_none c.args.cursor.now.rest c.take_up_to_quote.new.self.rest (i.0 ++ ds) (run_more _ _ _ i.0 ds i.2 run.moves run.unquoted) c.in_default.ensures.found

pub returns-in_default-take_if-clause-ok : goal.returns-in_default-take_if-clause-ok
returns-in_default-take_if-clause-ok c =
    let i = c.runs.invariant in
    let run = c.take_up_to_quote.ensures in
    let ds = chars c.take_up_to_quote.result.now in
    let read = run_worded c.args.nodes.now _ _ _ i.0 i.1 c.in_ok-push_text.ensures c.take_up_to_quote.utf8 in
    let x = c.in-Some.quote in
    let end = c.in_default-take_if.ensures.found in
    let closing : x ≡ 34 = at_quote _ _ x run.stops c.in-Some.ensures.found in
    text_read _ c.take_if.new.self.rest (i.0 ++ ds) c.args.nodes.now _ _ read c.in_ok-leaf.ensures
    (closed _ _ _ _ (i.0 ++ ds) x (run_more _ _ _ i.0 ds i.2 run.moves run.unquoted) c.in-Some.ensures.found closing end.1)
    (ap (starts_with (λ d. d == 34)) end.1 ∙ end.0)

pub runs-preserved : goal.runs-preserved
runs-preserved c =
    let i = c.runs.invariant in
    let run = c.take_up_to_quote.ensures in
    let ds = chars c.take_up_to_quote.result.now in
    let read = run_worded c.args.nodes.now _ _ _ i.0 i.1 c.in_ok-push_text.ensures c.take_up_to_quote.utf8 in
    let x = c.in-Some.quote in
    let closing : x ≡ 34 = at_quote _ _ x run.stops c.in-Some.ensures.found in (
      (i.0 ++ ds) ++ (x ∷ []),
      char_worded c.args.nodes.now _ _ (i.0 ++ ds) x read c.in_ok-push_char.ensures.pushed,
      quote_more _ _ _ _ (i.0 ++ ds) x c.in-Some-take_if._doubled (run_more _ _ _ i.0 ds i.2 run.moves run.unquoted) closing (eqb-true c.in-Some-take_if._doubled 34 c.in-Some-take_if.ensures.found.0)
          c.in-Some.ensures.found c.in-Some-take_if.ensures.found.1,
      grind (arith, common_steps),
      grind (arith, common_steps),
    )
