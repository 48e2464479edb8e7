use Rattle.std.proofs.Common.{◌≡◌, ◌∙◌, ◌⊎◌, ◌∷◌, ◌+◌, ap, subst, drop, take, length, List, ℕ}
use Rattle.std.specs.Str.{IsUtf8}
use Rattle.std.proofs.lemmas.Str.{IsUtf8-drop}
use Rattle.asn_core.proofs.ScanRuns.{passed, none-before, stopped}
use Rattle.asn_core.proofs.scan.Scan.up_to.Goals as goal

-- What is searched is the text from the place on.
rest : (c : goal.After-self-1) → c.range_from.result.now ≡ drop c.args.place c.args.self.now.text
rest c = c.range_from.ensures.value ∙ ap (drop c.args.place) (c.whole.ensures ∙ ap (λ v. v.text) c.self.view_is)

pub returns-clause-passed : goal.returns-clause-passed
returns-clause-passed c =
    let r = c.text_before-passed.result.now in
    passed c.args.self.now.text r c.args.place c.text_before-passed.utf8 (c.text_before-passed.ensures.cut ∙ ap (take (length r)) (rest c))

pub returns-clause-before : goal.returns-clause-before
returns-clause-before c = none-before c.args.stop c.text_before-passed.result.now c.requires.ascii c.text_before-passed.utf8 c.text_before-passed.ensures.before

pub returns-clause-stops : goal.returns-clause-stops
returns-clause-stops c =
    let r = c.text_before-passed.result.now in
    let Stops : List ℕ → Type 0 = λ d. (length r ≡ length d) ⊎ (drop (length r) d ≡ c.args.stop ∷ drop (length r + 1) d) in
    stopped c.args.self.now.text r c.args.place c.args.stop c.requires.ascii
    (subst (λ d. IsUtf8 (drop (length r) d)) (rest c) (IsUtf8-drop c.range_from.result.now (length r) c.range_from.utf8 c.text_before-passed.ensures.edge))
    (subst Stops (rest c) c.text_before-passed.ensures.stops)
