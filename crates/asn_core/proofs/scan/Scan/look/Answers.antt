use Rattle.std.proofs.Common.{arith, ◌≡◌, ◌+◌, ◌<◌, length, ℕ, List, Some, get_or, drop, subst, ap, ◌∙◌}
use Rattle.std.specs.Str.{IsUtf8}
use Rattle.std.proofs.lemmas.Str.{IsUtf8-drop}
use Rattle.asn_core.proofs.ScanSteps.{looked, stepped, ascii_steps}
use Rattle.asn_core.proofs.scan.Scan.look.Goals as goal

pub returns-then-b-lt128-clause-found : goal.returns-then-b-lt128-clause-found
returns-then-b-lt128-clause-found c =
    let s = c.args.self.now.text in
    let e : c.whole-text.result.now ≡ s = c.whole-text.ensures ∙ ap (λ v. v.text) c.self.view_is in
    let f : c.as_bytes.result.now ≡ s = c.as_bytes.ensures.value ∙ e in
    let u : IsUtf8 (drop c.args.place s) = IsUtf8-drop s c.args.place (subst IsUtf8 e c.whole-text.utf8) c.requires in
    let P : List ℕ → Type 0 = λ x. (c.args.place < length x) × (get_or x c.args.place 0 < 128) in
    let q : P s = subst P f (omega (arith, ap (λ (x : List ℕ). length x) f, ap (λ (x : List ℕ). length x) e), c.if-b-lt128.true) in
    rw f (looked s (drop (c.args.place + 1) s) c.args.place (Some (get_or s c.args.place 0)) u (ascii_steps s c.args.place q.0 q.1))

pub returns-then-b-lt128-clause-edge : goal.returns-then-b-lt128-clause-edge
returns-then-b-lt128-clause-edge c =
    let s = c.args.self.now.text in
    let e : c.whole-text.result.now ≡ s = c.whole-text.ensures ∙ ap (λ v. v.text) c.self.view_is in
    let f : c.as_bytes.result.now ≡ s = c.as_bytes.ensures.value ∙ e in
    let u : IsUtf8 (drop c.args.place s) = IsUtf8-drop s c.args.place (subst IsUtf8 e c.whole-text.utf8) c.requires in
    let P : List ℕ → Type 0 = λ x. (c.args.place < length x) × (get_or x c.args.place 0 < 128) in
    let q : P s = subst P f (omega (arith, ap (λ (x : List ℕ). length x) f, ap (λ (x : List ℕ). length x) e), c.if-b-lt128.true) in
    rw f (stepped s (drop (c.args.place + 1) s) c.args.place (Some (get_or s c.args.place 0)) c.requires.0 u (ascii_steps s c.args.place q.0 q.1))

pub returns-clause-found : goal.returns-clause-found
returns-clause-found c =
    let e : c.whole-text.result.now ≡ c.args.self.now.text = c.whole-text.ensures ∙ ap (λ v. v.text) c.self.view_is in
    rw (← e) c.wide_at.ensures.found

pub returns-clause-edge : goal.returns-clause-edge
returns-clause-edge c =
    let e : c.whole-text.result.now ≡ c.args.self.now.text = c.whole-text.ensures ∙ ap (λ v. v.text) c.self.view_is in
    rw (← e) c.wide_at.ensures.edge
