-- A text with each quote twice, a quote at a time.
use Rattle.std.proofs.Common.{◌≡◌, ℕ, suc, ◌+◌, ◌<◌, List, [], ◌∷◌, ◌++◌, true, false, cond, not, ◌==◌, refl, sym, ap, ◌∙◌, length, take, drop, arith, append_assoc}
use Rattle.std.specs.List.{position_or_len, before_first, after_first}
use Rattle.avn_grammar.specs.Chars.{quote_is_doubled}

-- A text without a quote stays as it is.
pub no-quote : (s : List ℕ) → position_or_len (λ b. b == 34) s ≡ length s → quote_is_doubled s ≡ s
no-quote [] h = refl
no-quote (c ∷ s) h =
    let n = position_or_len (λ b. b == 34) s in
    (elim (c == 34) as (λ v. cond (not v) (1 + n) 0 ≡ length (c ∷ s) → cond v (34 ∷ 34 ∷ quote_is_doubled s) (c ∷ quote_is_doubled s) ≡ c ∷ s) [
      | true ↦ λ e. absurd (omega (arith, e))
      | false ↦ λ e. ap (λ z. c ∷ z) (no-quote s (omega (arith, e)))
    ]) h

to-quote : (s : List ℕ) → position_or_len (λ b. b == 34) s < length s → quote_is_doubled s ≡ before_first (λ b. b == 34) s ++ (34 ∷ 34 ∷ quote_is_doubled (after_first (λ b. b == 34) s))
to-quote [] h = absurd (omega (arith, h))
to-quote (c ∷ s) h =
    let n = position_or_len (λ b. b == 34) s in
    let e : suc n ≡ 1 + n = omega arith in
    let f : suc (n + 1) ≡ 1 + n + 1 = omega arith in
    (elim (c == 34) as (λ v. cond (not v) (1 + n) 0 < length (c ∷ s)
    → cond v (34 ∷ 34 ∷ quote_is_doubled s) (c ∷ quote_is_doubled s) ≡ take (cond (not v) (1 + n) 0) (c ∷ s) ++ (34 ∷ 34 ∷ quote_is_doubled (drop (cond (not v) (1 + n) 0 + 1) (c ∷ s)))) [
      | true ↦ λ l. refl
      | false ↦ λ l.
          ap (λ z. c ∷ z) (to-quote s (omega (arith, l))) ∙ ap (λ k. take k (c ∷ s) ++ (34 ∷ 34 ∷ quote_is_doubled (drop (suc (n + 1)) (c ∷ s)))) e
          ∙ ap (λ k. take (1 + n) (c ∷ s) ++ (34 ∷ 34 ∷ quote_is_doubled (drop k (c ∷ s)))) f
    ]) h

pub quote-next : (a run r s w : List ℕ) → a ++ quote_is_doubled r ≡ w → position_or_len (λ b. b == 34) r < length r → run ≡ before_first (λ b. b == 34) r → s ≡ after_first (λ b. b == 34) r
    → (a ++ (run ++ (34 ∷ 34 ∷ []))) ++ quote_is_doubled s ≡ w
quote-next a run r s w h l e f =
    append_assoc a (run ++ (34 ∷ 34 ∷ [])) (quote_is_doubled s) ∙ ap (λ x. a ++ x) (append_assoc run (34 ∷ 34 ∷ []) (quote_is_doubled s) ∙ ap (λ x. x ++ (34 ∷ 34 ∷ quote_is_doubled s)) e
    ∙ ap (λ x. before_first (λ b. b == 34) r ++ (34 ∷ 34 ∷ quote_is_doubled x)) f ∙ sym (to-quote r l)) ∙ h
