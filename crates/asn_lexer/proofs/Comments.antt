-- How comments are passed over, a step at a time.
use Rattle.std.proofs.Common.{◌≡◌, ℕ, zero, suc, List, [], ◌∷◌, Bool, true, false, codes, drop, if◌then◌else◌, Some, refl, ap, sym, ◌∙◌}
use Rattle.asn_lexer.specs.Blanks.{ends_line, past_line_comment, past_block_comment}
use Rattle.asn_lexer.specs.Fronts.{begins}
use Rattle.asn_lexer.proofs.Fronts.{one_begins}

line_two : (c : ℕ) (u : List ℕ) (a b : Bool) → begins (codes "--") (c ∷ u) ≡ a → ends_line c ≡ b
    → past_line_comment (c ∷ u) ≡ (if a then drop 1 u else if b then c ∷ u else past_line_comment u)
line_two c u a b h e =
    ap (λ x. if x then drop 1 u else if ends_line c then c ∷ u else past_line_comment u) h ∙ ap (λ y. if a then drop 1 u else if y then c ∷ u else past_line_comment u) e

pub line_done : (v : List ℕ) → begins (codes "--") v ≡ true → past_line_comment v ≡ drop 2 v
line_done [] h = let x : ⊥ = cc in absurd x
line_done (c ∷ u) h = line_two c u true _ h refl

pub line_ends : (v u : List ℕ) (c : ℕ) → v ≡ c ∷ u → begins (codes "--") v ≡ false → ends_line c ≡ true → past_line_comment v ≡ v
line_ends v u c s h e = ap past_line_comment s ∙ line_two c u false true (sym (ap (begins (codes "--")) s) ∙ h) e ∙ sym s

pub line_goes : (v u : List ℕ) (c : ℕ) → v ≡ c ∷ u → begins (codes "--") v ≡ false → ends_line c ≡ false → past_line_comment v ≡ past_line_comment u
line_goes v u c s h e = ap past_line_comment s ∙ line_two c u false false (sym (ap (begins (codes "--")) s) ∙ h) e

pub ruleset line_steps = (line_done, line_ends, line_goes)

-- The three ways on from a front of a comment.
block_zero : (c d : ℕ) (u : List ℕ) (a b : Bool) → begins (codes "*/") (c ∷ d ∷ u) ≡ a → begins (codes "/*") (c ∷ d ∷ u) ≡ b
    → past_block_comment zero (c ∷ d ∷ u) ≡ (if a then Some u else if b then past_block_comment 1 u else past_block_comment zero (d ∷ u))
block_zero c d u a b e f =
    ap (λ x. if x then Some u else if begins (codes "/*") (c ∷ d ∷ u) then past_block_comment 1 u else past_block_comment zero (d ∷ u)) e
    ∙ ap (λ y. if a then Some u else if y then past_block_comment 1 u else past_block_comment zero (d ∷ u)) f

block_suc : (n c d : ℕ) (u : List ℕ) (a b : Bool) → begins (codes "*/") (c ∷ d ∷ u) ≡ a → begins (codes "/*") (c ∷ d ∷ u) ≡ b
    → past_block_comment (suc n) (c ∷ d ∷ u) ≡ (if a then past_block_comment n u else if b then past_block_comment (suc (suc n)) u else past_block_comment (suc n) (d ∷ u))
block_suc n c d u a b e f =
    ap (λ x. if x then past_block_comment n u else if begins (codes "/*") (c ∷ d ∷ u) then past_block_comment (suc (suc n)) u else past_block_comment (suc n) (d ∷ u)) e
    ∙ ap (λ y. if a then past_block_comment n u else if y then past_block_comment (suc (suc n)) u else past_block_comment (suc n) (d ∷ u)) f

pub block_done : (n : ℕ) (v : List ℕ) → n ≡ 0 → begins (codes "*/") v ≡ true → past_block_comment n v ≡ Some (drop 2 v)
block_done n [] e h = let x : ⊥ = cc in absurd x
block_done n (c ∷ []) e h = absurd (one_begins 42 47 c h)
block_done n (c ∷ d ∷ u) e h = ap (λ m. past_block_comment m (c ∷ d ∷ u)) e ∙ block_zero c d u true _ h refl

pub block_closes : (n m : ℕ) (v : List ℕ) → n ≡ suc m → begins (codes "*/") v ≡ true → past_block_comment n v ≡ past_block_comment m (drop 2 v)
block_closes n m [] e h = let x : ⊥ = cc in absurd x
block_closes n m (c ∷ []) e h = absurd (one_begins 42 47 c h)
block_closes n m (c ∷ d ∷ u) e h = ap (λ k. past_block_comment k (c ∷ d ∷ u)) e ∙ block_suc m c d u true _ h refl

pub block_opens : (n m : ℕ) (v : List ℕ) → m ≡ suc n → begins (codes "*/") v ≡ false → begins (codes "/*") v ≡ true → past_block_comment n v ≡ past_block_comment m (drop 2 v)
block_opens n m [] s e h = let x : ⊥ = cc in absurd x
block_opens n m (c ∷ []) s e h = absurd (one_begins 47 42 c h)
block_opens zero m (c ∷ d ∷ u) s e h = block_zero c d u false true e h ∙ ap (λ k. past_block_comment k u) (sym s)
block_opens (suc n) m (c ∷ d ∷ u) s e h = block_suc n c d u false true e h ∙ ap (λ k. past_block_comment k u) (sym s)

block_on : (n c : ℕ) (u : List ℕ) → begins (codes "*/") (c ∷ u) ≡ false → begins (codes "/*") (c ∷ u) ≡ false → past_block_comment n (c ∷ u) ≡ past_block_comment n u
block_on n c [] e h = refl
block_on zero c (d ∷ u) e h = block_zero c d u false false e h
block_on (suc n) c (d ∷ u) e h = block_suc n c d u false false e h

pub block_goes : (n : ℕ) (v u : List ℕ) (c : ℕ) → v ≡ c ∷ u → begins (codes "*/") v ≡ false → begins (codes "/*") v ≡ false → past_block_comment n v ≡ past_block_comment n u
block_goes n v u c s e h = ap (past_block_comment n) s ∙ block_on n c u (sym (ap (begins (codes "*/")) s) ∙ e) (sym (ap (begins (codes "/*")) s) ∙ h)

pub ruleset block_steps = (block_done, block_closes, block_opens, block_goes)
