-- Arcs joined one by one.
use Rattle.std.proofs.Common.{◌≡◌, ap, sym, ◌∙◌, arith, ℕ, zero, suc, ◌+◌, ◌<◌, List, [], ◌∷◌, ◌++◌, length, take, get_or, append_assoc, append-nil}
use Rattle.std.specs.Fmt.{decimal}
use Rattle.std.specs.List.{flat_map, join_by}
use Rattle.std.proofs.lemmas.List.{flat_map_more, take_more}

-- The first arc stands alone.
pub joined-first : (sep xs : List ℕ) (i : ℕ) → i ≡ 0 → i < length xs → join_by decimal sep (take i xs) ++ decimal (get_or xs i 0) ≡ join_by decimal sep (take (i + 1) xs)
joined-first sep [] i e h = absurd (omega (arith, h))
joined-first sep (x ∷ xs) zero e h = sym (append-nil (decimal x))
joined-first sep (x ∷ xs) (suc i) e h = absurd (omega arith)

-- Each other follows a separator.
pub joined-more : (sep xs : List ℕ) (i : ℕ) → 0 < i → i < length xs → (join_by decimal sep (take i xs) ++ sep) ++ decimal (get_or xs i 0) ≡ join_by decimal sep (take (i + 1) xs)
joined-more sep xs zero some h = absurd (omega (arith, some))
joined-more sep [] (suc i) some h = absurd (omega (arith, h))
joined-more sep (x ∷ xs) (suc i) some h =
    let after = λ (y : ℕ). sep ++ decimal y in
    let next : suc (i + 1) ≡ suc i + 1 = omega arith in
    append_assoc (decimal x ++ flat_map after (take i xs)) sep (decimal (get_or xs i 0))
    ∙ flat_map_more after (decimal x) (take i xs) (get_or xs i 0)
    ∙ ap (λ l. decimal x ++ flat_map after l) (sym (take_more xs i 0 (omega (arith, h))))
    ∙ ap (λ k. join_by decimal sep (take k (x ∷ xs))) next
