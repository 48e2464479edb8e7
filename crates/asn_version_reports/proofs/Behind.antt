-- Paths that stand behind the same steps.
use Rattle.std.proofs.Common.{◌≡◌, refl, ap, sym, ◌∙◌, ℕ, List, [], ◌∷◌, ◌++◌, append_assoc, rules}
use Rattle.std.proofs.lemmas.List.{map-append}
use Rattle.std.specs.Borrow.{Bor}
use Rattle.std.specs.List.{join_with_byte}
use Rattle.asn_growth.specs.Paths.{under}
use Rattle.asn_version_reports.specs.Paths.{behind, path_step, path_steps}
use Rattle.asn_version_reports.specs.declared.path.Path.{Path, fold-roll-Path}
use Rattle.asn_version_reports.specs.declared.path.Path.TheVariants.{Root, rolls-Root, rolls-Step}
use Rattle.asn_version_reports.specs.declared.path.Path.TheViews.{Step}

-- The steps of a path, with one more.
pub steps_root : path_steps Root ≡ []
steps_root = let layer = fold-roll-Path (List (List ℕ)) path_step in let rolled = rolls-Root in search rules

pub steps_further : (step : Bor (List ℕ)) (outer : Bor Path) → path_steps (Step step outer) ≡ path_steps outer.now ++ step.now ∷ []
steps_further step outer = let layer = fold-roll-Path (List (List ℕ)) path_step in let rolled = rolls-Step step outer in search rules

-- One more step is the first one of each path.
pub behind-under : (steps : List (List ℕ)) (step : List ℕ) (paths : List (List (List ℕ))) → behind steps (under step paths) ≡ behind (steps ++ step ∷ []) paths
behind-under steps step [] = refl
behind-under steps step (path ∷ paths) =
    ap (λ p. p ∷ behind steps (under step paths)) (sym (append_assoc steps (step ∷ []) path)) ∙ ap (λ ps. ((steps ++ step ∷ []) ++ path) ∷ ps) (behind-under steps step paths)

pub behind-append : (steps : List (List ℕ)) (paths more : List (List (List ℕ))) → behind steps (paths ++ more) ≡ behind steps paths ++ behind steps more
behind-append steps paths more = map-append (λ (path : List (List ℕ)). steps ++ path) paths more

-- Behind no steps they stand as they are.
pub behind-none : (paths : List (List (List ℕ))) → behind [] paths ≡ paths
behind-none [] = refl
behind-none (path ∷ paths) = ap (λ ps. path ∷ ps) (behind-none paths)

-- One step more is joined by one byte more.
pub joined-last : (c : ℕ) (first : List ℕ) (rest : List (List ℕ)) (last : List ℕ) → join_with_byte c ((first ∷ rest) ++ last ∷ []) ≡ join_with_byte c (first ∷ rest) ++ (c ∷ last)
joined-last c first [] last = refl
joined-last c first (next ∷ rest) last =
    ap (λ l. first ++ (c ∷ l)) (joined-last c next rest last) ∙ sym (append_assoc first (c ∷ join_with_byte c (next ∷ rest)) (c ∷ last))

rejoined : (text steps last : List ℕ) → ((text ++ steps) ++ 46 ∷ []) ++ last ≡ text ++ (steps ++ (46 ∷ last))
rejoined text steps last = append_assoc (text ++ steps) (46 ∷ []) last ∙ append_assoc text steps (46 ∷ last)

-- The last step is written behind a point.
pub joined-further : (text before dotted whole : List ℕ) (front : List (List ℕ)) (step : List ℕ) (outer : List (List ℕ)) (last : List ℕ) (all : List (List ℕ)) → outer ≡ front ++ step ∷ [] → all ≡ outer ++ last ∷ []
    → before ≡ text ++ join_with_byte 46 outer → dotted ≡ before ++ 46 ∷ [] → whole ≡ dotted ++ last → whole ≡ text ++ join_with_byte 46 all
joined-further text before dotted whole [] step outer last all o a b d w =
    w ∙ ap (λ l. l ++ last) (d ∙ ap (λ l. l ++ 46 ∷ []) (b ∙ ap (λ l. text ++ join_with_byte 46 l) o)) ∙ rejoined text (join_with_byte 46 (step ∷ [])) last
    ∙ ap (λ l. text ++ l) (sym (joined-last 46 step [] last)) ∙ sym (ap (λ l. text ++ join_with_byte 46 l) (a ∙ ap (λ l. l ++ last ∷ []) o))
joined-further text before dotted whole (first ∷ front) step outer last all o a b d w =
    w ∙ ap (λ l. l ++ last) (d ∙ ap (λ l. l ++ 46 ∷ []) (b ∙ ap (λ l. text ++ join_with_byte 46 l) o)) ∙ rejoined text (join_with_byte 46 ((first ∷ front) ++ step ∷ [])) last
    ∙ ap (λ l. text ++ l) (sym (joined-last 46 first (front ++ step ∷ []) last)) ∙ sym (ap (λ l. text ++ join_with_byte 46 l) (a ∙ ap (λ l. l ++ last ∷ []) o))
