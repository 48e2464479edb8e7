-- Texts of paths that are listed while parts are gone into.
use Rattle.std.proofs.Common.{◌≡◌, ap, sym, ◌∙◌, ℕ, List, [], ◌∷◌, ◌++◌, map, append_assoc}
use Rattle.std.proofs.lemmas.List.{map-append}
use Rattle.asn_growth.specs.Paths.{under}
use Rattle.asn_version_reports.specs.Paths.{behind, path_text}
use Rattle.asn_version_reports.proofs.Behind.{behind-append, behind-under}

-- The texts of paths behind these steps.
abbrev pub texts : List (List ℕ) → List (List (List ℕ)) → List (List ℕ)
texts steps paths = map path_text (behind steps paths)

texts-append : (steps : List (List ℕ)) (paths more : List (List (List ℕ))) → texts steps (paths ++ more) ≡ texts steps paths ++ texts steps more
texts-append steps paths more = ap (map path_text) (behind-append steps paths more) ∙ map-append path_text (behind steps paths) (behind steps more)

texts-under : (steps within : List (List ℕ)) (step : List ℕ) (paths : List (List (List ℕ))) → within ≡ steps ++ step ∷ [] → texts within paths ≡ texts steps (under step paths)
texts-under steps within step paths w = ap (λ x. texts x paths) w ∙ ap (map path_text) (sym (behind-under steps step paths))

-- Some paths are listed, and then the others.
pub listed-both : (old first last : List (List ℕ)) (steps : List (List ℕ)) (all paths more : List (List (List ℕ))) → all ≡ paths ++ more → first ≡ old ++ texts steps paths → last ≡ first ++ texts steps more → last ≡ old ++ texts steps all
listed-both old first last steps all paths more e f l =
    l ∙ ap (λ x. x ++ texts steps more) f ∙ append_assoc old (texts steps paths) (texts steps more) ∙ ap (λ x. old ++ x) (sym (texts-append steps paths more) ∙ sym (ap (texts steps) e))

-- The paths within a part are listed.
pub listed-within : (old : List (List ℕ)) (steps within : List (List ℕ)) (step : List ℕ) (all paths : List (List (List ℕ))) → all ≡ under step paths → within ≡ steps ++ step ∷ [] → old ++ texts within paths ≡ old ++ texts steps all
listed-within old steps within step all paths e w = ap (λ x. old ++ x) (texts-under steps within step paths w ∙ sym (ap (texts steps) e))

-- The paths within a part are listed, and those behind it are left.
pub listed-part : (old new : List (List ℕ)) (steps within : List (List ℕ)) (step : List ℕ) (left paths more : List (List (List ℕ))) (whole : List (List ℕ)) → left ≡ under step paths ++ more → within ≡ steps ++ step ∷ [] → new ≡ old ++ texts within paths
    → old ++ texts steps left ≡ whole → new ++ texts steps more ≡ whole
listed-part old new steps within step left paths more whole e w n o =
    ap (λ x. x ++ texts steps more) (n ∙ ap (λ x. old ++ x) (texts-under steps within step paths w)) ∙ append_assoc old (texts steps (under step paths)) (texts steps more)
    ∙ ap (λ x. old ++ x) (sym (texts-append steps (under step paths) more) ∙ sym (ap (texts steps) e)) ∙ o
