-- Paths to the parts of a type, as reports have them.
use Rattle.std.specs.Prelude.{ℕ, List, [], ◌∷◌, ◌++◌, codes, map}
use Rattle.std.specs.List.{join_with_byte}
use Rattle.asn_version_reports.specs.declared.path.Path.{Path, fold-Path}
use Rattle.asn_version_reports.specs.declared.path.Path.TheOpen.{Path-F}

-- The steps of a path with a point between each two.
abbrev pub path_text : List (List ℕ) → List ℕ
path_text [] = codes "(the type itself)"
path_text (step ∷ steps) = join_with_byte 46 (step ∷ steps)

-- The steps of the other ones, and then the last one.
abbrev pub path_step : Path-F (List (List ℕ)) → List (List ℕ)
path_step Path-F.Root = []
path_step (Path-F.Step step outer) = outer.now ++ step.now ∷ []

-- The steps of a `Path`.
abbrev pub path_steps : Path → List (List ℕ)
path_steps = fold-Path (List (List ℕ)) path_step

-- The paths, each behind these steps.
abbrev pub behind : List (List ℕ) → List (List (List ℕ)) → List (List (List ℕ))
behind steps paths = map (λ path. steps ++ path) paths
