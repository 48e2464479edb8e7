-- Levels of open braces, and what closes them.
use Rattle.std.specs.Prelude.{ℕ, zero, suc, List, [], ◌∷◌, ◌++◌}
use Rattle.avn_grammar.specs.Print.{indent}
use Rattle.avn_nodes.specs.declared.print_parts.Levels.{Levels, fold-Levels}
use Rattle.avn_nodes.specs.declared.print_parts.Levels.TheOpen.{Levels-F}

-- The number of levels, of the number of those above the innermost.
abbrev pub depth_step : Levels-F ℕ → ℕ
depth_step Levels-F.Root = 0
depth_step (Levels-F.Under up) = suc up.now

-- The number of levels.
abbrev pub depth_of : Levels → ℕ
depth_of = fold-Levels ℕ depth_step

-- The closing brace after so many rows: on a line of its own unless there is none.
abbrev pub closing_of : ℕ → ℕ → List ℕ
closing_of d zero = 125 ∷ []
closing_of d (suc i) = 10 ∷ (indent d ++ (125 ∷ []))
