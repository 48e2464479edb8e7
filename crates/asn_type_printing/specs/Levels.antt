-- Lines at levels of nesting.
use Rattle.std.specs.Prelude.{ℕ, zero, suc, List, [], ◌∷◌, ◌++◌}
use Rattle.asn_type_printing.specs.declared.level.Level.{Level, fold-Level}
use Rattle.asn_type_printing.specs.declared.level.Level.TheOpen.{Level-F}

-- One level more than what is around.
abbrev pub level_step : Level-F ℕ → ℕ
level_step Level-F.Outermost = 0
level_step (Level-F.Within outer) = suc outer.now

-- The number of a `Level`.
abbrev pub level_of : Level → ℕ
level_of = fold-Level ℕ level_step

-- Two blanks for each level.
abbrev pub indent : ℕ → List ℕ
indent zero = []
indent (suc level) = indent level ++ (32 ∷ 32 ∷ [])

-- The end of a line, and the beginning of one at this level.
abbrev pub new_line : ℕ → List ℕ
new_line level = 10 ∷ indent level
