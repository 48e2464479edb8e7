-- Runs of characters.
use Rattle.std.specs.Prelude.{ℕ, Bool, ◌==◌}
use Rattle.avn_grammar.specs.Chars.{is_space, is_digit, is_letter, is_name, is_not_apostrophe}
use Rattle.avn_cursor.specs.declared.chars.CharSet.{CharSet}
use Rattle.avn_cursor.specs.declared.chars.CharSet.TheVariants as run

-- The character belongs to the run.
abbrev pub passes : CharSet → ℕ → Bool
passes run.Blanks c = is_space c
passes run.Digits c = is_digit c
passes run.Letters c = is_letter c
passes run.Name c = is_name c
passes run.Quotes c = c == 34
passes run.Inside c = is_not_apostrophe c
