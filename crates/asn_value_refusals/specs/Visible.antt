-- Texts as they are shown at a terminal.
use Rattle.std.specs.Prelude.{ℕ, List, chars, encode_utf8_all, if◌then◌else◌, map}
use Rattle.std.specs.Char.{is_control}

-- A character as it is shown: a blank in place of one that controls a terminal, a line feed among
-- them.
abbrev pub visible : ℕ → ℕ
visible c = if is_control c then 32 else c

-- A text as it is shown, on one line.
abbrev pub on_one_line : List ℕ → List ℕ
on_one_line text = encode_utf8_all (map visible (chars text))
