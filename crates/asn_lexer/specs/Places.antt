-- Lines and columns. A text is the list of its bytes, in UTF-8.
use Rattle.std.specs.Prelude.{ℕ, suc, List, Bool, ◌||◌, ◌==◌, nat_lt, nat_le, not, reverse}
use Rattle.std.specs.List.{count_by}
use Rattle.avn_grammar.specs.Chars.{take_while}

-- A line feed.
abbrev pub is_line_feed : ℕ → Bool
is_line_feed c = c == 10

-- The byte begins a character: it is none that continues one.
abbrev pub begins_char : ℕ → Bool
begins_char c = nat_lt c 128 || nat_le 192 c

-- What follows the last line feed, the last byte first.
abbrev pub last_line : List ℕ → List ℕ
last_line front = take_while (λ c. not (is_line_feed c)) (reverse front)

-- The line of what follows a front of a text, counted from 1.
abbrev pub line_after : List ℕ → ℕ
line_after front = suc (count_by is_line_feed front)

-- Its column in characters, counted from 1.
abbrev pub column_after : List ℕ → ℕ
column_after front = suc (count_by begins_char (last_line front))
