-- The rows of a list of names.
use Rattle.std.specs.Prelude.{ℕ, List, [], map, get_or}

-- An entry: its place among those that the type lists, and its name.
pub record NameRow : Type 0 where
  pub index : ℕ
  pub name : List ℕ

-- The names of the entries, in order.
abbrev pub row_names : List NameRow → List (List ℕ)
row_names rows = map (λ r. r.name) rows

-- The name of the entry at a place, which past the list is empty.
abbrev pub name_at : List NameRow → ℕ → List ℕ
name_at rows place = get_or (row_names rows) place []

-- The place of the entry among those that the type lists, which past the list is 0.
abbrev pub index_at : List NameRow → ℕ → ℕ
index_at rows place = get_or (map (λ r. r.index) rows) place 0
