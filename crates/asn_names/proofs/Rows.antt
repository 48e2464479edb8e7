-- The entries of a list of names.
use Rattle.std.proofs.Common.{◌≡◌, ℕ, zero, suc, ◌<◌, List, [], ◌∷◌, length, Some, refl, arith}
use Rattle.std.specs.List.{slice_get}
use Rattle.asn_names.specs.Rows.{NameRow, index_at, name_at}

-- The entry at a place, as far as there are entries.
abbrev pub row_at : List NameRow → ℕ → NameRow
row_at rows place = record { index = index_at rows place; name = name_at rows place }

-- There is an entry at each place within the list.
pub row-there : (rows : List NameRow) (place : ℕ) → place < length rows → slice_get rows place ≡ Some (row_at rows place)
row-there [] place below = absurd (omega (arith, below))
row-there (row ∷ rows) zero below = refl
row-there (row ∷ rows) (suc place) below = row-there rows place (omega (arith, below))
