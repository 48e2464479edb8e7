-- Names with their places.
use Rattle.std.specs.Prelude.{ℕ, zero, suc, List, [], ◌∷◌, get_or, map}
use Rattle.asn_names.specs.Rows.{NameRow}

-- The names at these places, each of which past the names is empty.
abbrev pub rows_at : List (List ℕ) → List ℕ → List NameRow
rows_at names places = map (λ k. record { index = k; name = get_or names k [] }) places

-- So many numbers from k on.
abbrev pub counted : ℕ → ℕ → List ℕ
counted k zero = []
counted k (suc n) = k ∷ counted (suc k) n
