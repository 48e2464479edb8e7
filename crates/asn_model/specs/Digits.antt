-- Whole numbers as AVN writes them.
use Rattle.std.specs.Prelude.{ℕ, ℤ, pos, neg_ℤ, ◌+◌, ◌-◌, ◌*◌, ◌&&◌, ◌==◌, nat_le, List, [], ◌∷◌, if◌then◌else◌, Option, Some, None, option_map}

-- The number of decimal digits that follow those of n.
abbrev pub digits_after : ℕ → List ℕ → Option ℕ
digits_after n [] = Some n
digits_after n (c ∷ cs) = if nat_le 48 c && nat_le c 57 then digits_after (n * 10 + (c - 48)) cs else None

-- The number of one or more decimal digits.
abbrev pub digits : List ℕ → Option ℕ
digits [] = None
digits (c ∷ cs) = digits_after 0 (c ∷ cs)

-- The number of an optional `-` and digits.
abbrev pub signed_number : List ℕ → Option ℤ
signed_number [] = None
signed_number (c ∷ cs) = if c == 45 then option_map (λ n. neg_ℤ (pos n)) (digits cs) else option_map pos (digits (c ∷ cs))
