-- Strings whose lines are joined byte by byte.
use Rattle.std.proofs.Common.{◌≡◌, ◌≤◌, ◌<◌, ◌+◌, ◌++◌, ◌||◌, ℕ, List, [], ◌∷◌, length, take, drop, get_or, Bool, true, false, if◌then◌else◌, refl, sym, ap, ap₂, ◌∙◌, append_assoc, append-nil, arith}
use Rattle.std.proofs.lemmas.List.{drop_all, take_all, take-append-le}
use Rattle.asn_lexer.specs.Blanks.{ends_line}
use Rattle.asn_modules_types.specs.Joining.{if_soon, whole}
use Rattle.asn_modules_types.specs.Strings.{ends_soon, is_spacing, joined}
use Rattle.asn_modules_types.specs.declared.lines.Joined.{Joined}

-- What a string is if these bytes follow, by what is held of it.
abbrev pub whole_of : ℕ → List ℕ → Bool → List ℕ → List ℕ
whole_of firm bytes begun u = if_soon (ends_soon u) firm bytes ++ joined begun u

either_same : (b : Bool) (firm : ℕ) (bytes : List ℕ) → take firm bytes ≡ bytes → if_soon b firm bytes ≡ bytes
either_same true firm bytes e = e
either_same false firm bytes e = refl

module _ (firm : ℕ) (bytes : List ℕ) (c : ℕ) (u : List ℕ) where
  -- A byte that ends a line.
  pub ended : (begun : Bool) → ends_line c ≡ true → take firm (take firm bytes) ≡ take firm bytes → whole_of firm (take firm bytes) true u ≡ whole_of firm bytes begun (c ∷ u)
  ended begun e t =
      ap (λ l. l ++ joined true u) (either_same (ends_soon u) firm (take firm bytes) t)
      ∙ sym (ap₂ (λ x y. if_soon x firm bytes ++ y) (ap (λ b. if b then true else if is_spacing c then ends_soon u else false) e)
      (ap (λ b. if b then joined true u else if is_spacing c then (if begun || ends_soon u then joined begun u else c ∷ joined begun u) else c ∷ joined false u) e))

  -- What a byte that ends no line is.
  soon_of : (s : Bool) → ends_line c ≡ false → is_spacing c ≡ s → ends_soon (c ∷ u) ≡ (if s then ends_soon u else false)
  soon_of s e k = ap (λ b. if b then true else if is_spacing c then ends_soon u else false) e ∙ ap (λ b. if b then ends_soon u else false) k

  joined_of : (s begun : Bool) → ends_line c ≡ false → is_spacing c ≡ s → joined begun (c ∷ u) ≡ (if s then (if begun || ends_soon u then joined begun u else c ∷ joined begun u) else c ∷ joined false u)
  joined_of s begun e k =
      ap (λ b. if b then joined true u else if is_spacing c then (if begun || ends_soon u then joined begun u else c ∷ joined begun u) else c ∷ joined false u) e
      ∙ ap (λ b. if b then (if begun || ends_soon u then joined begun u else c ∷ joined begun u) else c ∷ joined false u) k

  -- Spacing after the end of a line.
  pub passed : ends_line c ≡ false → is_spacing c ≡ true → whole_of firm bytes true u ≡ whole_of firm bytes true (c ∷ u)
  passed e k = sym (ap₂ (λ x y. if_soon x firm bytes ++ y) (soon_of true e k) (joined_of true true e k))

  -- Spacing elsewhere, before the end of a line or not.
  pub spaced : (after : List ℕ) → ends_line c ≡ false → is_spacing c ≡ true → firm ≤ length bytes → after ≡ bytes ++ c ∷ [] → whole_of firm after false u ≡ whole_of firm bytes false (c ∷ u)
  spaced after e k h a =
      by (ends_soon u) ∙ sym (ap₂ (λ x y. if_soon x firm bytes ++ y) (soon_of true e k) (joined_of true false e k))
    where
      by : (s : Bool) → if_soon s firm after ++ joined false u ≡ if_soon s firm bytes ++ (if s then joined false u else c ∷ joined false u)
      by true = ap (λ l. take firm l ++ joined false u) a ∙ ap (λ l. l ++ joined false u) (take-append-le firm bytes (c ∷ []) h)
      by false = ap (λ l. l ++ joined false u) a ∙ append_assoc bytes (c ∷ []) (joined false u)

  -- Another byte.
  pub firmed : (begun : Bool) (after : List ℕ) (stay : ℕ) → ends_line c ≡ false → is_spacing c ≡ false → after ≡ bytes ++ c ∷ [] → take stay after ≡ after → whole_of stay after false u ≡ whole_of firm bytes begun (c ∷ u)
  firmed begun after stay e k a t =
      ap (λ l. l ++ joined false u) (either_same (ends_soon u) stay after t ∙ a) ∙ append_assoc bytes (c ∷ []) (joined false u)
      ∙ sym (ap₂ (λ x y. if_soon x firm bytes ++ y) (soon_of false e k) (joined_of false begun e k))
