-- Names that are the same, and names that differ.
use Rattle.std.proofs.Common.{◌≡◌, refl, sym, ℕ, List, Bool, true, false, if◌then◌else◌}
use Rattle.std.proofs.lemmas.Bool.{false_from_ne_true, iff_false}
use Rattle.std.proofs.lemmas.Slice.Eq.{bytes_eq-Decides}
use Rattle.std.specs.Str.{bytes_eq}

pub same_bytes : (a b : List ℕ) → bytes_eq a b ≡ true → bytes_eq b a ≡ true
same_bytes a b e = (bytes_eq-Decides b a).1 (sym ((bytes_eq-Decides a b).0 e))

pub other_bytes : (a b : List ℕ) → bytes_eq a b ≡ false → bytes_eq b a ≡ false
other_bytes a b e = false_from_ne_true (bytes_eq b a) (λ same. iff_false (bytes_eq-Decides a b) e (sym ((bytes_eq-Decides b a).0 same)))

-- What is none of the items is neither the first nor one of the rest.
pub other_parts : (first rest : Bool) → (if first then true else rest) ≡ false → (first ≡ false) × (rest ≡ false)
other_parts true rest e = let d : true ≡ false = e in cc d
other_parts false rest e = (refl, e)

-- Where no name stands twice, the first is none of the rest, and in the rest none stands twice.
pub distinct_parts : (first rest : Bool) → (if first then false else rest) ≡ true → (first ≡ false) × (rest ≡ true)
distinct_parts true rest e = let d : false ≡ true = e in cc d
distinct_parts false rest e = (refl, e)
