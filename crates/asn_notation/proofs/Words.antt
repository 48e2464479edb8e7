-- Which reserved word a text is.
use Rattle.std.proofs.Common.{◌≡◌, ℕ, List, [], ◌∷◌, None, refl}
use Rattle.std.proofs.lemmas.Bool.{false_from_ne_true}
use Rattle.std.proofs.lemmas.Slice.Eq.{bytes_eq-Decides}
use Rattle.std.specs.Str.{bytes_eq}
use Rattle.asn_notation.specs.Keywords.{keyword_text, keyword_among}
use Rattle.asn_notation.specs.declared.keyword.Keyword.{Keyword}

-- The text is none of these words.
abbrev pub IsNone : List Keyword → List ℕ → Type 0
IsNone [] text = Unit {0}
IsNone (k ∷ ks) text = (text ≡ keyword_text k → ⊥) × IsNone ks text

pub none_among : (ks : List Keyword) (text : List ℕ) → IsNone ks text → None ≡ keyword_among ks text
none_among [] text h = refl
none_among (k ∷ ks) text h = rw (false_from_ne_true (bytes_eq text (keyword_text k)) (λ e. h.0 ((bytes_eq-Decides text (keyword_text k)).0 e))) (none_among ks text h.1)
