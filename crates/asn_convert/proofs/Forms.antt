-- Words that no form begins with.
use Rattle.std.proofs.Common.{◌≡◌, ℕ, List, [], ◌∷◌, false, if◌then◌else◌, Some, ap, bytes_eq, codes}
use Rattle.std.proofs.lemmas.Bool.{false_from_ne_true}
use Rattle.std.proofs.lemmas.Slice.Eq.{bytes_eq-Decides}
use Rattle.asn_samples.specs.Samples.{sample_named}
use Rattle.avn_grammar.specs.declared.limits.TheConstants.{LEVEL_LIMIT}
use Rattle.asn_convert.specs.Requests.{conversion_for, growth_for, keeping_for, limit_of, notation_named, request_of_words}

other_word : (word form : List ℕ) → (word ≡ form → ⊥) → bytes_eq word form ≡ false
other_word word form other = false_from_ne_true (bytes_eq word form) (λ e. other ((bytes_eq-Decides word form).0 e))

-- three words of which the first isn't `grows` are those of a conversion
pub no_growth : (first second third : List ℕ) → (first ≡ codes "grows" → ⊥)
    → request_of_words (first ∷ second ∷ third ∷ []) ≡ conversion_for (notation_named first) (notation_named second) (sample_named third) (Some LEVEL_LIMIT)
no_growth first second third other =
    ap (λ b. if b then growth_for second third else conversion_for (notation_named first) (notation_named second) (sample_named third) (Some LEVEL_LIMIT)) (other_word first (codes "grows") other)

-- four words of which the first isn't `keep` are those of a conversion with a limit
pub no_keeping : (first second third fourth : List ℕ) → (first ≡ codes "keep" → ⊥)
    → request_of_words (first ∷ second ∷ third ∷ fourth ∷ []) ≡ conversion_for (notation_named first) (notation_named second) (sample_named third) (limit_of fourth)
no_keeping first second third fourth other =
    ap (λ b. if b then keeping_for (notation_named second) (sample_named third) (sample_named fourth) else conversion_for (notation_named first) (notation_named second) (sample_named third) (limit_of fourth)) (other_word first (codes "keep") other)
