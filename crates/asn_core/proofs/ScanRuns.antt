-- A run of a scan's characters up to an ASCII character.
use Rattle.std.proofs.Common.{arith, ℕ, ◌≡◌, ◌≢◌, ◌⊎◌, inl, inr, ◌+◌, ◌<◌, [], ◌∷◌, ◌++◌, All, length, List, take, drop, refl, sym, ap, subst, ◌∙◌}
use Rattle.std.specs.Str.{IsUtf8, chars}
use Rattle.std.specs.List.{AllByRecursion}
use Rattle.std.proofs.Math.Utf8.{encodes}
use Rattle.std.proofs.Math.Seq.{drop-length}
use Rattle.std.proofs.lemmas.List.{take-append-drop, drop-drop}
use Rattle.std.proofs.lemmas.List.Elements.{All-from_recursion, recursion_from_All}
use Rattle.std.proofs.lemmas.Str.{chars-append, chars-nil, chars_past_char, encode_ascii, encodes-chars}
use lib.Utf8.{encode}
use Rattle.asn_core.specs.Seen.{after}

-- The characters of a text are those of its first part and of the rest.
pub passed : (text r : List ℕ) (p : ℕ) → IsUtf8 r → r ≡ take (length r) (drop p text) → after text p ≡ chars r ++ after text (p + length r)
unfolding after
passed text r p u e =
    ap chars (sym (take-append-drop (length r) (drop p text)) ∙ ap (λ x. x ++ drop (length r) (drop p text)) (sym e)) ∙ chars-append r (drop (length r) (drop p text)) u
    ∙ ap (λ x. chars r ++ chars x) (drop-drop (length r) p text)

-- What holds of all of a list holds of its parts.
parts : (P : ℕ → Type 0) (xs ys : List ℕ) → AllByRecursion P (xs ++ ys) → AllByRecursion P xs × AllByRecursion P ys
parts P [] ys h = (tt, h)
parts P (x ∷ xs) ys h = let rest = parts P xs ys h.1 in ((h.0, rest.0), rest.1)

-- An ASCII character that isn't among the bytes isn't among the characters.
no-character : (stop : ℕ) → stop < 128 → (cs : List ℕ) → AllByRecursion (λ b. b ≢ stop) (encodes cs) → AllByRecursion (λ c. c ≢ stop) cs
no-character stop l [] h = tt
no-character stop l (c ∷ cs) h =
    let both = parts (λ b. b ≢ stop) (encode c) (encodes cs) h in
    (λ e. let first : AllByRecursion (λ b. b ≢ stop) (stop ∷ []) = subst (AllByRecursion (λ b. b ≢ stop)) (ap encode e ∙ encode_ascii stop l) both.0 in first.0 refl, no-character stop l cs both.1)

pub none-before : (stop : ℕ) (r : List ℕ) → stop < 128 → IsUtf8 r → All (λ b. b ≢ stop) r → All (λ c. c ≢ stop) (chars r)
none-before stop r l u h =
    All-from_recursion (λ c. c ≢ stop) (chars r) (no-character stop l (chars r) (subst (AllByRecursion (λ b. b ≢ stop)) (sym (encodes-chars r u)) (recursion_from_All (λ b. b ≢ stop) r h)))

-- The rest of a text after a run is none, or begins with the character that stopped it.
pub stopped : (text r : List ℕ) (p stop : ℕ) → stop < 128 → IsUtf8 (drop (length r) (drop p text)) → (length r ≡ length (drop p text)) ⊎ (drop (length r) (drop p text) ≡ stop ∷ drop (length r + 1) (drop p text))
    → (after text (p + length r) ≡ []) ⊎ (after text (p + length r) ≡ stop ∷ after text (p + length r + 1))
unfolding after
stopped text r p stop l u (inl e) = inl (ap chars (sym (drop-drop (length r) p text) ∙ ap (λ n. drop n (drop p text)) e ∙ drop-length (drop p text)) ∙ chars-nil)
stopped text r p stop l u (inr e) =
    let d = drop p text in
    let n = length r in
    let there : p + (n + 1) ≡ p + n + 1 = omega arith in
    inr (ap chars (sym (drop-drop n p text)) ∙ chars_past_char (drop n d) (drop (n + 1) d) stop u (e ∙ ap (λ x. x ++ drop (n + 1) d) (sym (encode_ascii stop l)))
    ∙ ap (λ x. stop ∷ chars x) (drop-drop (n + 1) p text ∙ ap (λ k. drop k text) there))
