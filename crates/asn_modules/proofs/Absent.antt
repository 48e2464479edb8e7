-- Missing modules that were listed so far.
use Rattle.std.proofs.Common.{◌≡◌, ◌≤◌, ℕ, ◌+◌, ◌<◌, List, [], ◌∷◌, ◌++◌, map, sym, ap, ◌∙◌, get_or, take, length}
use Rattle.std.proofs.lemmas.List.{get_or_default, map-append, take_all, take_more}
use Rattle.asn_modules.specs.Missing.{MissingModule, missing_of, missing_view}
use Rattle.asn_modules.specs.declared.missing.MissingModule as code
use Rattle.asn_modules_names.specs.Mentions.{mention_view}
use Rattle.asn_modules_names.specs.declared.mention.Mention.{Mention}
use Rattle.asn_modules_names.proofs.Founds.{pushed}

-- Those of the names before a place.
abbrev pub missing_before : List Mention → ℕ → List MissingModule
missing_before names i = map missing_of (map mention_view (take i names))

pub missing_more : (names : List Mention) (i : ℕ) (n : Mention) (old new : List code.MissingModule) (m : code.MissingModule) → i < length names → n ≡ get_or names i n → map missing_view old ≡ missing_before names i → new ≡ old ++ m ∷ []
    → missing_view m ≡ missing_of (mention_view n) → map missing_view new ≡ missing_before names (i + 1)
missing_more names i n old new m h e was p v =
    pushed missing_view old new m (missing_of (mention_view n)) p v ∙ ap (λ l. l ++ missing_of (mention_view n) ∷ []) was
    ∙ sym (ap (λ l. map missing_of (map mention_view l)) (take_more names i n h ∙ ap (λ x. take i names ++ x ∷ []) (sym e))
    ∙ ap (map missing_of) (map-append mention_view (take i names) (n ∷ [])) ∙ map-append missing_of (map mention_view (take i names)) (mention_view n ∷ []))

pub missing_at : (names : List Mention) (i : ℕ) (d : Mention) (old new : List code.MissingModule) (m : code.MissingModule) → i < length names → map missing_view old ≡ missing_before names i → new ≡ old ++ m ∷ []
    → missing_view m ≡ missing_of (mention_view (get_or names i d)) → map missing_view new ≡ missing_before names (i + 1)
missing_at names i d old new m h = missing_more names i (get_or names i d) old new m h (get_or_default names i d (get_or names i d) h)

pub missing_all : (names : List Mention) (i : ℕ) (found : List code.MissingModule) → length names ≤ i → map missing_view found ≡ missing_before names i → map missing_view found ≡ map missing_of (map mention_view names)
missing_all names i found h was = was ∙ ap (λ l. map missing_of (map mention_view l)) (take_all i names h)
