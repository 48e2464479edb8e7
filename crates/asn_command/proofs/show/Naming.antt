-- Names of types that are gathered one after the other.
use Rattle.std.proofs.Common.{◌≡◌, ◌<◌, ◌≤◌, refl, ap, sym, ◌∙◌, ℕ, ◌+◌, List, [], ◌∷◌, ◌++◌, take, get_or, length, map, String, string_bytes}
use Rattle.std.proofs.lemmas.List.{map-append, take_all, take_more}
use Rattle.std.specs.Global.{Global}
use Rattle.asn_modules.specs.Names.{TypeName, type_name_view}
use Rattle.asn_modules.specs.declared.names.TypeName as code
use Rattle.asn_command.specs.show.Shown.{shown_name}

-- The names by which the types before a place are found among these.
abbrev pub shown_before : List TypeName → List code.TypeName → ℕ → List (List ℕ)
shown_before all names i = map (shown_name all) (map type_name_view (take i names))

-- One more of them.
pub shown_more : (all : List TypeName) (names : List code.TypeName) (i : ℕ) (t : code.TypeName) (old new : List (String Global)) (s : String Global) → i < length names → t ≡ get_or names i t → map string_bytes old ≡ shown_before all names i → new ≡ old ++ s ∷ []
    → string_bytes s ≡ shown_name all (type_name_view t) → map string_bytes new ≡ shown_before all names (i + 1)
shown_more all names i t old new s h e was p v =
    ap (map string_bytes) p ∙ map-append string_bytes old (s ∷ []) ∙ ap (λ l. l ++ string_bytes s ∷ []) was ∙ ap (λ x. shown_before all names i ++ x ∷ []) v
    ∙ sym (ap (λ l. map (shown_name all) (map type_name_view l)) (take_more names i t h ∙ ap (λ x. take i names ++ x ∷ []) (sym e))
    ∙ ap (map (shown_name all)) (map-append type_name_view (take i names) (t ∷ [])) ∙ map-append (shown_name all) (map type_name_view (take i names)) (type_name_view t ∷ []))

-- All of them.
pub shown_all : (all : List TypeName) (names : List code.TypeName) (i : ℕ) (found : List (String Global)) → length names ≤ i → map string_bytes found ≡ shown_before all names i → map string_bytes found ≡ map (shown_name all) (map type_name_view names)
shown_all all names i found h was = was ∙ ap (λ l. map (shown_name all) (map type_name_view l)) (take_all i names h)
