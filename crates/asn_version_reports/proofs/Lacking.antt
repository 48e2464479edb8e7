-- Lines on parts that aren't compared.
use Rattle.std.proofs.Common.{◌≡◌, ◌∙◌, ◌<◌, ◌+◌, ◌++◌, ◌↔◌, ℕ, List, [], ◌∷◌, length, take, get_or, map, codes, String, Global, string_bytes, ap, ap₂, sym, refl, arith, length-append}
use Rattle.std.specs.List.{flat_map}
use Rattle.std.proofs.lemmas.List.{flat_map_more, map-append, take_more}
use Rattle.asn_model.specs.Shape.{Shape}
use Rattle.asn_version_reports.specs.Paths.{path_text}
use Rattle.asn_version_reports.specs.Valueless.{uncompared_line, uncompared_lines, valueless_paths}

-- One more line on a part.
pub parts-more : (now line after : List ℕ) (parts : List (String Global)) (i : ℕ) (part : String Global) → now ≡ flat_map uncompared_line (map string_bytes (take i parts)) → i < length parts → part ≡ get_or parts i part
    → line ≡ uncompared_line (string_bytes part) → after ≡ now ++ line → after ≡ flat_map uncompared_line (map string_bytes (take (i + 1) parts))
parts-more now line after parts i part n inside is l a =
    let next : take (i + 1) parts ≡ take i parts ++ part ∷ [] = take_more parts i part inside ∙ ap (λ x. take i parts ++ x ∷ []) (sym is) in
    a ∙ ap₂ (λ x y. x ++ y) n l ∙ flat_map_more uncompared_line [] (map string_bytes (take i parts)) (string_bytes part)
    ∙ ap (flat_map uncompared_line) (sym (ap (map string_bytes) next ∙ map-append string_bytes (take i parts) (part ∷ [])))

line-long : (part more : List ℕ) → (part ++ codes ": no value of it is read, so it isn't compared\n") ++ more ≡ [] → ⊥
line-long part more e =
    omega (arith, sym (length-append (part ++ codes ": no value of it is read, so it isn't compared\n") more) ∙ ap length e, length-append part (codes ": no value of it is read, so it isn't compared\n"))

none-listed : (paths : List (List (List ℕ))) → flat_map uncompared_line (map path_text paths) ≡ [] → paths ≡ []
none-listed [] e = refl
none-listed (path ∷ paths) e = absurd (line-long (path_text path) (flat_map uncompared_line (map path_text paths)) e)

-- There is no line exactly where each part has values.
pub none-uncompared : (s : Shape) (text : List ℕ) → text ≡ uncompared_lines s → (text ≡ []) ↔ (valueless_paths s ≡ [])
none-uncompared s text is = (λ e. none-listed (valueless_paths s) (sym is ∙ e), λ e. is ∙ ap (λ paths. flat_map uncompared_line (map path_text paths)) e)
