-- Copies of texts.
use Rattle.std.proofs.Common.{◌≡◌, refl, ap, ◌∙◌, List, [], ◌∷◌, map, String, string_bytes}
use Rattle.std.specs.Global.{Global}
use Rattle.std.specs.List.{AllZip}

-- Copies have the bytes of what they are copies of.
pub texts-copied : (texts copies : List (String Global)) → AllZip (λ s t. string_bytes t ≡ string_bytes s) texts copies → map string_bytes copies ≡ map string_bytes texts
texts-copied [] [] z = refl
texts-copied [] (c ∷ copies) z = absurd z
texts-copied (t ∷ texts) [] z = absurd z
texts-copied (t ∷ texts) (c ∷ copies) z = ap (λ b. b ∷ map string_bytes copies) z.0 ∙ ap (λ l. string_bytes t ∷ l) (texts-copied texts copies z.1)
