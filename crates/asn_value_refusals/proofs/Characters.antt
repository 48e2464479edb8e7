-- What is shown of characters.
use Rattle.std.proofs.Common.{◌≡◌, ◌∙◌, ◌++◌, ◌∷◌, [], ℕ, List, ap, encode_utf8, encode_utf8_all, map, sym}
use Rattle.std.proofs.lemmas.List.{append-nil, map-append}
use Rattle.std.proofs.lemmas.Str.{encodes-append}
use Rattle.asn_value_refusals.specs.Visible.{visible}

-- One character more.
pub shown_more : (a b cs : List ℕ) (c d : ℕ) → a ≡ encode_utf8_all (map visible cs) → d ≡ visible c → b ≡ a ++ encode_utf8 d → b ≡ encode_utf8_all (map visible (cs ++ c ∷ []))
shown_more a b cs c d e v f =
    f ∙ ap (λ x. x ++ encode_utf8 d) e ∙ ap (λ y. encode_utf8_all (map visible cs) ++ encode_utf8 y) v
    ∙ ap (λ x. encode_utf8_all (map visible cs) ++ x) (sym (append-nil (encode_utf8 (visible c))))
    ∙ sym (encodes-append (map visible cs) (visible c ∷ [])) ∙ ap encode_utf8_all (sym (map-append visible cs (c ∷ [])))
