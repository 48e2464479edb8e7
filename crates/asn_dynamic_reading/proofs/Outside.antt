-- Texts with a character outside an alphabet.
use Rattle.std.proofs.Common.{◌≡◌, sym, ap, ◌∙◌, ℕ, List, Bool, Option, Some, None, Result, Ok, Err}
use Rattle.std.specs.Str.{chars}
use Rattle.asn_core.specs.declared.codec.Codec.{Codec}
use Rattle.asn_strings.specs.Alphabets.{place_outside}
use Rattle.asn_model.specs.CharacterStrings.{alphabet_number, alphabet_of, universal_tag}
use Rattle.asn_model.specs.Leaf.{LeafFailure, refine, within_alphabet}
use Rattle.asn_model.specs.Shape.{Alphabet, Shape}
use Rattle.asn_model.specs.Value.{Value}

pub no_value : (a : Alphabet) (p : ℕ → Bool) (text : List ℕ) (place : ℕ) (c : Codec) (w : Value) → alphabet_of a ≡ p → place_outside p (chars text) ≡ Some place → refine c (Shape.text a) (Value.text text) ≡ Ok w → ⊥
no_value a p text place c w same at h =
    let refused = ap (λ q. within_alphabet (universal_tag (alphabet_number a)) (Value.text text) (place_outside q (chars text))) same ∙ ap (within_alphabet (universal_tag (alphabet_number a)) (Value.text text)) at in
    let d : within_alphabet (universal_tag (alphabet_number a)) (Value.text text) (Some place) ≡ Ok w = sym refused ∙ h in
    cc d
