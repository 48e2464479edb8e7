-- The text of an error in the order in which it is written.
use Rattle.std.proofs.Common.{◌≡◌, refl, sym, ap, ◌∙◌, ℕ, ◌+◌, ◌<◌, List, [], ◌∷◌, ◌++◌, append_assoc, take, get_or, length, string_bytes, Result, Ok}
use Rattle.std.specs.List.{flat_map}
use Rattle.std.specs.Prelude.{codes, IsOk, is_ok}
use Rattle.std.proofs.lemmas.Grind.{flat_map-append}
use Rattle.std.proofs.lemmas.List.{take_more, append-nil}
use Rattle.asn_core.specs.declared.codec.Codec.{Codec}
use Rattle.asn_fault.specs.Texts.{with_codec}
use Rattle.asn_dynamic_faults.specs.declared.errors.Step.{Step}
use Rattle.asn_dynamic_faults.specs.declared.errors.Step.TheVariants.{Field, Alternative, Element}
use Rattle.asn_dynamic_faults.specs.Steps.{fields_of}
use Rattle.asn_dynamic_faults.specs.Texts.{closing, closings, opening, openings, text_within}

-- The codecs of fields are the same text, so one more may stand before them or behind them.
closing_moves : (c : Codec) (ss : List Step) → closings c ss ++ with_codec [] c ≡ with_codec [] c ++ closings c ss
closing_moves c [] = sym (append-nil (with_codec [] c))
closing_moves c (Field n ∷ ss) = append_assoc (with_codec [] c) (closings c ss) (with_codec [] c) ∙ ap (λ z. with_codec [] c ++ z) (closing_moves c ss)
closing_moves c (Alternative n ∷ ss) = closing_moves c ss
closing_moves c (Element i ∷ ss) = closing_moves c ss

-- All fields stand before the kind, and their codecs behind it.
pub text_parted : (c : Codec) (ss : List Step) (text : List ℕ) → text_within c (fields_of ss) text ≡ openings ss ++ (text ++ closings c ss)
text_parted c [] text = sym (append-nil text)
text_parted c (Field n ∷ ss) text =
    let inner : text_within c (fields_of (Field n ∷ ss)) text ≡ with_codec (codes "Error when decoding field `" ++ (string_bytes n ++ (codes "`: " ++ (openings ss ++ (text ++ closings c ss))))) c =
    ap (λ inner. with_codec (codes "Error when decoding field `" ++ (string_bytes n ++ (codes "`: " ++ inner))) c) (text_parted c ss text) in
    let parted : with_codec (codes "Error when decoding field `" ++ (string_bytes n ++ (codes "`: " ++ (openings ss ++ (text ++ closings c ss))))) c
    ≡ (opening (Field n) ++ openings ss) ++ (text ++ (closings c ss ++ with_codec [] c)) = simp append_assoc in
    inner ∙ parted ∙ ap (λ z. (opening (Field n) ++ openings ss) ++ (text ++ z)) (closing_moves c ss)
text_parted c (Alternative n ∷ ss) text = text_parted c ss text
text_parted c (Element i ∷ ss) text = text_parted c ss text

-- One step more.
pub step_more : (f : Step → List ℕ) (ss : List Step) (i : ℕ) (s : Step) → i < length ss → s ≡ get_or ss i s → flat_map f (take i ss) ++ f s ≡ flat_map f (take (i + 1) ss)
step_more f ss i s h is =
    ap (λ m. flat_map f (take i ss) ++ f m) is
    ∙ ap (λ z. flat_map f (take i ss) ++ z) (sym (append-nil (f (get_or ss i s))))
    ∙ sym (ap (flat_map f) (take_more ss i s h) ∙ flat_map-append f (take i ss) (get_or ss i s ∷ []))

-- What is one of the good answers is a good answer.
pub was_ok : {E : Type 0} (r : Result (Unit {0}) E) (x : Unit {0}) → r ≡ Ok x → IsOk r
was_ok r x e = ap is_ok e
