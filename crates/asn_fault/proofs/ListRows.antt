-- Texts of several things, a thing at a time.
use Rattle.std.proofs.Common.{◌≡◌, ℕ, ◌+◌, ◌<◌, List, [], ◌∷◌, ◌++◌, refl, sym, ap, ◌∙◌, append_assoc, take, get_or, length, Result, Ok}
use Rattle.std.specs.Prelude.{codes, IsOk, is_ok}
use Rattle.std.proofs.lemmas.List.{take_more, append-nil}
use Rattle.asn_fault.specs.Joined.{listed}

listed-append : {T : Type 0} (text : T → List ℕ) (xs ys : List T) → listed text (xs ++ ys) ≡ listed text xs ++ listed text ys
listed-append text [] ys = refl
listed-append text (x ∷ xs) ys = ap (λ z. (codes ", " ++ text x) ++ z) (listed-append text xs ys) ∙ sym (append_assoc (codes ", " ++ text x) (listed text xs) (listed text ys))

-- One thing more.
pub listed-more : {T : Type 0} (text : T → List ℕ) (xs : List T) (i : ℕ) (x : T) → i < length xs → x ≡ get_or xs i x → listed text (take i xs) ++ (codes ", " ++ text x) ≡ listed text (take (i + 1) xs)
listed-more text xs i x h is =
    ap (λ y. listed text (take i xs) ++ (codes ", " ++ text y)) is
    ∙ ap (λ z. listed text (take i xs) ++ z) (sym (append-nil (codes ", " ++ text (get_or xs i x))))
    ∙ sym (ap (listed text) (take_more xs i x h) ∙ listed-append text (take i xs) (get_or xs i x ∷ []))

-- What is one of the good answers is a good answer.
pub was_ok : {E : Type 0} (r : Result (Unit {0}) E) (x : Unit {0}) → r ≡ Ok x → IsOk r
was_ok r x e = ap is_ok e
