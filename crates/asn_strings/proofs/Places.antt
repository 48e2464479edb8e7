-- The first character outside an alphabet.
use Rattle.std.proofs.Common.{◌≡◌, ℕ, ◌<◌, Bool, true, false, cond, not, ◌&&◌, List, [], ◌∷◌, Some, None, Option, IfNone, IsTrue, length, get_or, ◌^◌, ◌↔◌, ◌∙◌, ap, arith, chars, refl, subst, sym, true≢false}
use Rattle.std.proofs.lemmas.Bool.Decides.{nat_tests}
use Rattle.std.proofs.lemmas.List.Elements.{All-from_get_or}
use Rattle.std.proofs.lemmas.List.Sums.{AllPass-from_list_all, list_all-from_AllPass}
use Rattle.std.proofs.lemmas.Str.{chars-IsAscii}
use Rattle.std.specs.Str.{IsAscii}
use Rattle.std.proofs.lemmas.List.Quantifiers.{position-Some}
use Rattle.std.proofs.lemmas.Option.{none-some}
use Rattle.std.specs.List.{fold, prefix_len, list_all, position_or_len}
use Rattle.asn_strings.specs.Alphabets.{all_within, is_bmp, place_outside}

-- All of these pass, unless one stands after the longest front that passes.
AllPassUnlessStopped : (ℕ → Bool) → List ℕ → Type 0
AllPassUnlessStopped p cs =
    (prefix_len (λ c. not (not (p c))) cs < length cs → ⊥) → list_all p cs ≡ true

one_more : (p : ℕ → Bool) (c : ℕ) (cs : List ℕ) (b : Bool) → p c ≡ b
    → AllPassUnlessStopped p cs → AllPassUnlessStopped p (c ∷ cs)
unfolding AllPassUnlessStopped
one_more p c cs true e others h = rw e (others (λ k. h (rw e (omega arith))))
one_more p c cs false e others h = absurd (h (rw e (omega arith)))

all_pass : (p : ℕ → Bool) (cs : List ℕ) → AllPassUnlessStopped p cs
unfolding AllPassUnlessStopped
all_pass p [] = λ h. refl
all_pass p (c ∷ cs) = one_more p c cs (p c) refl (all_pass p cs)

false_at_none : (b : Bool) (n : ℕ) → cond b (Some n) None ≡ None → b ≡ false
false_at_none true n h = absurd (none-some n (sym h))
false_at_none false n h = refl

-- Where no character is outside the alphabet, all are in it.
within_from_none : (p : ℕ → Bool) (cs : List ℕ) → place_outside p cs ≡ None
    → IsTrue (all_within p cs)
unfolding AllPassUnlessStopped
within_from_none p cs h =
    let e = false_at_none _ (position_or_len (λ c. not (p c)) cs) h in
    all_pass p cs (λ k. grind (arith, nat_tests))

pub within_at_none : (p : ℕ → Bool) (cs : List ℕ) (place : Option ℕ) → place ≡ place_outside p cs
    → IfNone place (IsTrue (all_within p cs))
within_at_none p cs None e = within_from_none p cs (sym e)
within_at_none p cs (Some place) e = tt

-- What stands at a place among characters of the Basic Multilingual Plane.
pub below_at : (cs : List ℕ) (i c : ℕ) → IsTrue (all_within is_bmp cs)
    → (i < length cs) × (c ≡ get_or cs i c) → c < 2 ^ 16
below_at cs i c h at =
    let passes : is_bmp c ≡ true = rw at.1 (AllPass-from_list_all is_bmp cs h i c at.0) in
    grind (arith, nat_tests)

none_from_all : (p : ℕ → Bool) (cs : List ℕ) → IsTrue (all_within p cs)
    → (place : Option ℕ) → place_outside p cs ≡ place → place ≡ None
none_from_all p cs h None e = refl
none_from_all p cs h (Some place) e =
    let found = position-Some (λ c. not (p c)) cs place 0 e in
    absurd (true≢false (sym found.1 ∙ ap not (AllPass-from_list_all p cs h place 0 found.0)))

pub none_is_within : (p : ℕ → Bool) (cs : List ℕ)
    → (place_outside p cs ≡ None) ↔ IsTrue (all_within p cs)
none_is_within p cs =
    (within_from_none p cs, λ h. none_from_all p cs h (place_outside p cs) refl)

pub true_from_not : (b : Bool) → not b ≡ false → b ≡ true
true_from_not true e = refl
true_from_not false e = absurd (true≢false e)

false_from_not : (b : Bool) → not b ≡ true → b ≡ false
false_from_not true e = absurd (true≢false (sym e))
false_from_not false e = refl

-- The first character outside, and those before it.
pub first_outside : (p : ℕ → Bool) (cs : List ℕ) (place : ℕ) → place_outside p cs ≡ Some place
    → (place < length cs) × (p (get_or cs place 0) ≡ false)
    × ((k : ℕ) → k < place → p (get_or cs k 0) ≡ true)
first_outside p cs place e =
    let found = position-Some (λ c. not (p c)) cs place 0 e in
    (found.0, false_from_not _ found.1, λ k h. true_from_not _ (found.2 k h))

-- A walk that tests each in turn, and goes on where one fails.
pub folds_within : (p : ℕ → Bool) (cs : List ℕ) (within : Bool)
    → fold (λ w c. w && p c) within cs ≡ (within && all_within p cs)
folds_within p [] true = refl
folds_within p [] false = refl
folds_within p (c ∷ cs) true = folds_within p cs (p c)
folds_within p (c ∷ cs) false = folds_within p cs false

ascii_is_bmp : (c : ℕ) → c < 128 → is_bmp c ≡ true
ascii_is_bmp c h = grind (arith, nat_tests)

-- The characters of a text of ASCII are in the Basic Multilingual Plane.
pub ascii_in_plane : (bs : List ℕ) → IsAscii bs → IsTrue (all_within is_bmp (chars bs))
ascii_in_plane bs ascii =
    subst (λ cs. list_all is_bmp cs ≡ true) (sym (chars-IsAscii bs ascii))
    (list_all-from_AllPass is_bmp bs
    (All-from_get_or (λ n. is_bmp n ≡ true) bs 0 (λ i l. ascii_is_bmp _ (ascii i))))
