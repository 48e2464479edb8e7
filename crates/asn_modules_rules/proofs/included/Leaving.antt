-- What is left of so many bytes.
use Rattle.std.proofs.Common.{◌≡◌, ◌≤◌, ◌<◌, ◌+◌, ◌-◌, ℕ, max, Bool, true, false, ◌&&◌, leb, if◌then◌else◌, Option, Some, None, inl, inr, ◌⊎◌, refl, sym, ap, ◌∙◌, add_comm, arith}
use Rattle.std.proofs.lemmas.Bool.{le-leb, lt-leb}
use Rattle.std.proofs.lemmas.Bool.Decides.{leb_tells}
use Rattle.std.specs.Option.{option_and_then}
use Rattle.asn_modules_rules.specs.included.Extents.{Extent, around, beside, left_behind, nothing, of_size}
use Rattle.asn_modules_rules.specs.declared.included.limits.TheConstants.{TYPE_SIZE}
use Rattle.asn_modules_rules.specs.sizes.Sizes.{past}

-- One after another.
pub then_twice : {A B C : Type 0} (f : B → Option C) (g : A → Option B) (o : Option A) → option_and_then f (option_and_then g o) ≡ option_and_then (λ x. option_and_then f (g x)) o
then_twice f g None = refl
then_twice f g (Some x) = refl

pub then_same : {A B : Type 0} (f g : A → Option B) (o : Option A) → ((x : A) → f x ≡ g x) → option_and_then f o ≡ option_and_then g o
then_same f g None e = refl
then_same f g (Some x) e = e x

pub then_some : {A : Type 0} (o : Option A) → option_and_then (λ x. Some x) o ≡ o
then_some None = refl
then_some (Some x) = refl

none_of : (b : Bool) (n : ℕ) → (if b && false then Some n else None) ≡ None
none_of true n = refl
none_of false n = refl

some_of : (b : Bool) (n : ℕ) → (if b && true then Some n else None) ≡ (if b then Some n else None)
some_of true n = refl
some_of false n = refl

-- As many are there, and the levels are enough.
fits : (e : Extent) (left levels : ℕ) → e.size ≤ left → e.levels ≤ levels → left_behind e left levels ≡ Some (left - e.size)
fits e left levels h d =
    ap (λ b. if b && leb e.levels levels then Some (left - e.size) else None) (le-leb e.size left h) ∙ ap (λ b. if b then Some (left - e.size) else None) (le-leb e.levels levels d)

-- There aren't as many.
many : (e : Extent) (left levels : ℕ) → left < e.size → left_behind e left levels ≡ None
many e left levels h = ap (λ b. if b && leb e.levels levels then Some (left - e.size) else None) (lt-leb e.size left h)

-- They nest too deep.
deep : (e : Extent) (left levels : ℕ) → levels < e.levels → left_behind e left levels ≡ None
deep e left levels h = ap (λ b. if leb e.size left && b then Some (left - e.size) else None) (lt-leb e.levels levels h) ∙ none_of (leb e.size left) (left - e.size)

-- They fit, or not.
abbrev Fits : Extent → ℕ → ℕ → Type 0
Fits e left levels = (e.size ≤ left) × (e.levels ≤ levels)

abbrev Exceeds : Extent → ℕ → ℕ → Type 0
Exceeds e left levels = (left < e.size) ⊎ (levels < e.levels)

fits_or : (e : Extent) (left levels : ℕ) → Fits e left levels ⊎ Exceeds e left levels
fits_or e left levels = elim (leb_tells e.size left) [
  | inl p ↦ elim (leb_tells e.levels levels) [ inl q ↦ inl (p.1, q.1) | inr q ↦ inr (inr q.1) ]
  | inr p ↦ inr (inl p.1)
]

exceeded : (e : Extent) (left levels : ℕ) → Exceeds e left levels → left_behind e left levels ≡ None
exceeded e left levels (inl h) = many e left levels h
exceeded e left levels (inr h) = deep e left levels h

pub left_nothing : (left levels : ℕ) → left_behind nothing left levels ≡ Some left
left_nothing left levels = fits nothing left levels (omega arith) (omega arith) ∙ ap Some (omega arith)

-- A size alone has no levels.
pub left_size : (n left levels : ℕ) → left_behind (of_size n) left levels ≡ past left n
left_size n left levels = ap (λ b. if leb n left && b then Some (left - n) else None) (le-leb 0 levels (omega arith)) ∙ some_of (leb n left) (left - n)

-- After these, what is left after others.
behind_fit : (a b : Extent) (left levels : ℕ) → Fits a left levels → Fits b (left - a.size) levels ⊎ Exceeds b (left - a.size) levels → left_behind (beside a b) left levels ≡ left_behind b (left - a.size) levels
behind_fit a b left levels f (inl g) =
    fits (beside a b) left levels (omega (arith, f, g)) (omega (arith, f, g)) ∙ ap Some (omega arith) ∙ sym (fits b (left - a.size) levels g.0 g.1)
behind_fit a b left levels f (inr (inl h)) = many (beside a b) left levels (omega (arith, f, h)) ∙ sym (many b (left - a.size) levels h)
behind_fit a b left levels f (inr (inr h)) = deep (beside a b) left levels (omega (arith, f, h)) ∙ sym (deep b (left - a.size) levels h)

beside_exceeds : (a b : Extent) (left levels : ℕ) → Exceeds a left levels → left_behind (beside a b) left levels ≡ None
beside_exceeds a b left levels (inl h) = many (beside a b) left levels (omega (arith, h))
beside_exceeds a b left levels (inr h) = deep (beside a b) left levels (omega (arith, h))

beside_by : (a b : Extent) (left levels : ℕ) → Fits a left levels ⊎ Exceeds a left levels → left_behind (beside a b) left levels ≡ option_and_then (λ l. left_behind b l levels) (left_behind a left levels)
beside_by a b left levels (inl f) =
    behind_fit a b left levels f (fits_or b (left - a.size) levels) ∙ ap (option_and_then (λ l. left_behind b l levels)) (sym (fits a left levels f.0 f.1))
beside_by a b left levels (inr h) = beside_exceeds a b left levels h ∙ ap (option_and_then (λ l. left_behind b l levels)) (sym (exceeded a left levels h))

pub left_beside : (a b : Extent) (left levels : ℕ) → left_behind (beside a b) left levels ≡ option_and_then (λ l. left_behind b l levels) (left_behind a left levels)
left_beside a b left levels = beside_by a b left levels (fits_or a left levels)

-- After a size, what is left after others.
pub sized_on : (n : ℕ) (e : Extent) (left rest levels : ℕ) (r : Option ℕ) → Some rest ≡ past left n → r ≡ left_behind e rest levels → r ≡ left_behind (beside (of_size n) e) left levels
sized_on n e left rest levels r some is =
    is ∙ ap (option_and_then (λ l. left_behind e l levels)) (some ∙ sym (left_size n left levels)) ∙ sym (left_beside (of_size n) e left levels)

pub sized_none : (n : ℕ) (e : Extent) (left levels : ℕ) → None ≡ past left n → None ≡ left_behind (beside (of_size n) e) left levels
sized_none n e left levels none = ap (option_and_then (λ l. left_behind e l levels)) (none ∙ sym (left_size n left levels)) ∙ sym (left_beside (of_size n) e left levels)

-- It doesn't matter which of them is the first.
pub left_swapped : (a b : Extent) (left levels : ℕ) → left_behind (beside a b) left levels ≡ left_behind (beside b a) left levels
left_swapped a b left levels =
    ap (λ n. left_behind (record { size = n; levels = max a.levels b.levels }) left levels) (add_comm a.size b.size)
    ∙ ap (λ n. left_behind (record { size = b.size + a.size; levels = n }) left levels) (omega arith)

-- A type around others takes its size, and a level.
around_by : (e : Extent) (left levels more deeper : ℕ) → left ≡ more + TYPE_SIZE → levels ≡ deeper + 1 → Fits e more deeper ⊎ Exceeds e more deeper → left_behind (around e) left levels ≡ left_behind e more deeper
around_by e left levels more deeper l d (inl f) = fits (around e) left levels (omega (arith, l, f)) (omega (arith, d, f)) ∙ ap Some (omega (arith, l)) ∙ sym (fits e more deeper f.0 f.1)
around_by e left levels more deeper l d (inr (inl h)) = many (around e) left levels (omega (arith, l, h)) ∙ sym (many e more deeper h)
around_by e left levels more deeper l d (inr (inr h)) = deep (around e) left levels (omega (arith, d, h)) ∙ sym (deep e more deeper h)

pub left_around : (e : Extent) (left levels more deeper : ℕ) → left ≡ more + TYPE_SIZE → levels ≡ deeper + 1 → left_behind (around e) left levels ≡ left_behind e more deeper
left_around e left levels more deeper l d = around_by e left levels more deeper l d (fits_or e more deeper)

pub around_many : (e : Extent) (left levels : ℕ) → left < TYPE_SIZE → left_behind (around e) left levels ≡ None
around_many e left levels h = many (around e) left levels (omega (arith, h))

pub around_deep : (e : Extent) (left levels : ℕ) → levels ≡ 0 → left_behind (around e) left levels ≡ None
around_deep e left levels h = deep (around e) left levels (omega (arith, h))
