-- Which number stands twice.
use Rattle.std.proofs.Common.{◌≡◌, ℕ, ℤ, ◌+◌, ◌<◌, List, [], ◌∷◌, ◌++◌, Bool, true, false, not, ◌||◌, if◌then◌else◌, Some, refl, sym, ap, ◌∙◌, get_or, take, drop, length}
use Rattle.std.proofs.lemmas.Cmp.{int_eq_equiv}
use Rattle.std.proofs.lemmas.List.{drop_more, take_more, map-append}
use Rattle.std.specs.HashSet.{HashSet, UpdatesBy, contains}
use Rattle.std.specs.Ordering.{int_eq}
use Rattle.std.specs.Set.{is_member}
use Rattle.asn_modules_rules.specs.numbers.Faults.{first_repeated}
use Rattle.asn_modules_rules.specs.numbers.Numbered.{Holds, numbers_of}
use Rattle.asn_modules_rules.specs.declared.numbers.numbered.Numbered.{Numbered}

as_or : (b : Bool) → (if b then true else false) ≡ (b || false)
as_or true = refl
as_or false = refl

either : (a b c : Bool) → (if a then true else (b || c)) ≡ (b || (if a then true else c))
either true true c = refl
either true false c = refl
either false b c = refl

member_more : (ns : List ℤ) (n q : ℤ) → (if int_eq n q then true else is_member int_eq ns q) ≡ is_member int_eq (ns ++ n ∷ []) q
member_more [] n q = ap (λ b. if b then true else false) (int_eq_equiv.symm n q) ∙ as_or (int_eq q n)
member_more (m ∷ ns) n q = either (int_eq n q) (int_eq q m) (is_member int_eq ns q) ∙ ap (λ b. int_eq q m || b) (member_more ns n q)

not_true : (b : Bool) → not b ≡ true → b ≡ false
not_true false e = refl
not_true true e = let x : ⊥ = cc in absurd x

-- One number more, which is new.
pub new_passed : {S : Type 0} (old new : HashSet ℤ S) (xs : List Numbered) (i : ℕ) (d : Numbered) (n : ℤ) (added : Bool) → i < length xs → Holds old (numbers_of (take i xs))
    → UpdatesBy int_eq (int_eq n) old new true → n ≡ (get_or xs i d).number → added ≡ not (contains int_eq old n) → added ≡ true
    → first_repeated [] xs ≡ first_repeated (numbers_of (take i xs)) (drop i xs)
    → Holds new (numbers_of (take (i + 1) xs)) × (first_repeated [] xs ≡ first_repeated (numbers_of (take (i + 1) xs)) (drop (i + 1) xs))
new_passed old new xs i d n added l known updates e a t was =
    let x = get_or xs i d in
    let before = numbers_of (take i xs) in
    let more : numbers_of (take (i + 1) xs) ≡ before ++ n ∷ [] =
    ap numbers_of (take_more xs i d l) ∙ map-append (λ y. y.number) (take i xs) (x ∷ []) ∙ ap (λ k. before ++ k ∷ []) (sym e) in
    let fresh : is_member int_eq before x.number ≡ false = ap (is_member int_eq before) (sym e) ∙ sym (known.has n) ∙ not_true (contains int_eq old n) (sym a ∙ t) in (
      record { has = λ q. updates.0 q ∙ ap (λ b. if int_eq n q then true else b) (known.has q) ∙ member_more before n q ∙ ap (λ l. is_member int_eq l q) (sym more) },
      was ∙ ap (first_repeated before) (drop_more xs i d l)
          ∙ ap (λ b. if b then Some x.name else first_repeated (before ++ x.number ∷ []) (drop (i + 1) xs)) fresh
          ∙ ap (λ k. first_repeated (before ++ k ∷ []) (drop (i + 1) xs)) (sym e) ∙ ap (λ l. first_repeated l (drop (i + 1) xs)) (sym more),
    )
