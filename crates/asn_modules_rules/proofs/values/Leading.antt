-- Where numbers lead past others.
use Rattle.std.proofs.Common.{◌≡◌, ◌≢◌, ℕ, zero, suc, ◌+◌, ◌-◌, ◌/◌, ◌%◌, List, map, Option, Some, None, refl, sym, ap, ◌∙◌, arith}
use Rattle.std.proofs.lemmas.Option.{slice_get-map}
use Rattle.std.specs.List.{slice_get}
use Rattle.std.specs.Option.{option_and_then, option_map}
use Rattle.asn_modules_rules.specs.values.Leads.{joined, leads, next_at}

pub leads_zero : (nexts : List (Option ℕ)) (n : ℕ) → leads nexts zero n ≡ next_at nexts n
unfolding leads
leads_zero nexts n = refl

leads_suc : (nexts : List (Option ℕ)) (m n : ℕ) → leads nexts (suc m) n ≡ option_and_then (leads nexts m) (next_at nexts n)
unfolding leads
leads_suc nexts m n = refl

and_then_same : {A B : Type 0} (f g : A → Option B) (o : Option A) → ((x : A) → f x ≡ g x) → option_and_then f o ≡ option_and_then g o
and_then_same f g None e = refl
and_then_same f g (Some x) e = e x

and_then_twice : {A B C : Type 0} (f : B → Option C) (g : A → Option B) (o : Option A) → option_and_then (λ x. option_and_then f (g x)) o ≡ option_and_then f (option_and_then g o)
and_then_twice f g None = refl
and_then_twice f g (Some x) = refl

none_more : (b : ℕ) → zero + b ≡ b
none_more b = omega arith

one_more : (a b : ℕ) → suc a + b ≡ suc (a + b)
one_more a b = omega arith

-- Past some others, and then past more.
leads_more : (nexts : List (Option ℕ)) (a b n : ℕ) → leads nexts (suc (a + b)) n ≡ option_and_then (leads nexts b) (leads nexts a n)
leads_more nexts zero b n = ap (λ m. leads nexts (suc m) n) (none_more b) ∙ leads_suc nexts b n ∙ ap (option_and_then (leads nexts b)) (sym (leads_zero nexts n))
leads_more nexts (suc a) b n =
    ap (λ m. leads nexts (suc m) n) (one_more a b)
    ∙ leads_suc nexts (suc (a + b)) n
    ∙ and_then_same (leads nexts (suc (a + b))) (λ k. option_and_then (leads nexts b) (leads nexts a k)) (next_at nexts n) (leads_more nexts a b)
    ∙ and_then_twice (leads nexts b) (leads nexts a) (next_at nexts n)
    ∙ ap (option_and_then (leads nexts b)) (sym (leads_suc nexts a n))

joined_map : (f : ℕ → Option ℕ) (o : Option (Option ℕ)) → joined (option_map (option_and_then f) o) ≡ option_and_then f (joined o)
joined_map f None = refl
joined_map f (Some next) = refl

next_at_map : (f : ℕ → Option ℕ) (xs : List (Option ℕ)) (n : ℕ) → next_at (map (option_and_then f) xs) n ≡ option_and_then f (next_at xs n)
next_at_map f xs n = ap joined (slice_get-map (option_and_then f) xs n) ∙ joined_map f (slice_get xs n)

-- Half of them.
pub halved_odd : (m : ℕ) → m % 2 ≡ 1 → m ≡ suc ((m - 1) / 2 + (m - 1) / 2)
halved_odd m e = omega (arith, e)

pub halved_even : (m : ℕ) → m ≢ 0 → m % 2 ≢ 1 → m ≡ suc (0 + suc ((m - 1) / 2 + (m - 1) / 2))
halved_even m z e = omega (arith, z, e)

-- By two lists, one after the other.
pub leads_both : (nexts first second both : List (Option ℕ)) (a b c : ℕ) → ((n : ℕ) → next_at first n ≡ leads nexts a n) → ((n : ℕ) → next_at second n ≡ leads nexts b n) → both ≡ map (option_and_then (next_at second)) first → c ≡ suc (a + b)
    → (n : ℕ) → next_at both n ≡ leads nexts c n
leads_both nexts first second both a b c f s e h n =
    ap (λ l. next_at l n) e ∙ next_at_map (next_at second) first n ∙ and_then_same (next_at second) (leads nexts b) (next_at first n) s ∙ ap (option_and_then (leads nexts b)) (f n)
    ∙ sym (leads_more nexts a b n) ∙ ap (λ m. leads nexts m n) (sym h)
