-- The first value that leads on in the end.
use Rattle.std.proofs.Common.{◌≡◌, ◌≤◌, ℕ, suc, ◌+◌, ◌<◌, List, [], ◌∷◌, map, Bool, true, false, if◌then◌else◌, Option, Some, None, is_some, refl, sym, ap, subst, ◌∙◌, get_or, drop, length, add-one, arith}
use Rattle.std.proofs.lemmas.List.{drop_all, drop_more, length-map}
use Rattle.std.specs.Option.{option_or}
use Rattle.std.specs.Prelude.{Result}
use Rattle.asn_modules_errors.specs.declared.cause.NameRule.TheVariants.{NoValue}
use Rattle.asn_modules_errors.specs.declared.error.ModuleError.{ModuleError}
use Rattle.asn_modules_names.specs.Faults.{Checks, Fault, Tells, fault_of}
use Rattle.asn_modules_rules.specs.values.Leads.{leads, next_at}
use Rattle.asn_modules_rules.specs.values.ValueLinks as spec
use Rattle.asn_modules_rules.specs.values.ValueLinks.{endless_from, first_endless_in, link_view}
use Rattle.asn_modules_rules.specs.declared.values.links.ValueLink.{ValueLink}

-- What stands at a place, and what follows it.
drop_some : {A : Type 0} (xs : List A) (i : ℕ) → i < length xs → (x : A) × (drop i xs ≡ x ∷ drop (i + 1) xs)
drop_some [] i h = absurd (omega (arith, h))
drop_some (x ∷ xs) i h = (get_or (x ∷ xs) i x, drop_more (x ∷ xs) i x h)

module _ (f : ℕ → Bool) (ls : List ValueLink) where
  -- The first from a place on.
  abbrev pub told_from : ℕ → Option Fault
  told_from i = endless_from f i (map link_view (drop i ls))

  told_step : (i : ℕ) (l : ValueLink) (b : Bool) → drop i ls ≡ l ∷ drop (i + 1) ls → f i ≡ b → told_from i ≡ option_or (if b then Some (fault_of NoValue (link_view l).name) else None) (told_from (i + 1))
  told_step i l b d is =
      ap (λ x. endless_from f i (map link_view x)) d
      ∙ ap (λ x. option_or (if x then Some (fault_of NoValue (link_view l).name) else None) (endless_from f (suc i) (map link_view (drop (i + 1) ls)))) is
      ∙ ap (λ k. option_or (if b then Some (fault_of NoValue (link_view l).name) else None) (endless_from f k (map link_view (drop (i + 1) ls)))) (sym (add-one i))

  pub ended : (i : ℕ) → i < length ls → f i ≡ false → told_from 0 ≡ told_from i → told_from 0 ≡ told_from (i + 1)
  ended i h is was = let d = drop_some ls i h in was ∙ told_step i d.0 false d.1 is

  pub endless_told : (i : ℕ) (l : ValueLink) (e : ModuleError) → i < length ls → f i ≡ true → told_from 0 ≡ told_from i → Tells (Some (fault_of NoValue (link_view (get_or ls i l)).name)) e → Tells (told_from 0) e
  endless_told i l e h is was told = subst (λ o. Tells o e) (sym (was ∙ told_step i (get_or ls i l) true (drop_more ls i l h) is)) told

  pub all_ended : (i : ℕ) → length ls ≤ i → told_from 0 ≡ told_from i → told_from 0 ≡ None
  all_ended i h was = was ∙ ap (λ x. endless_from f i (map link_view x)) (drop_all i ls h)

endless_same : (f g : ℕ → Bool) (n : ℕ) (ls : List spec.ValueLink) → ((k : ℕ) → f k ≡ g k) → endless_from f n ls ≡ endless_from g n ls
endless_same f g n [] e = refl
endless_same f g n (l ∷ ls) e = ap (λ b. option_or (if b then Some (fault_of NoValue l.name) else None) (endless_from f (suc n) ls)) (e n) ∙ ap (option_or (if g n then Some (fault_of NoValue l.name) else None)) (endless_same f g (suc n) ls e)

-- What is reported by the list of where values lead in the end.
pub told_by_ends : (links : List ValueLink) (ends : List (Option ℕ)) (all : List spec.ValueLink) (r : Result Unit ModuleError) → map link_view links ≡ all
    → ((n : ℕ) → next_at ends n ≡ leads (map (λ l. l.next) (map link_view links)) (length links) n) → Checks (endless_from (λ n. is_some (next_at ends n)) 0 (map link_view links)) r → Checks (first_endless_in all) r
told_by_ends links ends all r a h checks =
    let ls = map link_view links in
    let same : (n : ℕ) → is_some (next_at ends n) ≡ is_some (leads (map (λ l. l.next) ls) (length ls) n) = λ n. ap is_some (h n ∙ ap (λ m. leads (map (λ l. l.next) ls) m n) (sym (length-map links link_view))) in
    subst (λ x. Checks (first_endless_in x) r) a
    (subst (λ o. Checks o r) (endless_same (λ n. is_some (next_at ends n)) (λ n. is_some (leads (map (λ l. l.next) ls) (length ls) n)) 0 ls same) checks)
