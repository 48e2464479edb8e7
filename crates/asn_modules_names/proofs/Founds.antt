-- The first fault of lists, and the errors that tell it.
use Rattle.std.proofs.Common.{◌≡◌, ◌≤◌, ℕ, ◌+◌, ◌<◌, List, [], ◌∷◌, ◌++◌, map, Option, Some, None, refl, sym, ap, subst, ◌∙◌, get_or, drop, length, append_assoc, append-nil}
use Rattle.std.proofs.lemmas.List.{drop_more, drop_all, map-append}
use Rattle.std.specs.Option.{option_or}
use Rattle.std.specs.Prelude.{Result, Ok, Err}
use Rattle.asn_modules_errors.specs.declared.error.ModuleError.{ModuleError}
use Rattle.asn_modules_errors.specs.declared.error.ModuleError.TheVariants as error
use Rattle.asn_modules_names.specs.Assigned.{first_found}
use Rattle.asn_modules_names.specs.Faults.{Checks, Fault, Tells}

-- What is at a place, and what follows it.
pub drop_at : {A : Type 0} (xs : List A) (i : ℕ) (x : A) → i < length xs → x ≡ get_or xs i x → drop i xs ≡ x ∷ drop (i + 1) xs
drop_at xs i x h e = drop_more xs i x h ∙ ap (λ y. y ∷ drop (i + 1) xs) (sym e)

-- All are those that were listed, and then others, of which some are listed next.
pub listed_more : {A : Type 0} (all before after piece rest others : List A) → all ≡ before ++ rest → rest ≡ piece ++ others → after ≡ before ++ piece → all ≡ after ++ others
listed_more all before after piece rest others was e a = was ∙ ap (λ l. before ++ l) e ∙ sym (append_assoc before piece others) ∙ ap (λ l. l ++ others) (sym a)

-- One more.
pub pushed : {A B : Type 0} (f : A → B) (old new : List A) (x : A) (v : B) → new ≡ old ++ x ∷ [] → f x ≡ v → map f new ≡ map f old ++ v ∷ []
pushed f old new x v e w = ap (map f) e ∙ map-append f old (x ∷ []) ∙ ap (λ y. map f old ++ y ∷ []) w

-- None are left.
pub listed_all : {A : Type 0} (all before rest : List A) → all ≡ before ++ rest → rest ≡ [] → all ≡ before
listed_all all before rest was e = was ∙ ap (λ l. before ++ l) e ∙ append-nil before

-- Out of memory tells nothing, and so suits each fault.
pub memory_tells : (o : Option Fault) → Tells o error.OutOfMemory
memory_tells None = tt
memory_tells (Some f) = tt

-- What tells the first fault tells the first of both.
pub tells_first : (o p : Option Fault) (e : ModuleError) → Tells o e → Tells (option_or o p) e
tells_first (Some f) p e h = h
tells_first None p (error.Refused file place c) h = absurd h
tells_first None p error.OutOfMemory h = memory_tells p

-- A check after one that found nothing.
pub checks_second : {A : Type 0} (o p : Option Fault) (r : Result A ModuleError) → o ≡ None → Checks p r → Checks (option_or o p) r
checks_second o p r e h = subst (λ x. Checks (option_or x p) r) (sym e) h

module _ {A B : Type 0} (f : B → Option Fault) (g : A → B) (xs : List A) where
  -- From a place on.
  found_step : (i : ℕ) (x : A) → i < length xs → x ≡ get_or xs i x → first_found f (map g (drop i xs)) ≡ option_or (f (g x)) (first_found f (map g (drop (i + 1) xs)))
  found_step i x h e = ap (λ l. first_found f (map g l)) (drop_at xs i x h e)

  pub found_behind : (o : Option Fault) (i : ℕ) (x : A) → i < length xs → x ≡ get_or xs i x → o ≡ first_found f (map g (drop i xs)) → f (g x) ≡ None → o ≡ first_found f (map g (drop (i + 1) xs))
  found_behind o i x h e was none = was ∙ found_step i x h e ∙ ap (λ p. option_or p (first_found f (map g (drop (i + 1) xs)))) none

  pub found_here : (o : Option Fault) (e : ModuleError) (i : ℕ) (x : A) → i < length xs → x ≡ get_or xs i x → o ≡ first_found f (map g (drop i xs)) → Tells (f (g x)) e → Tells o e
  found_here o e i x h is was told = subst (λ p. Tells p e) (sym (was ∙ found_step i x h is)) (tells_first (f (g x)) (first_found f (map g (drop (i + 1) xs))) e told)

  pub found_nowhere : (o : Option Fault) (i : ℕ) → length xs ≤ i → o ≡ first_found f (map g (drop i xs)) → o ≡ None
  found_nowhere o i h was = was ∙ ap (λ l. first_found f (map g l)) (drop_all i xs h)

-- What is reported of a list is reported of another that it is.
pub tells_at : {A : Type 0} (f : List A → Option Fault) (xs ys : List A) (e : ModuleError) → xs ≡ ys → Tells (f xs) e → Tells (f ys) e
tells_at f xs ys e s h = subst (λ l. Tells (f l) e) s h
