-- The first names that are unknown.
use Rattle.std.proofs.Common.{◌≡◌, ◌≤◌, ℕ, ◌+◌, ◌<◌, List, Bool, true, false, if◌then◌else◌, Option, Some, None, refl, sym, ap, subst, ◌∙◌, get_or, drop, length, map, add-one, suc}
use Rattle.std.proofs.lemmas.List.{at_drop_all, at_drop_more}
use Rattle.std.specs.Option.{option_or}
use Rattle.asn_lexer.specs.declared.token.Token.{Token}
use Rattle.asn_modules_errors.specs.declared.cause.NameRule.TheVariants.{NotAssigned}
use Rattle.asn_modules_errors.specs.declared.error.ModuleError.{ModuleError}
use Rattle.asn_modules_names.specs.lookup.Homes.{Home, bytes_in}
use Rattle.asn_modules_names.specs.lookup.Lookup.{is_known}
use Rattle.asn_modules_names.specs.declared.lookup.sort.Sort.{Sort}
use Rattle.asn_modules_names.specs.Assigned.{first_found}
use Rattle.asn_modules_names.specs.Faults.{Fault, Tells, fault_of}
use Rattle.asn_modules_names.specs.Mentions.{Mention, Source, mention_in}
use Rattle.asn_modules_names.specs.references.References.{unknown}

module _ (sort : Sort) (ss : List Source) (k : ℕ) (h : Home) (ts : List Token) where
  -- The first unknown name from a place on.
  abbrev pub unknown_from : ℕ → Option Fault
  unknown_from i = first_found (unknown sort ss k h) (drop i ts)

  step : (i : ℕ) (d : Token) → i < length ts → (b : Bool) (name : List ℕ) → b ≡ is_known sort ss k name → name ≡ bytes_in h (get_or ts i d)
      → unknown_from i ≡ option_or (if b then None else Some (fault_of NotAssigned (mention_in h.source (get_or ts i d)))) (unknown_from (i + 1))
  step i d l b name e n =
      at_drop_more (first_found (unknown sort ss k h)) ts i d l
      ∙ ap (λ x. option_or (if x then None else Some (fault_of NotAssigned (mention_in h.source (get_or ts i d)))) (unknown_from (i + 1))) (sym (e ∙ ap (is_known sort ss k) n))

  pub known_passed : (i : ℕ) (d : Token) → i < length ts → (b : Bool) (name : List ℕ) → b ≡ is_known sort ss k name → name ≡ bytes_in h (get_or ts i d) → b ≡ true → unknown_from 0 ≡ unknown_from i → unknown_from 0 ≡ unknown_from (i + 1)
  known_passed i d l b name e n t was = was ∙ step i d l b name e n ∙ ap (λ x. option_or (if x then None else Some (fault_of NotAssigned (mention_in h.source (get_or ts i d)))) (unknown_from (i + 1))) t

  pub unknown_told : (i : ℕ) (d : Token) → i < length ts → (b : Bool) (name : List ℕ) (e : ModuleError) (m : Mention) → b ≡ is_known sort ss k name → name ≡ bytes_in h (get_or ts i d) → b ≡ false → unknown_from 0 ≡ unknown_from i
      → m ≡ mention_in h.source (get_or ts i d) → Tells (Some (fault_of NotAssigned m)) e → Tells (unknown_from 0) e
  unknown_told i d l b name e m h' n f was at told =
      subst (λ o. Tells o e) (sym (was ∙ step i d l b name h' n ∙ ap (λ x. option_or (if x then None else Some (fault_of NotAssigned (mention_in h.source (get_or ts i d)))) (unknown_from (i + 1))) f))
      (subst (λ x. Tells (Some (fault_of NotAssigned x)) e) at told)

  pub all_known : (i : ℕ) → length ts ≤ i → unknown_from 0 ≡ unknown_from i → unknown_from 0 ≡ None
  all_known i l was = was ∙ at_drop_all (first_found (unknown sort ss k h)) ts i l
