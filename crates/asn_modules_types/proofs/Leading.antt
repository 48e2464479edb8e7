-- The values that names of values lead to.
use Rattle.std.proofs.Common.{◌≡◌, ℕ, zero, suc, ◌+◌, List, [], ◌∷◌, true, false, Option, Some, None, is_some, refl, sym, ap, ◌∙◌, arith, Bool}
use Rattle.std.specs.List.{slice_get}
use Rattle.std.specs.Option.{option_and_then, option_map, option_or}
use Rattle.asn_modules_names.specs.declared.lookup.sort.Sort.TheVariants.{Values}
use Rattle.asn_modules_names.specs.Assigned.{first_found}
use Rattle.asn_modules_names.specs.Mentions.{Source}
use Rattle.asn_modules_grammar.specs.declared.notation.value.Value.{Value}
use Rattle.asn_modules_types.specs.Assigned.{Assigned, assigned}
use Rattle.asn_modules_types.specs.Values.{StatedValue, if_stated, in_text, next_value, number_named, stated, value_in, values_from, followed}

-- The value that is assigned to the name that a value is.
module _ (ss : List Source) (numeric : Bool) (v : StatedValue) where
  abbrev next_of : Option ℕ → Option StatedValue
  next_of o = option_and_then (stated numeric) (option_and_then (λ n. slice_get (assigned Values ss) n) o)

  pub next_unnamed : None ≡ number_named ss v.number v.home v.value → None ≡ next_value ss numeric v
  next_unnamed e = ap next_of e

  module _ (n : ℕ) (list : List Assigned) (named : Some n ≡ number_named ss v.number v.home v.value) (all : list ≡ assigned Values ss) where
    next_there : (o : Option Assigned) → o ≡ slice_get list n → option_and_then (stated numeric) o ≡ next_value ss numeric v
    next_there o e = ap (option_and_then (stated numeric)) (e ∙ ap (λ l. slice_get l n) all) ∙ ap next_of named

    pub next_missing : None ≡ slice_get list n → None ≡ next_value ss numeric v
    next_missing e = next_there None e

    pub next_typed : (a : Assigned) → Some a ≡ slice_get list n → None ≡ followed numeric a.assignment → None ≡ next_value ss numeric v
    next_typed a e f = ap (option_map (value_in a.number a.home)) f ∙ next_there (Some a) e

    pub next_made : (a : Assigned) (x : Value) → Some a ≡ slice_get list n → Some x ≡ followed numeric a.assignment → Some (value_in a.number a.home x) ≡ next_value ss numeric v
    next_made a x e f = ap (option_map (value_in a.number a.home)) f ∙ next_there (Some a) e

values_zero : (ss : List Source) (numeric : Bool) (v : StatedValue) → values_from ss numeric zero v ≡ in_text v ∷ []
unfolding values_from
values_zero ss numeric v = refl

values_suc : (ss : List Source) (numeric : Bool) (less : ℕ) (v : StatedValue) → values_from ss numeric (suc less) v ≡ in_text v ∷ if_stated (values_from ss numeric less) (next_value ss numeric v)
unfolding values_from
values_suc ss numeric less v = refl

pub none_is : {A : Type 0} (o p : Option A) → o ≡ p → is_some o ≡ false → None ≡ p
none_is None p e h = e
none_is (Some x) p e h = cc h

-- The first of them with what f gives.
module _ {A : Type 0} (f : List ℕ × Value → Option A) (ss : List Source) (numeric : Bool) where
  -- It is the value itself.
  pub leads_here : (more : ℕ) (v : StatedValue) (x : A) → Some x ≡ f (in_text v) → Some x ≡ first_found f (values_from ss numeric more v)
  leads_here zero v x e = sym (ap (first_found f) (values_zero ss numeric v) ∙ ap (λ o. option_or o None) (sym e))
  leads_here (suc less) v x e = sym (ap (first_found f) (values_suc ss numeric less v) ∙ ap (λ o. option_or o (first_found f (if_stated (values_from ss numeric less) (next_value ss numeric v)))) (sym e))

  pub leads_some : (more : ℕ) (v : StatedValue) (o : Option A) → o ≡ f (in_text v) → is_some o ≡ true → o ≡ first_found f (values_from ss numeric more v)
  leads_some more v None e h = cc h
  leads_some more v (Some x) e h = leads_here more v x e

  -- No more names are followed.
  pub leads_no_further : (more : ℕ) (v : StatedValue) → more ≡ 0 → None ≡ f (in_text v) → None ≡ first_found f (values_from ss numeric more v)
  leads_no_further zero v m e = sym (ap (first_found f) (values_zero ss numeric v) ∙ ap (λ o. option_or o None) (sym e))
  leads_no_further (suc less) v m e = absurd (omega (arith, m))

  leads_behind : (more less : ℕ) (v : StatedValue) → more ≡ less + 1 → None ≡ f (in_text v) → first_found f (if_stated (values_from ss numeric less) (next_value ss numeric v)) ≡ first_found f (values_from ss numeric more v)
  leads_behind more less v m e =
      let above : more ≡ suc less = omega (arith, m) in
      sym (ap (λ k. first_found f (values_from ss numeric k v)) above ∙ ap (first_found f) (values_suc ss numeric less v)
      ∙ ap (λ o. option_or o (first_found f (if_stated (values_from ss numeric less) (next_value ss numeric v)))) (sym e))

  -- It is one of those that the next value leads to, or there is none.
  pub leads_on : (more less : ℕ) (v w : StatedValue) → more ≡ less + 1 → None ≡ f (in_text v) → Some w ≡ next_value ss numeric v → first_found f (values_from ss numeric less w) ≡ first_found f (values_from ss numeric more v)
  leads_on more less v w m e n = ap (λ o. first_found f (if_stated (values_from ss numeric less) o)) n ∙ leads_behind more less v m e

  pub leads_nowhere : (more less : ℕ) (v : StatedValue) → more ≡ less + 1 → None ≡ f (in_text v) → None ≡ next_value ss numeric v → None ≡ first_found f (values_from ss numeric more v)
  leads_nowhere more less v m e n = ap (λ o. first_found f (if_stated (values_from ss numeric less) o)) n ∙ leads_behind more less v m e
