-- Copies of types.
use Rattle.std.proofs.Common.{◌≡◌, ◌-◌, ℕ, List, Bool, true, false, if◌then◌else◌, nat_le, Option, Some, None, refl, ap, ◌∙◌}
use Rattle.std.specs.List.{slice_get}
use Rattle.asn_model.specs.Shape.{Shape}
use Rattle.asn_modules_names.specs.lookup.Homes.{Home}
use Rattle.asn_modules_names.specs.declared.lookup.sort.Sort.TheVariants.{Types}
use Rattle.asn_modules_names.specs.Mentions.{Source}
use Rattle.asn_modules_grammar.specs.notation.Notation.{Notation, enumerated}
use Rattle.asn_modules_grammar.specs.declared.notation.number.Item.{Item}
use Rattle.asn_modules_rules.specs.sizes.Sizes.{items_size, past}
use Rattle.asn_modules_types.specs.Assigned.{Assigned, assigned, notation_of}
use Rattle.asn_modules_types.specs.Leaves.{enumerated_shape}
use Rattle.asn_modules_types.specs.Linked.{base_of, copied_base, copied_by, copied_type, is_extensible}
use Rattle.asn_modules_types.specs.declared.limits.TheConstants.{DEFAULT_ITEMS_LIMIT}

-- What fits leaves something, and what doesn't leaves nothing.
fits : {A : Type 0} (size limit left : ℕ) (x y : A) → Some left ≡ past limit size → x ≡ (if nat_le size limit then x else y)
fits size limit left x y = by (nat_le size limit)
  where
    by : (b : Bool) → Some left ≡ (if b then Some (limit - size) else None) → x ≡ (if b then x else y)
    by true e = refl
    by false e = cc e

exceeds : {A : Type 0} (size limit : ℕ) (x y : A) → None ≡ past limit size → y ≡ (if nat_le size limit then x else y)
exceeds size limit x y = by (nat_le size limit)
  where
    by : (b : Bool) → None ≡ (if b then Some (limit - size) else None) → y ≡ (if b then x else y)
    by true e = cc e
    by false e = refl

-- An ENUMERATED of few items, and one of many.
module _ (n : ℕ) (h : Home) (items : List (Option Item)) where
  pub few_copied : (left : ℕ) → Some left ≡ past DEFAULT_ITEMS_LIMIT (items_size items) → enumerated_shape h.source.text (is_extensible h.parsed.header) items ≡ copied_base n h (enumerated items)
  few_copied left e = fits (items_size items) DEFAULT_ITEMS_LIMIT left (enumerated_shape h.source.text (is_extensible h.parsed.header) items) (Shape.back n) e

  pub many_named : None ≡ past DEFAULT_ITEMS_LIMIT (items_size items) → Shape.back n ≡ copied_base n h (enumerated items)
  many_named e = exceeds (items_size items) DEFAULT_ITEMS_LIMIT (enumerated_shape h.source.text (is_extensible h.parsed.header) items) (Shape.back n) e

-- The type of number n is assigned, or missing.
module _ (ss : List Source) (n : ℕ) (list : List Assigned) (all : list ≡ assigned Types ss) where
  copied_there : (o : Option Assigned) → o ≡ slice_get list n → copied_by n o ≡ copied_type ss n
  copied_there o e = ap (copied_by n) (e ∙ ap (λ l. slice_get l n) all)

  pub copied_assigned : (t : Assigned) (held : Notation) → Some t ≡ slice_get list n → held ≡ notation_of t.assignment → copied_base n t.home (base_of held) ≡ copied_type ss n
  copied_assigned t held e is = ap (λ x. copied_base n t.home (base_of x)) is ∙ copied_there (Some t) e

  pub copied_missing : None ≡ slice_get list n → Shape.back n ≡ copied_type ss n
  copied_missing e = copied_there None e
