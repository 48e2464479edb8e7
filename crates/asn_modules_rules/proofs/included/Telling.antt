-- The first name that is too large, from a name or a type on.
use Rattle.std.proofs.Common.{◌≡◌, ◌≤◌, ◌<◌, ◌+◌, ℕ, List, ◌++◌, map, drop, get_or, length, Option, Some, None, sym, ap, subst, ◌∙◌}
use Rattle.std.proofs.lemmas.List.{drop_all, drop_more}
use Rattle.asn_modules_errors.specs.declared.cause.NameRule.TheVariants.{TooLarge}
use Rattle.asn_modules_errors.specs.declared.error.ModuleError.{ModuleError}
use Rattle.asn_modules_rules.specs.included.Extents.{left_behind}
use Rattle.asn_modules_rules.specs.included.TooLarge.{Counted, counted_in, counted_of, extent_of, told_or, too_large_from}
use Rattle.asn_modules_rules.specs.included.Types.{AssignedType, stands_for, type_view}
use Rattle.asn_modules_rules.specs.declared.included.limits.TheConstants.{INCLUDED_LEVEL_LIMIT, NAME_LIMIT}
use Rattle.asn_modules_rules.specs.declared.included.names.TypeName.{TypeName}
use Rattle.asn_modules_rules.specs.declared.included.types.AssignedType as code
use Rattle.asn_modules_names.proofs.Founds.{drop_at}
use Rattle.asn_modules_names.specs.Faults.{Fault, Tells, fault_of}
use Rattle.asn_modules_names.specs.Mentions.{Mention, Source, mention_in}

module _ (ss : List Source) (ts : List AssignedType) where
  -- Of the names in a type, before others.
  module _ (t : AssignedType) (others : List Counted) where
    abbrev pub counted : TypeName → Counted
    counted x = record { within = t; name = x }

    abbrev pub told_from : List TypeName → ℕ → Option Fault
    told_from names left = too_large_from ss ts left (map counted names ++ others)

    step : (names : List TypeName) (i left : ℕ) (d : TypeName) → i < length names
        → told_from (drop i names) left ≡ told_or (fault_of TooLarge (mention_in t.home.source (get_or names i d).name)) (told_from (drop (i + 1) names)) (left_behind (extent_of ss ts (counted (get_or names i d))) left INCLUDED_LEVEL_LIMIT)
    step names i left d h = ap (λ l. told_from l left) (drop_more names i d h)

    pub name_passed : (all : Option Fault) (names : List TypeName) (i left rest : ℕ) (d : TypeName) → i < length names → all ≡ told_from (drop i names) left
        → Some rest ≡ left_behind (extent_of ss ts (counted (get_or names i d))) left INCLUDED_LEVEL_LIMIT → all ≡ told_from (drop (i + 1) names) rest
    name_passed all names i left rest d h was is = was ∙ step names i left d h ∙ ap (told_or (fault_of TooLarge (mention_in t.home.source (get_or names i d).name)) (told_from (drop (i + 1) names))) (sym is)

    pub name_told : (all : Option Fault) (names : List TypeName) (i left : ℕ) (d : TypeName) (m : Mention) (e : ModuleError) → i < length names → all ≡ told_from (drop i names) left
        → None ≡ left_behind (extent_of ss ts (counted (get_or names i d))) left INCLUDED_LEVEL_LIMIT → m ≡ mention_in t.home.source (get_or names i d).name → Tells (Some (fault_of TooLarge m)) e → Tells all e
    name_told all names i left d m e h was none at told =
        subst (λ o. Tells o e) (sym (was ∙ step names i left d h ∙ ap (told_or (fault_of TooLarge (mention_in t.home.source (get_or names i d).name)) (told_from (drop (i + 1) names))) (sym none)))
        (subst (λ y. Tells (Some (fault_of TooLarge y)) e) at told)

    pub names_end : (all : Option Fault) (names : List TypeName) (i left : ℕ) → length names ≤ i → all ≡ told_from (drop i names) left → all ≡ too_large_from ss ts left others
    names_end all names i left h was = was ∙ ap (λ l. told_from l left) (drop_all i names h)

  -- Of the names in types.
  abbrev pub told_in : List code.AssignedType → ℕ → Option Fault
  told_in us left = too_large_from ss ts left (counted_of ts (map type_view us))

  types_step : (us : List code.AssignedType) (i left : ℕ) (u : code.AssignedType) (t : AssignedType) → i < length us → u ≡ get_or us i u → t ≡ stands_for ts NAME_LIMIT (type_view u)
      → told_in (drop i us) left ≡ too_large_from ss ts left (counted_in t ++ counted_of ts (map type_view (drop (i + 1) us)))
  types_step us i left u t h e is =
      ap (λ l. told_in l left) (drop_at us i u h e) ∙ ap (λ y. too_large_from ss ts left (counted_in y ++ counted_of ts (map type_view (drop (i + 1) us)))) (sym is)

  pub type_passed : (all : Option Fault) (us : List code.AssignedType) (i left rest : ℕ) (u : code.AssignedType) (t : AssignedType) → i < length us → u ≡ get_or us i u → t ≡ stands_for ts NAME_LIMIT (type_view u) → all ≡ told_in (drop i us) left
      → ((others : List Counted) → too_large_from ss ts left (counted_in t ++ others) ≡ too_large_from ss ts rest others) → all ≡ told_in (drop (i + 1) us) rest
  type_passed all us i left rest u t h e is was passes = was ∙ types_step us i left u t h e is ∙ passes (counted_of ts (map type_view (drop (i + 1) us)))

  pub type_told : (all : Option Fault) (us : List code.AssignedType) (i left : ℕ) (u : code.AssignedType) (t : AssignedType) (e : ModuleError) → i < length us → u ≡ get_or us i u → t ≡ stands_for ts NAME_LIMIT (type_view u) → all ≡ told_in (drop i us) left
      → ((others : List Counted) → Tells (too_large_from ss ts left (counted_in t ++ others)) e) → Tells all e
  type_told all us i left u t e h at is was tells =
      subst (λ o. Tells o e) (sym (was ∙ types_step us i left u t h at is)) (tells (counted_of ts (map type_view (drop (i + 1) us))))

  pub types_end : (all : Option Fault) (us : List code.AssignedType) (i left : ℕ) → length us ≤ i → all ≡ told_in (drop i us) left → all ≡ None
  types_end all us i left h was = was ∙ ap (λ l. told_in l left) (drop_all i us h)
