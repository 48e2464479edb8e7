-- The names that are too large for COMPONENTS OF.
use Rattle.std.specs.Prelude.{◌≡◌, ℕ, zero, suc, List, [], ◌∷◌, ◌++◌, map, Bool, is_some, Option, Some, None, Result, Ok, Err}
use Rattle.std.specs.List.{slice_get}
use Rattle.asn_modules_errors.specs.declared.cause.NameRule.TheVariants.{TooLarge}
use Rattle.asn_modules_errors.specs.declared.error.ModuleError.{ModuleError}
use Rattle.asn_modules_rules.specs.included.Extents.{Extent, Inclusions, around, included_extent, left_behind, named_extent, nothing, type_extent}
use Rattle.asn_modules_rules.specs.included.Types.{AssignedType, stands_for, type_named, types_of}
use Rattle.asn_modules_rules.specs.declared.included.limits.TheConstants.{INCLUDED_LEVEL_LIMIT, INCLUDED_SIZE_LIMIT, INSTANCE_SIZE, NAME_LIMIT}
use Rattle.asn_modules_rules.specs.declared.included.names.TypeName.{TypeName}
use Rattle.asn_modules_names.specs.lookup.Homes.{Home, homes}
use Rattle.asn_modules_names.specs.Faults.{Fault, Tells, fault_of}
use Rattle.asn_modules_names.specs.Mentions.{Source, mention_in}
use Rattle.asn_modules_grammar.specs.notation.Notation.{Notation}

-- What the type of the number includes, if it is known.
abbrev pub extent_or : (ℕ → Extent) → Option ℕ → Extent
extent_or f None = nothing
extent_or f (Some n) = f n

-- What names in the module of number k include, where types of these numbers include these.
abbrev pub inclusions : List Source → ℕ → Home → (ℕ → Extent) → Inclusions
inclusions ss k h f =
    λ home name. extent_or f (type_named ss k h (record { home = home; name = name }))

-- What COMPONENTS OF a type includes with the type, where types of these numbers include these.
abbrev pub extent_by : List Source → (ℕ → Extent) → Option AssignedType → Extent
extent_by ss f None = nothing
extent_by ss f (Some t) = included_extent (inclusions ss t.number t.home f) t.notation

-- What COMPONENTS OF the type of number n includes with the type, past at most so many names.
unfoldable pub included : List Source → List AssignedType → ℕ → ℕ → Extent
included ss ts zero n = nothing
included ss ts (suc more) n = extent_by ss (included ss ts more) (slice_get ts n)

-- The type in the module of number k counts as little as one with actual parameters may that stands
-- in place of a name.
abbrev pub is_small : List Source → ℕ → Home → Notation → Bool
is_small ss k h n =
    is_some
    (left_behind (type_extent (inclusions ss k h (included ss [] 0)) n) INSTANCE_SIZE INCLUDED_LEVEL_LIMIT)

-- A name after COMPONENTS OF, and the type that it stands in.
pub record Counted : Type 0 where
  pub within : AssignedType
  pub name : TypeName

-- The name with all that COMPONENTS OF it includes.
abbrev pub extent_of : List Source → List AssignedType → Counted → Extent
extent_of ss ts x =
    around
    (named_extent (inclusions ss x.within.number x.within.home (included ss ts NAME_LIMIT)) x.name.home x.name.name)

-- The names after COMPONENTS OF in the type.
abbrev pub counted_in : AssignedType → List Counted
counted_in t = map (λ x. record { within = t; name = x }) t.behind

-- Those in these types, in order. A type that is a name has those of the type that it stands for.
abbrev pub counted_of : List AssignedType → List AssignedType → List Counted
counted_of ts [] = []
counted_of ts (t ∷ us) = counted_in (stands_for ts NAME_LIMIT t) ++ counted_of ts us

-- The fault, or what follows with what is left.
abbrev pub told_or : Fault → (ℕ → Option Fault) → Option ℕ → Option Fault
told_or fault follows None = Some fault
told_or fault follows (Some left) = follows left

-- The first of these names that is too large, where so many bytes are left: it includes more than
-- those before it left, or more levels than the limit.
abbrev pub too_large_from : List Source → List AssignedType → ℕ → List Counted → Option Fault
too_large_from ss ts left [] = None
too_large_from ss ts left (x ∷ xs) =
    told_or (fault_of TooLarge (mention_in x.within.home.source x.name.name))
    (λ l. too_large_from ss ts l xs) (left_behind (extent_of ss ts x) left INCLUDED_LEVEL_LIMIT)

-- A check of these names, where so many bytes are left, succeeds with what they leave, or tells the
-- first that is too large, whatever names follow them.
abbrev pub IsChecked : List Source → List AssignedType → ℕ → List Counted → Result ℕ ModuleError
    → Type 0
IsChecked ss ts left xs (Ok rest) =
    (others : List Counted)
    → too_large_from ss ts left (xs ++ others) ≡ too_large_from ss ts rest others
IsChecked ss ts left xs (Err e) =
    (others : List Counted) → Tells (too_large_from ss ts left (xs ++ others)) e

-- The first name that is too large where these types are assigned.
abbrev pub first_too_large_in : List Source → List AssignedType → Option Fault
first_too_large_in ss ts = too_large_from ss ts INCLUDED_SIZE_LIMIT (counted_of ts ts)

-- The first name with which COMPONENTS OF includes more bytes than the limit, those of all names
-- before it counted too, or which includes more levels than the limit.
abbrev pub first_too_large : List Source → Option Fault
first_too_large ss = first_too_large_in ss (types_of ss 0 (homes ss))
