-- The types that modules assign.
use Rattle.std.specs.Prelude.{ℕ, zero, suc, List, [], ◌∷◌, ◌++◌, filter_map, unwrap_or, Option, Some, None}
use Rattle.std.specs.List.{slice_get}
use Rattle.std.specs.Option.{option_and_then, option_map}
use Rattle.asn_modules_rules.specs.included.Behind.{behind, name_of}
use Rattle.asn_modules_rules.specs.declared.included.names.TypeName.{TypeName}
use Rattle.asn_modules_rules.specs.declared.included.types.AssignedType as code
use Rattle.asn_modules_names.specs.lookup.Homes.{Home, bytes_in, home_view}
use Rattle.asn_modules_names.specs.lookup.Lookup.{found}
use Rattle.asn_modules_names.specs.declared.lookup.sort.Sort.TheVariants.{Types}
use Rattle.asn_modules_names.specs.Mentions.{Source}
use Rattle.asn_modules_grammar.specs.notation.Modules.{Assignment, type_assignment}
use Rattle.asn_modules_grammar.specs.notation.Notation.{Notation}
use Rattle.asn_modules_grammar.specs.notation.View.{notation_view}

-- A type that is assigned, with its module and the number of that; the names after COMPONENTS OF
-- in it; and the number of the type that it is the name of, if it is one.
pub record AssignedType : Type 0 where
  pub number : ℕ
  pub home : Home
  pub notation : Notation
  pub behind : List TypeName
  pub next : Option ℕ

abbrev pub type_view : code.AssignedType → AssignedType
type_view t =
    record { number = t.number; home = home_view t.home; notation = notation_view t.notation.now; behind = t.behind.items; next = t.next }

-- The number of the type of the name in the module of number k, if it is known there.
abbrev pub type_named : List Source → ℕ → Home → TypeName → Option ℕ
type_named ss k h x = found Types ss k (option_map (bytes_in h) x.home) (bytes_in h x.name)

-- What is assigned in the module of number k, where it is a type.
abbrev pub type_as : List Source → ℕ → Home → Assignment → Option AssignedType
type_as ss k h (type_assignment name n) =
    Some
    (record { number = k; home = h; notation = n; behind = behind n; next = option_and_then (type_named ss k h) (name_of n) })
type_as ss k h a = None

-- The types among the assignments of a module.
abbrev pub types_in : List Source → ℕ → Home → List Assignment → List AssignedType
types_in ss k h assignments = filter_map (type_as ss k h) assignments

-- Those of these modules, of which the first has number k.
abbrev pub types_of : List Source → ℕ → List Home → List AssignedType
types_of ss k [] = []
types_of ss k (h ∷ hs) = types_in ss k h h.parsed.assignments ++ types_of ss (suc k) hs

-- The type that this one is the name of, if it is one.
abbrev pub next_type : List AssignedType → AssignedType → Option AssignedType
next_type ts t = option_and_then (slice_get ts) t.next

-- The type that this one stands for: itself, and where it is a name, the type of that name, past at
-- most so many names.
unfoldable pub stands_for : List AssignedType → ℕ → AssignedType → AssignedType
stands_for ts zero t = t
stands_for ts (suc more) t = unwrap_or (option_map (stands_for ts more) (next_type ts t)) t
