-- The names of types that modules assign.
use Rattle.std.specs.Prelude.{ℕ, suc, List, [], ◌∷◌, ◌++◌, map, string_bytes, Bool, ◌||◌, if◌then◌else◌, Option, Some, None}
use Rattle.std.specs.Str.{bytes_eq}
use Rattle.asn_modules_grammar.specs.headers.Headers.{Header}
use Rattle.asn_modules.specs.declared.names.TypeName as code
use Rattle.asn_modules_names.specs.lookup.Homes.{Home}
use Rattle.asn_modules_names.specs.declared.lookup.sort.Sort.TheVariants.{Types}
use Rattle.asn_modules_names.specs.Assigned.{assigned_name}
use Rattle.asn_modules_names.specs.Mentions.{Source}
use Rattle.asn_modules_types.specs.Assigned.{Assigned, assigned}
use Rattle.asn_modules_types.specs.Scopes.{name_in}

-- The name of a type, and that of its module.
pub record TypeName : Type 0 where
  pub home : List ℕ
  pub name : List ℕ

abbrev pub type_name_view : code.TypeName → TypeName
type_name_view n = record { home = string_bytes n.module; name = string_bytes n.name }

abbrev pub headed_by : List ℕ → Option Header → List ℕ
headed_by text None = []
headed_by text (Some h) = name_in text h.opening.name

-- The name of the module; it is empty where it has none.
abbrev pub home_name : Home → List ℕ
home_name h = headed_by h.source.text h.parsed.header

abbrev pub type_name_of : Assigned → TypeName
type_name_of a =
    record { home = home_name a.home; name = name_in a.home.source.text (assigned_name a.assignment) }

-- The names of the types that are assigned, in the order of their numbers.
abbrev pub type_names : List Source → List TypeName
type_names ss = map type_name_of (assigned Types ss)

-- The bytes name the type: by its name, or by that of its module, a point and its name.
abbrev pub is_named : TypeName → List ℕ → Bool
is_named t text = bytes_eq text t.name || bytes_eq text (t.home ++ 46 ∷ t.name)

-- The numbers of the types that the bytes name, of which the first has number n.
abbrev pub numbers_named : ℕ → List TypeName → List ℕ → List ℕ
numbers_named n [] text = []
numbers_named n (t ∷ ts) text =
    if is_named t text then n ∷ numbers_named (suc n) ts text else numbers_named (suc n) ts text

-- What stands alone in a list.
abbrev pub the_one : List ℕ → Option ℕ
the_one (n ∷ []) = Some n
the_one ns = None

-- The number of the one type that the bytes name.
abbrev pub number_named : List TypeName → List ℕ → Option ℕ
number_named ts text = the_one (numbers_named 0 ts text)
