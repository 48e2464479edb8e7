-- Which type or value a name stands for.
use Rattle.std.specs.Prelude.{ℕ, List, [], ◌∷◌, map, reverse, Bool, ◌&&◌, ◌||◌, nat_eq, if◌then◌else◌, is_some, Option, Some, None}
use Rattle.std.specs.Option.{option_and_then, option_or}
use Rattle.std.specs.Str.{bytes_eq}
use Rattle.asn_modules_names.specs.lookup.Entries.{import_entries, module_entries, keys_of, numbered}
use Rattle.asn_modules_names.specs.lookup.Homes.{homes}
use Rattle.asn_modules_names.specs.declared.lookup.sort.Sort.{Sort}
use Rattle.asn_modules_names.specs.Mentions.{Source}

-- What stands beside a key, the last time that it is there.
abbrev pub last_of : {K X : Type 0} → (K → K → Bool) → List (K × X) → K → Option X
last_of same [] q = None
last_of same (e ∷ es) q = option_or (last_of same es q) (if same e.0 q then Some e.1 else None)

-- The same number of a module, and the same name.
abbrev pub same_key : ℕ × List ℕ → ℕ × List ℕ → Bool
same_key k q = nat_eq k.0 q.0 && bytes_eq k.1 q.1

-- The names that assignments of the sort assign, each with its number: it is the place among all of
-- them.
abbrev pub assigned : Sort → List Source → List ((ℕ × List ℕ) × ℕ)
assigned sort ss = numbered 0 (keys_of sort 0 (homes ss))

-- The same without the numbers of modules.
abbrev pub named : Sort → List Source → List (List ℕ × ℕ)
named sort ss = map (λ e. (e.0.1, e.1)) (assigned sort ss)

-- The number, where both are the same.
abbrev pub if_same : Option ℕ → Option ℕ → Option ℕ
if_same (Some m) (Some n) = if nat_eq m n then Some m else None
if_same m n = None

-- The number of the one type or value of this name in all modules: it is the first and the last.
abbrev pub only : Sort → List Source → List ℕ → Option ℕ
only sort ss name =
    if_same (last_of bytes_eq (named sort ss) name)
    (last_of bytes_eq (reverse (named sort ss)) name)

-- The number of the one of this name in the module of this name.
abbrev pub in_module : Sort → List Source → List ℕ → List ℕ → Option ℕ
in_module sort ss home name =
    option_and_then (λ k. last_of same_key (assigned sort ss) (k, name))
    (last_of bytes_eq (module_entries 0 (homes ss)) home)

-- The number of the one that the module of number k imports by this name: the one in the module
-- that it is imported from, else the only one of this name.
abbrev pub imported : Sort → List Source → ℕ → List ℕ → Option ℕ
imported sort ss k name =
    option_and_then (λ home. option_or (in_module sort ss home name) (only sort ss name))
    (last_of same_key (import_entries 0 (homes ss)) (k, name))

-- The number of the one that a name stands for in the module of number k: after the name of a
-- module, the one of that module; else its own, else the one that it imports. There is none where
-- it is missing.
abbrev pub found : Sort → List Source → ℕ → Option (List ℕ) → List ℕ → Option ℕ
found sort ss k (Some home) name = in_module sort ss home name
found sort ss k None name =
    option_or (last_of same_key (assigned sort ss) (k, name)) (imported sort ss k name)

-- The module of number k assigns this name to one of the sort, or imports the name.
abbrev pub is_known : Sort → List Source → ℕ → List ℕ → Bool
is_known sort ss k name =
    is_some (last_of same_key (assigned sort ss) (k, name))
    || is_some (last_of same_key (import_entries 0 (homes ss)) (k, name))
