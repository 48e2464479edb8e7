-- The modules that modules import from and that none of the texts has. What stands after FROM names
-- another module (X.680, section 13); modules are found only by their names.
use Rattle.std.specs.Prelude.{ℕ, List, [], ◌∷◌, ◌++◌, map, if◌then◌else◌}
use Rattle.asn_lexer.specs.declared.token.Token.{Token}
use Rattle.asn_model.specs.Shape.{is_item}
use Rattle.asn_modules_names.specs.lookup.Entries.{imports_of}
use Rattle.asn_modules_names.specs.lookup.Homes.{Home, homes}
use Rattle.asn_modules_names.specs.Assigned.{all_module_names}
use Rattle.asn_modules_names.specs.Mentions.{Mention, Source, mention_in, name_of}

-- The names after FROM in these imports of a module of the text, in order.
abbrev pub origins_in : Source → List (List Token × Token) → List Mention
origins_in s is = map (λ i. mention_in s i.1) is

-- Those in all these modules, in order.
abbrev pub origins_of : List Home → List Mention
origins_of [] = []
origins_of (h ∷ hs) = origins_in h.source (imports_of h.parsed.header) ++ origins_of hs

-- Those of the names that are none of the known ones, each where it stands first.
abbrev pub new_names : List (List ℕ) → List Mention → List Mention
new_names known [] = []
new_names known (m ∷ ms) =
    if is_item known (name_of m) then new_names known ms
    else m ∷ new_names (known ++ name_of m ∷ []) ms

-- The modules that modules of these texts import from and that none of the texts has, each where it
-- is named first after FROM.
abbrev pub missing_modules : List Source → List Mention
missing_modules ss = new_names (map name_of (all_module_names ss)) (origins_of (homes ss))
