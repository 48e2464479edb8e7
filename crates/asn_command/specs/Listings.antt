-- Lines on the types of modules.
use Rattle.std.specs.Prelude.{ℕ, ◌==◌, List, [], ◌∷◌, ◌++◌, codes, decimal, length, map, if◌then◌else◌}
use Rattle.std.specs.List.{flat_map}
use Rattle.asn_model.specs.Shape.{Shape}
use Rattle.asn_modules.specs.Empty.{is_without_values}
use Rattle.asn_modules.specs.Missing.{MissingModule}
use Rattle.asn_modules.specs.Modules.{Modules}
use Rattle.asn_modules.specs.Names.{TypeName}
use Rattle.asn_type_printing.specs.words.Words.{kind_word}
use Rattle.asn_version_reports.specs.Paths.{path_text}
use Rattle.asn_version_reports.specs.Valueless.{valueless_paths}

-- The name after that of the module, where it is in one.
abbrev pub name_behind : List ℕ → List ℕ → List ℕ
name_behind [] name = name
name_behind home name = home ++ (codes "." ++ name)

-- The name of a type, after that of its module and a point where it is in one.
abbrev pub full_name : TypeName → List ℕ
full_name t = name_behind t.home t.name

-- What kind of type it is, if it has values.
abbrev pub shown_kind : Shape → List ℕ
shown_kind s = if is_without_values s then codes "(no values)" else kind_word s

-- The line on a type.
abbrev pub types_line : TypeName → Shape → List ℕ
types_line t s = full_name t ++ (codes " " ++ (shown_kind s ++ codes "\n"))

-- What this gives for each of the types with these names, one after the other.
abbrev pub for_each : (TypeName → Shape → List ℕ) → List TypeName → List Shape → List ℕ
for_each line [] shapes = []
for_each line (t ∷ ts) [] = []
for_each line (t ∷ ts) (s ∷ ss) = line t s ++ for_each line ts ss

-- The lines on the types of the modules.
abbrev pub types_text : Modules → List ℕ
types_text m = for_each types_line m.names m.types

-- The line on how many types there are.
abbrev pub count_line : ℕ → List ℕ
count_line n = if n == 1 then codes "1 type\n" else decimal n ++ codes " types\n"

-- The line on a part of the type of a name of which no value is read.
abbrev pub valueless_line : List ℕ → List ℕ → List ℕ
valueless_line name part = name ++ (codes ": " ++ (part ++ codes ": no value of it is read\n"))

-- A line for each part of the type without values.
abbrev pub valueless_lines : TypeName → Shape → List ℕ
valueless_lines t s = flat_map (valueless_line (full_name t)) (map path_text (valueless_paths s))

-- The line on a module that is imported from and isn't given: where it is named first after FROM.
abbrev pub missing_line : MissingModule → List ℕ
missing_line m =
    m.file
    ++ (codes ":" ++ (decimal m.place.line ++ (codes ":" ++ (decimal m.place.column ++ (codes ": module " ++ (m.name ++ codes " isn't given\n"))))))

-- How many types the modules have, their parts without values, and the modules that aren't given.
abbrev pub check_text : Modules → List ℕ
check_text m =
    count_line (length m.names)
    ++ (for_each valueless_lines m.names m.types ++ flat_map missing_line m.missing)
