-- What is shown of a type of modules.
use Rattle.std.specs.Prelude.{◌≡◌, ℕ, List, ◌∷◌, ◌++◌, map, string_bytes, Option, Some, None}
use Rattle.asn_modules.specs.Modules.{Modules}
use Rattle.asn_modules.specs.Names.{TypeName, number_named}
use Rattle.asn_replies.specs.declared.reply.Reply.{Reply}
use Rattle.asn_replies.specs.declared.reply.Reply.TheVariants.{Answer, Refusal}
use Rattle.asn_type_printing.specs.Printed.{types_text}

-- The name itself where it is found by that, and else after that of its module and a point.
abbrev pub name_or_full : TypeName → Option ℕ → List ℕ
name_or_full t (Some number) = t.name
name_or_full t None = t.home ++ 46 ∷ t.name

-- The name by which the type is found among these.
abbrev pub shown_name : List TypeName → TypeName → List ℕ
shown_name ts t = name_or_full t (number_named ts t.name)

-- The names by which they are found.
abbrev pub shown_names : List TypeName → List (List ℕ)
shown_names ts = map (shown_name ts) ts

-- The reply is the printed text of the type of the number, with the types that it reaches.
abbrev pub IsTypeText : Modules → ℕ → Reply → Type 0
IsTypeText m number (Answer text) =
    string_bytes text ≡ types_text (shown_names m.names) m.types number
IsTypeText m number (Refusal status line) = ⊥

-- It is that of the one type of the name, and there is a reply where there is one.
abbrev pub IsShown : Modules → List ℕ → Option Reply → Type 0
IsShown m name None = number_named m.names name ≡ None
IsShown m name (Some reply) =
    (number : ℕ) × (number_named m.names name ≡ Some number) × IsTypeText m number reply
