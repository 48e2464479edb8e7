-- Names that stand twice.
use Rattle.std.specs.Prelude.{ℕ, List, [], ◌∷◌, ◌++◌, map, if◌then◌else◌, Option, Some, None}
use Rattle.std.specs.Option.{option_map}
use Rattle.asn_model.specs.Shape.{is_item}
use Rattle.asn_modules_errors.specs.declared.cause.NameRule.{NameRule}
use Rattle.asn_modules_names.specs.Faults.{Fault, fault_of}
use Rattle.asn_modules_names.specs.Mentions.{Mention, name_of}

-- The first of the names that is one of those before it, some of which are given.
abbrev pub repeated_behind : List (List ℕ) → List Mention → Option Mention
repeated_behind before [] = None
repeated_behind before (m ∷ ms) =
    if is_item before (name_of m) then Some m else repeated_behind (before ++ name_of m ∷ []) ms

-- The first of the names that is one of those before it, which breaks the rule.
abbrev pub repeated : NameRule → List Mention → Option Fault
repeated r ms = option_map (fault_of r) (repeated_behind [] ms)
