-- ENUMERATED { info, warning, critical }
use Rattle.std.specs.Prelude.{ℕ, List, [], ◌∷◌, codes}
use Rattle.asn_traits.specs.Shape.{Shape, closed_enum}
use Rattle.example_convert.specs.declared.severity.Severity.{Severity}
use Rattle.example_convert.specs.declared.severity.Severity.TheVariants.{Info, Warning, Critical}

-- The items of Severity.
abbrev pub severity_items : List (List ℕ)
severity_items = codes "info" ∷ codes "warning" ∷ codes "critical" ∷ []

-- The shape of Severity.
abbrev pub severity_shape : Shape
severity_shape = closed_enum severity_items

-- The item that a Severity stands for.
abbrev pub severity_item : Severity → List ℕ
severity_item Info = codes "info"
severity_item Warning = codes "warning"
severity_item Critical = codes "critical"
