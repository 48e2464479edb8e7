-- The names of members.
use Rattle.std.specs.Prelude.{ℕ, List, string_bytes}
use Rattle.jer_values.specs.declared.name.JerName.{JerName}
use Rattle.jer_values.specs.declared.name.JerName.TheVariants.{Constant, Owned}

-- The text of a name.
abbrev pub name_bytes : JerName → List ℕ
name_bytes (Constant text) = text.now
name_bytes (Owned text) = string_bytes text
