-- The text of a name.
use Rattle.std.specs.Prelude.{ℕ, List}
use Rattle.asn_names.specs.declared.name.Name.{Name}
use Rattle.asn_names.specs.declared.name.Name.TheVariants.{Constant, Borrowed}

-- The text of a name, be it a constant or not.
abbrev pub name_text : Name → List ℕ
name_text (Constant text) = text.now
name_text (Borrowed text) = text.now
