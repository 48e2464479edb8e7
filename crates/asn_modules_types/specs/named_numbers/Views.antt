-- What contracts see of types and entries.
use Rattle.std.specs.Prelude.{ℕ, List}
use Rattle.std.specs.Borrow.{Bor}
use Rattle.asn_modules_names.specs.lookup.Views.{key_view}
use Rattle.asn_modules_types.specs.named_numbers.Named as named
use Rattle.asn_modules_types.specs.declared.named_numbers.entries.StatedType.{StatedType}
use Rattle.asn_modules_grammar.specs.notation.View.{notation_view}
use Rattle.asn_modules_grammar.specs.declared.notation.number.Constant.{Constant}

abbrev pub type_view : StatedType → named.StatedType
type_view t = record { text = t.text.now; notation = notation_view t.notation.now }

-- The number of a type and a name, with what stands for the number of that name.
abbrev pub entry_view : (ℕ × Bor (List ℕ)) × Constant → (ℕ × List ℕ) × Constant
entry_view e = (key_view e.0, e.1)
