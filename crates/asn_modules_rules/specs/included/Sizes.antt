-- How many bytes names, values and constraints count beside the types that they stand in.
use Rattle.std.specs.Prelude.{ℕ, ◌+◌, List, Option, Some, None}
use Rattle.std.specs.List.{sum_by}
use Rattle.asn_lexer.specs.declared.token.Token.{Token}
use Rattle.asn_modules_grammar.specs.declared.notation.notation.Presence.{Presence}
use Rattle.asn_modules_grammar.specs.declared.notation.notation.Presence.TheVariants.{Required, Optional, Default}
use Rattle.asn_modules_grammar.specs.declared.notation.size.Size.{Size}
use Rattle.asn_modules_grammar.specs.declared.notation.value.Value.{Value}
use Rattle.asn_modules_grammar.specs.declared.notation.value.Value.TheVariants as value
use Rattle.asn_modules_rules.specs.sizes.Sizes.{name_size}
use Rattle.asn_modules_rules.specs.declared.sizes.sizes.TheConstants.{ENTRY_SIZE}

-- The name of a type, with that of its module where it is stated.
abbrev pub reference_size : Option Token → Token → ℕ
reference_size None name = name_size name
reference_size (Some home) name = name_size home + name_size name

-- A value: its token, or its name with that of its module.
abbrev pub value_size : Value → ℕ
value_size (value.Number n) = name_size n.digits
value_size (value.Cstring t) = name_size t
value_size (value.Bstring t) = name_size t
value_size (value.Hstring t) = name_size t
value_size (value.Word t) = name_size t
value_size (value.Qualified home name) = name_size home + name_size name
value_size (value.Other t) = name_size t

-- A DEFAULT, if there is one.
abbrev pub presence_size : Presence → ℕ
presence_size Required = 0
presence_size Optional = 0
presence_size (Default v) = value_size v

-- The size that a constraint states, with its ends.
abbrev pub constraint_size : Size → ℕ
constraint_size s = ENTRY_SIZE + (name_size s.low + name_size s.high)

abbrev pub constraints_size : List Size → ℕ
constraints_size ss = sum_by constraint_size ss
