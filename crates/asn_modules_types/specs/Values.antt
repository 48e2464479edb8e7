-- The values that names of values lead to.
use Rattle.asn_modules_grammar.specs.declared.notation.number.NamedNumber.{NamedNumber}
use Rattle.asn_modules_grammar.specs.notation.Modules.{Assignment, value_assignment}
use Rattle.asn_modules_grammar.specs.notation.Notation.{Notation, integer, notation}
use Rattle.std.specs.Prelude.{ℕ, zero, suc, List, [], ◌∷◌, Option, Some, None, Bool, true, false, not, ◌&&◌, if◌then◌else◌}
use Rattle.std.specs.List.{slice_get}
use Rattle.std.specs.Option.{option_and_then, option_map}
use Rattle.asn_lexer.specs.declared.token.Token.{Token}
use Rattle.asn_modules_names.specs.lookup.Homes.{Home, bytes_in}
use Rattle.asn_modules_names.specs.lookup.Lookup.{found}
use Rattle.asn_modules_names.specs.declared.lookup.sort.Sort.{Sort}
use Rattle.asn_modules_names.specs.declared.lookup.sort.Sort.TheVariants.{Values}
use Rattle.asn_modules_names.specs.Mentions.{Source}
use Rattle.asn_modules_grammar.specs.declared.notation.value.Value.{Value}
use Rattle.asn_modules_grammar.specs.declared.notation.value.Value.TheVariants as value
use Rattle.asn_modules_types.specs.Assigned.{Assigned, assigned}

-- The number of the type or value that a name stands for in the module of number k, after the name
-- of its module where that is stated.
abbrev pub found_in : Sort → List Source → ℕ → Home → Option Token → Token → Option ℕ
found_in sort ss k h home name = found sort ss k (option_map (bytes_in h) home) (bytes_in h name)

-- A value as it stands in a module, of this number.
pub record StatedValue : Type 0 where
  pub number : ℕ
  pub home : Home
  pub value : Value

abbrev pub value_in : ℕ → Home → Value → StatedValue
value_in k h v = record { number = k; home = h; value = v }

-- The value and the text that it stands in.
abbrev pub in_text : StatedValue → List ℕ × Value
in_text v = (v.home.source.text, v.value)

-- The number of the value that this one is the name of, if it is a name.
abbrev pub number_named : List Source → ℕ → Home → Value → Option ℕ
number_named ss k h (value.Word t) = found_in Values ss k h None t
number_named ss k h (value.Qualified home t) = found_in Values ss k h (Some home) t
number_named ss k h v = None

-- The type is an INTEGER without named numbers, so that a word as its value is the name of a value.
abbrev pub has_none : List NamedNumber → Bool
has_none [] = true
has_none (n ∷ ns) = false

abbrev pub is_unnamed : Notation → Bool
is_unnamed (notation tags (integer ns) sizes) = has_none ns
is_unnamed (notation tags base sizes) = false

-- The value is a word, to which its type may give a meaning of its own: a word is governed by the
-- type of the assignment that it stands in, whose named numbers come before the names of values
-- (X.680, section 19).
abbrev pub may_name : Notation → Value → Bool
may_name n (value.Word t) = not (is_unnamed n)
may_name n v = false

-- The value that is assigned, if it is one; where numbers alone are looked for, only one that
-- surely means what it leads to.
abbrev pub followed : Bool → Assignment → Option Value
followed numeric (value_assignment name n v) = if numeric && may_name n v then None else Some v
followed numeric a = None

-- That value, as it stands in its module.
abbrev pub stated : Bool → Assigned → Option StatedValue
stated numeric a = option_map (value_in a.number a.home) (followed numeric a.assignment)

-- The value that is assigned to the name that this one is, if it is a name.
abbrev pub next_value : List Source → Bool → StatedValue → Option StatedValue
next_value ss numeric v =
    option_and_then (stated numeric)
    (option_and_then (λ n. slice_get (assigned Values ss) n) (number_named ss v.number v.home v.value))

abbrev pub if_stated : (StatedValue → List (List ℕ × Value)) → Option StatedValue
    → List (List ℕ × Value)
if_stated f None = []
if_stated f (Some v) = f v

-- The values that this one leads to, each with its text: itself, and as long as the last one is a
-- name, past at most so many of them, the value that is assigned to it.
unfoldable pub values_from : List Source → Bool → ℕ → StatedValue → List (List ℕ × Value)
values_from ss numeric zero v = in_text v ∷ []
values_from ss numeric (suc more) v =
    in_text v ∷ if_stated (values_from ss numeric more) (next_value ss numeric v)
