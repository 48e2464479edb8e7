-- What names and words stand for where a type stands in a module.
use Rattle.std.specs.Prelude.{ℕ, ℤ, nat_lt, List, [], Bool, if◌then◌else◌, Option}
use Rattle.std.specs.List.{list_all}
use Rattle.asn_lexer.specs.declared.token.Token.{Token}
use Rattle.asn_model.specs.Shape.{Shape}
use Rattle.asn_modules_errors.specs.Slices.{text_of}
use Rattle.asn_modules_grammar.specs.declared.notation.value.Value.{Value}

-- What is known where a type stands in a module.
pub record Scope : Type 0 where
  -- The text of the module.
  pub text : List ℕ
  -- Whether EXTENSIBILITY IMPLIED stands in its header.
  pub extensible : Bool
  -- What the name of a type stands for, after that of its module where it is stated.
  pub type_named : Option Token → Token → Shape
  -- What a component with DEFAULT has in the place of the number of its type: a copy of that type,
  -- if it is an ENUMERATED of few items; else the number.
  pub copied : ℕ → Shape
  -- The number that a word names in the type of that name, where it is an INTEGER, if it names one;
  -- `Some None` is a number that isn't known.
  pub number_named : Option Token → Token → List ℕ → Option (Option ℤ)
  -- The values that a value here leads to, each with its text: itself, and where it is a name,
  -- those that the value leads to that is assigned to it. Where numbers alone are looked for, they
  -- end before a word that its type may give a meaning of its own.
  pub values : Bool → Value → List (List ℕ × Value)

-- These bytes, if they are ASCII, and else none.
abbrev pub ascii_of : List ℕ → List ℕ
ascii_of bytes = if list_all (λ c. nat_lt c 128) bytes then bytes else []

-- The name that a token is in its text. Each word of a text is ASCII.
abbrev pub name_in : List ℕ → Token → List ℕ
name_in text t = ascii_of (text_of text t)
