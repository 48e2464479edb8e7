-- The alternative that a value of a CHOICE is of, with its payload.
use Rattle.std.specs.Prelude.{◌≡◌, ℕ, List, Some}
use Rattle.asn_model.specs.Shape.{Shape, Alternatives, alternative_at}
use Rattle.asn_model.specs.Value.{Value}

-- Place, identifier and shape of the alternative, and the payload's value. Places are counted from 0, extension additions last.
pub record Chosen : Type 0 where
  pub place : ℕ
  pub name : List ℕ
  pub shape : Shape
  pub payload : Value

abbrev pub chosen : ℕ → List ℕ → Shape → Value → Chosen
chosen place name shape payload = record { place = place; name = name; shape = shape; payload = payload }

-- The value of the choice.
abbrev pub chosen_value : Chosen → Value
chosen_value c = Value.choice c.name c.payload

-- Its alternative is one of these.
abbrev pub IsChosen : Alternatives → Chosen → Type 0
IsChosen alts c = alternative_at alts c.place ≡ Some (c.name, c.shape)
