-- What is shown of the values of a type.
use Rattle.std.specs.Prelude.{◌≡◌, ◌⊎◌, ℕ, List, [], ◌∷◌, ◌++◌, codes, string_bytes, Bool, false, Option, Some, None}
use Rattle.asn_core.specs.declared.codec.Codec.{Codec}
use Rattle.asn_example_values.specs.Examples.{example}
use Rattle.asn_linked_types.specs.expander.Large.{IsTooLarge}
use Rattle.asn_model.specs.Canonical.{canonical_text}
use Rattle.asn_model.specs.Notation.{IsText, notation_of}
use Rattle.asn_model.specs.Shape.{Shape}
use Rattle.asn_model.specs.Value.{Fits, Value}
use Rattle.asn_model.specs.Writable.{Writable}
use Rattle.asn_modules.specs.Modules.{Modules, shape_named}
use Rattle.asn_replies.specs.Reading.{IsRefusal}
use Rattle.asn_replies.specs.declared.reply.Reply.{Reply}
use Rattle.asn_replies.specs.declared.reply.Reply.TheVariants.{Answer, Refusal}
use Rattle.asn_replies.specs.declared.status.Status.TheVariants.{Refused}

-- The line that says that the type of the name is too large.
abbrev pub large_line : List ℕ → List ℕ
large_line name = codes "asn: the type `" ++ (name ++ codes "` is too large for an example\n")

-- The line that says that it has no values.
abbrev pub valueless_line : List ℕ → List ℕ
valueless_line name = codes "asn: no value of the type `" ++ (name ++ codes "` is read\n")

-- The reply is the canonical text of the value and a line feed, or refuses one that the notation
-- can't write.
abbrev pub IsExampleText : Codec → Value → Reply → Type 0
IsExampleText notation v (Answer due) =
    string_bytes due ≡ canonical_text (notation_of notation) v ++ 10 ∷ []
IsExampleText notation v (Refusal status line) =
    (status ≡ Refused) × (IsText (notation_of notation) → Writable (notation_of notation) v → ⊥)

-- The reply has the text of the example of the shape, which is one of its values.
pub record HasExample (s : Shape) (full : Bool) (notation : Codec) (reply : Reply) : Type 0 where
  pub value : Value
  pub is : example full false s ≡ Some value
  pub fits : Fits s value
  pub text : IsExampleText notation value reply

-- The reply refuses a type that has no values.
pub record HasNoValues (s : Shape) (name : List ℕ) (reply : Reply) : Type 0 where
  pub none : (v : Value) → Fits s v → ⊥
  pub told : IsRefusal Refused (valueless_line name) reply

-- The reply shows the example of the shape, or refuses the type of the name since it has no values.
abbrev pub IsExample : Shape → Bool → Codec → List ℕ → Reply → Type 0
IsExample s full notation name reply = HasExample s full notation reply ⊎ HasNoValues s name reply

-- The reply refuses the type since its shape is too large.
abbrev pub IsLarge : Shape → List ℕ → Reply → Type 0
IsLarge s name reply = IsTooLarge s × IsRefusal Refused (large_line name) reply

-- The reply is on the one type of the name, and there is a reply where there is one.
abbrev pub IsExampleOf : Modules → List ℕ → Bool → Codec → Option Reply → Type 0
IsExampleOf m name full notation None = shape_named m name ≡ None
IsExampleOf m name full notation (Some reply) =
    (s : Shape) × (shape_named m name ≡ Some s)
    × (IsExample s full notation name reply ⊎ IsLarge s name reply)
