-- The payload of a JSON object that is a choice.
use Rattle.std.specs.Prelude.{◌≡◌, ℕ, List, Option, Some, None}
use Rattle.serde_json.specs.Data.{Data, Members}
use Rattle.serde_json.specs.View.{view}
use Rattle.serde_json.specs.declared.value.Value.{Value}
use Rattle.asn_traits.specs.Shape.{place_named}
use Rattle.asn_traits.specs.Tree.{same_identifier}

-- The only member has this name and this value.
pub data Only : Members → List ℕ → Data → Type 0 where
  only : (name : List ℕ) (d : Data) → Only (Members.member name d Members.no_members) name d

-- No member is there, or the only one's name is none of the identifiers.
pub data NoPayload (identifiers : List (List ℕ)) : Members → Type 0 where
  no_member : NoPayload identifiers Members.no_members
  no_such_name : (name : List ℕ) (d : Data) → place_named same_identifier identifiers name ≡ None → NoPayload identifiers (Members.member name d Members.no_members)

-- The place of the only member's name among the identifiers and its value, or nothing where there is none.
abbrev pub PayloadOf : Members → List (List ℕ) → Option (ℕ × Value) → Type 0
PayloadOf ms identifiers (Some p) = (name : List ℕ) × Only ms name (view p.1) × (place_named same_identifier identifiers name ≡ Some p.0)
PayloadOf ms identifiers None = NoPayload identifiers ms
