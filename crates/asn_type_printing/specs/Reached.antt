-- The types that a type reaches by its names.
use Rattle.std.specs.Prelude.{ℕ, zero, suc, nat_eq, nat_lt, List, [], ◌∷◌, ◌++◌, length, if◌then◌else◌, Option, Some, None}
use Rattle.std.specs.List.{slice_get}
use Rattle.indexmap.specs.IndexSet.{insert_key}
use Rattle.asn_model.specs.Shape.{Shape, Fields, FieldAdditions, Alternatives, AlternativeAdditions}

abbrev mutual
  -- The numbers of types that a shape names, in order.
  pub names_in : Shape → List ℕ
  names_in (Shape.seq kind fs added) = field_names_of fs ++ added_field_names added
  names_in (Shape.list_of s) = names_in s
  names_in (Shape.set_of s) = names_in s
  names_in (Shape.table s) = names_in s
  names_in (Shape.choice alts added) = alternative_names alts ++ added_alternative_names added
  names_in (Shape.back number) = number ∷ []
  names_in s = []

  -- Those that fields name.
  pub field_names_of : Fields → List ℕ
  field_names_of Fields.no_fields = []
  field_names_of (Fields.field n t p s fs) = names_in s ++ field_names_of fs

  -- The same of the extension additions.
  pub added_field_names : FieldAdditions → List ℕ
  added_field_names FieldAdditions.closed_fields = []
  added_field_names (FieldAdditions.extended_fields fs) = field_names_of fs

  -- Those that alternatives name.
  pub alternative_names : Alternatives → List ℕ
  alternative_names Alternatives.no_alternatives = []
  alternative_names (Alternatives.alternative i t s alts) = names_in s ++ alternative_names alts

  -- The same of the extension additions.
  pub added_alternative_names : AlternativeAdditions → List ℕ
  added_alternative_names AlternativeAdditions.closed_alternatives = []
  added_alternative_names (AlternativeAdditions.extended_alternatives alts) = alternative_names alts

-- These numbers of so many types, and the others behind them that aren't there yet.
abbrev pub with_numbers : ℕ → List ℕ → List ℕ → List ℕ
with_numbers count found [] = found
with_numbers count found (n ∷ ns) = with_numbers count (if nat_lt n count then insert_key nat_eq found n else found) ns

-- The numbers that the type of this number names.
abbrev pub numbers_of : Option Shape → List ℕ
numbers_of None = []
numbers_of (Some s) = names_in s

abbrev pub numbers_by : List Shape → Option ℕ → List ℕ
numbers_by types None = []
numbers_by types (Some n) = numbers_of (slice_get types n)

-- The numbers that the type names whose number stands at this place.
abbrev pub numbers_at : List Shape → List ℕ → ℕ → List ℕ
numbers_at types found place = numbers_by types (slice_get found place)

-- What is found when so many types are gone into that are found, from this place on: each adds those that it names.
abbrev pub reached_from : List Shape → ℕ → List ℕ → ℕ → List ℕ
reached_from types zero found place = found
reached_from types (suc more) found place = reached_from types more (with_numbers (length types) found (numbers_at types found place)) (suc place)

-- The number and those of all types that its type reaches: each of them is gone into once, in the order in which they are found.
abbrev pub reached : List Shape → ℕ → List ℕ
reached types number = reached_from types (length types) (number ∷ []) 0
