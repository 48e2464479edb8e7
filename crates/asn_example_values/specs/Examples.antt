-- Examples of values: a small one of each shape, or one with every part that may be absent.
use Rattle.std.specs.Prelude.{ℕ, zero, suc, ◌+◌, ◌-◌, ℤ, pos, negsuc, ◌+ℤ◌, List, [], ◌∷◌, ◌++◌, codes, length, Bool, true, false, if◌then◌else◌, Option, Some, None, option_map}
use Rattle.std.specs.List.{slice_get}
use Rattle.asn_core.specs.Numbers.{is_negative, magnitude}
use Rattle.asn_dynamic_values.specs.DynView.{members_named}
use Rattle.asn_model.specs.Range.{is_between}
use Rattle.asn_model.specs.Shape.{Shape, Fields, FieldAdditions, Alternatives, AlternativeAdditions, Presence}
use Rattle.asn_model.specs.Value.{Value, is_kept, may_lack, values}

-- 0, or the least number where that is above it.
abbrev pub nearest : ℤ → ℕ
nearest least = if is_negative least then 0 else magnitude least

-- The place of the first item, or of the other one.
abbrev pub place_of : Bool → ℕ
place_of other = if other then 1 else 0

-- The number as a value, if it is from the least to the greatest one.
abbrev pub number_within : ℤ → ℤ → ℤ → Option Value
number_within least greatest n = if is_between least greatest n then Some (Value.int n) else None

-- The number from the least to the greatest one that is nearest to 0, or the next one above it.
abbrev pub number_example : Bool → ℤ → ℤ → Option Value
number_example other least (pos g) = number_within least (pos g) (pos (nearest least + place_of other))
number_example other least (negsuc g) = number_within least (negsuc g) (negsuc g +ℤ pos (place_of other))

-- So many bits that are 0.
abbrev pub zeros : ℕ → List Bool
zeros zero = []
zeros (suc n) = zeros n ++ false ∷ []

-- As many of them as a type fixes.
abbrev pub fixed_zeros : Option ℕ → List Bool
fixed_zeros None = []
fixed_zeros (Some n) = zeros n

-- The first one that is there.
abbrev pub or_else : {A : Type 0} → Option A → Option A → Option A
or_else (Some a) b = Some a
or_else None b = b

-- The item of this place among those that were added, if there are any.
abbrev pub added_item : Option (List (List ℕ)) → ℕ → Option (List ℕ)
added_item None place = None
added_item (Some added) place = slice_get added place

-- The item of this place, extension additions last.
abbrev pub item_at : List (List ℕ) → Option (List (List ℕ)) → ℕ → Option (List ℕ)
item_at items added place = or_else (slice_get items place) (added_item added (place - length items))

-- A value of a shape whose values have no parts: the number nearest to 0, FALSE, bits that are 0, nothing in a string, the first item, 0.0 of OBJECT IDENTIFIER and the beginning of 1970. The other one of INTEGER is the next number; of BOOLEAN it is TRUE, of ENUMERATED the second item, and the digit 0 of strings.
abbrev pub leaf_example : Bool → Shape → Option Value
leaf_example other Shape.null = Some Value.null
leaf_example other Shape.boolean = Some (Value.boolean other)
leaf_example other (Shape.int least greatest width) = number_example other least greatest
leaf_example other (Shape.bits size) = Some (Value.bits (fixed_zeros size) size)
leaf_example other Shape.octets = Some (Value.octets [])
leaf_example other Shape.any = Some (Value.octets [])
leaf_example other Shape.oid = Some (Value.arcs (0 ∷ 0 ∷ []))
leaf_example other (Shape.text a) = Some (Value.text (if other then 48 ∷ [] else []))
leaf_example other Shape.bmp = Some (Value.units [])
leaf_example other Shape.utc = Some (Value.utc (pos 0))
leaf_example other Shape.gen = Some (Value.gen (pos 0))
leaf_example other Shape.day = Some (Value.day (pos 0))
leaf_example other Shape.decimal = Some (Value.text (codes "9223372036854775808"))
leaf_example other (Shape.enum items added) = option_map Value.item (item_at items added (place_of other))
leaf_example other s = None

-- The elements of a list: one where everything is wanted, if there is a value of its type.
abbrev pub elements_example : Bool → Option Value → List Value
elements_example true (Some v) = v ∷ []
elements_example full v = []

-- The value, unless it is the one that a DEFAULT names.
abbrev pub kept : Presence → Option Value → Option Value
kept p None = None
kept p (Some v) = if is_kept p v then Some v else None

-- The value of a component, if it has one, of a value of its type and the other one: where it may be absent it has one only where everything is wanted, and then none that is its default.
abbrev pub member_example : Bool → Presence → Option Value → Option Value → Option Value
member_example full Presence.required v w = v
member_example true Presence.optional v w = v
member_example true (Presence.default d) v w = or_else (kept (Presence.default d) v) (kept (Presence.default d) w)
member_example false p v w = None

-- A component's name and its value before others. There are none where it has to be present and has no value.
abbrev pub with_member : List ℕ → Presence → Option Value → Option (List (List ℕ × Option Value)) → Option (List (List ℕ × Option Value))
with_member n p (Some v) ms = option_map (λ l. (n, Some v) ∷ l) ms
with_member n p None ms = if may_lack p then option_map (λ l. (n, None) ∷ l) ms else None

-- These members, and the others behind them.
abbrev pub joined : Option (List (List ℕ × Option Value)) → Option (List (List ℕ × Option Value)) → Option (List (List ℕ × Option Value))
joined None more = None
joined (Some ms) more = option_map (λ l. ms ++ l) more

abbrev mutual
  -- An example of the shape, or the other one of it: where not everything is wanted, components that may be absent are, and lists are empty. Of a CHOICE it is the first alternative that has one. A name of a loop around it has none, so that no type stands within itself.
  pub example : Bool → Bool → Shape → Option Value
  example full other (Shape.seq kind fs added) = option_map (λ ms. Value.members (members_named ms)) (joined (members_example full fs) (added_members_example full added))
  example full other (Shape.list_of s) = Some (Value.list (values (λ v. v) (elements_example full (example full false s))))
  example full other (Shape.set_of s) = Some (Value.bag (values (λ v. v) (elements_example full (example full false s))))
  example full other (Shape.table s) = Some (Value.list (values (λ v. v) (elements_example full (example full false s))))
  example full other (Shape.choice alts added) = or_else (alternatives_example full alts) (added_alternatives_example full added)
  example full other (Shape.loop s) = example full other s
  example full other s = leaf_example other s

  -- The names and values of components.
  pub members_example : Bool → Fields → Option (List (List ℕ × Option Value))
  members_example full Fields.no_fields = Some []
  members_example full (Fields.field n t p s fs) = with_member n p (member_example full p (example full false s) (example full true s)) (members_example full fs)

  -- Those of extension additions.
  pub added_members_example : Bool → FieldAdditions → Option (List (List ℕ × Option Value))
  added_members_example full FieldAdditions.closed_fields = Some []
  added_members_example full (FieldAdditions.extended_fields fs) = members_example full fs

  -- An example of the first alternative that has one.
  pub alternatives_example : Bool → Alternatives → Option Value
  alternatives_example full Alternatives.no_alternatives = None
  alternatives_example full (Alternatives.alternative i t s alts) = or_else (option_map (Value.choice i) (example full false s)) (alternatives_example full alts)

  -- The same of extension additions.
  pub added_alternatives_example : Bool → AlternativeAdditions → Option Value
  added_alternatives_example full AlternativeAdditions.closed_alternatives = None
  added_alternatives_example full (AlternativeAdditions.extended_alternatives alts) = alternatives_example full alts
