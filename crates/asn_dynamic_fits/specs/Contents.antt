-- What a value has inside, where it is of a kind.
use Rattle.std.specs.Prelude.{ℕ, List, Option, Some, None}
use Rattle.asn_model.specs.Value.{Slots, Value, Values}

-- The identifier of an item.
abbrev pub item_in : Value → Option (List ℕ)
item_in (Value.item i) = Some i
item_in v = None

-- The elements of a list.
abbrev pub list_in : Value → Option Values
list_in (Value.list vs) = Some vs
list_in v = None

-- The elements of a bag.
abbrev pub bag_in : Value → Option Values
bag_in (Value.bag vs) = Some vs
bag_in v = None

-- The members of a sequence.
abbrev pub members_in : Value → Option Slots
members_in (Value.members ms) = Some ms
members_in v = None

-- The identifier and the payload of a choice.
abbrev pub choice_in : Value → Option (List ℕ × Value)
choice_in (Value.choice i v) = Some (i, v)
choice_in v = None
