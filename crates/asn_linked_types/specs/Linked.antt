-- When types that name each other by number can be read.
use Rattle.std.specs.Prelude.{ℕ, nat_lt, List, [], ◌∷◌, length, Bool, true, ◌&&◌}
use Rattle.asn_linked_types.specs.declared.limits.TheConstants.{TYPE_LIMIT}
use Rattle.asn_model.specs.Readable.{is_readable_in}
use Rattle.asn_model.specs.Shape.{Shape}

-- Each of these types can be read where so many types can be named in it, each of them only within a list, sequence, set, table or choice.
abbrev pub are_readable_among : ℕ → List Shape → Bool
are_readable_among count [] = true
are_readable_among count (s ∷ ss) = is_readable_in count count s && are_readable_among count ss

-- The types can be read, each by its number in the list.
abbrev pub are_linked : List Shape → Bool
are_linked types = nat_lt (length types) TYPE_LIMIT && are_readable_among (length types) types
