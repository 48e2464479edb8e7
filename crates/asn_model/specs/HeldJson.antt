-- The JSON values that a `serde_json::Value` can hold.
use Rattle.std.specs.Prelude.{◌-◌, ◌^◌, ◌&&◌, nat_lt, negsuc, Bool, true}
use Rattle.std.specs.Str.{is_utf8}
use Rattle.serde_json.specs.Data.{Data, Items, Members, Num}
use Rattle.asn_model.specs.Range.{is_between}

-- A whole number has 64 bits, unsigned or, below zero, signed.
abbrev pub is_held_number : Num → Bool
is_held_number (Num.unsigned n) = nat_lt n (2 ^ 64)
is_held_number (Num.negative z) = is_between (negsuc (2 ^ 63 - 1)) (negsuc 0) z
is_held_number (Num.float x) = true

abbrev mutual
  -- At every depth each string is UTF-8, and each whole number has 64 bits.
  pub is_held : Data → Bool
  is_held (Data.number n) = is_held_number n
  is_held (Data.string x) = is_utf8 x
  is_held (Data.array ds) = are_items_held ds
  is_held (Data.object ms) = are_members_held ms
  is_held d = true

  -- Each element is so.
  pub are_items_held : Items → Bool
  are_items_held Items.no_items = true
  are_items_held (Items.item d ds) = is_held d && are_items_held ds

  -- The value of each member is so.
  pub are_members_held : Members → Bool
  are_members_held Members.no_members = true
  are_members_held (Members.member n d ms) = is_held d && are_members_held ms
