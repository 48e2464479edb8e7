-- The whole numbers of JER.
use Rattle.std.specs.Prelude.{◌^◌, pos, negsuc, Bool, false, nat_lt}
use Rattle.serde_json.specs.Data.{Num}

-- An `i64` or a `u64` has the number.
abbrev pub is_whole : Num → Bool
is_whole (Num.unsigned n) = nat_lt n (2 ^ 64)
is_whole (Num.negative (pos n)) = false
is_whole (Num.negative (negsuc n)) = nat_lt n (2 ^ 63)
is_whole (Num.float x) = false
