-- Bytes that are ASCII.
use Rattle.std.proofs.Common.{◌≡◌, ℕ, zero, suc, List, [], ◌∷◌, true, nat_lt, arith}
use Rattle.std.specs.List.{list_all}
use Rattle.std.specs.Str.{IsAscii, IsUtf8}
use Rattle.std.proofs.lemmas.Bool.{ltb-true}
use Rattle.std.proofs.lemmas.Str.{IsUtf8-from_ascii}
use Rattle.asn_model.proofs.Readables.{and-left, and-right}

ascii_each : (bs : List ℕ) → list_all (λ c. nat_lt c 128) bs ≡ true → IsAscii bs
ascii_each [] e i = omega arith
ascii_each (b ∷ bs) e zero = ltb-true b 128 (and-left (nat_lt b 128) (list_all (λ c. nat_lt c 128) bs) e)
ascii_each (b ∷ bs) e (suc i) = ascii_each bs (and-right (nat_lt b 128) (list_all (λ c. nat_lt c 128) bs) e) i

-- ASCII is UTF-8.
pub ascii_utf8 : (bs : List ℕ) → list_all (λ c. nat_lt c 128) bs ≡ true → IsUtf8 bs
ascii_utf8 bs e = IsUtf8-from_ascii bs (ascii_each bs e)
