-- The places of assignments by their names.
use Rattle.std.specs.Prelude.{◌≡◌, ℕ, List, Bool, Option, is_some}
use Rattle.std.specs.Borrow.{Bor}
use Rattle.std.specs.HashMap.{HashMap, get_by}
use Rattle.std.specs.Str.{bytes_eq}
use Rattle.asn_model.specs.Shape.{place_named}

-- The place beside the name.
abbrev pub place_in : {S : Type 0} → HashMap (Bor (List ℕ)) ℕ S → List ℕ → Option ℕ
place_in places name = get_by (λ k. bytes_eq name k.now) places

-- The name has a place.
abbrev pub is_placed : {S : Type 0} → HashMap (Bor (List ℕ)) ℕ S → List ℕ → Bool
is_placed places name = is_some (place_in places name)

-- Each of the names has its place, and no other name has one.
abbrev pub ArePlaces : {S : Type 0} → HashMap (Bor (List ℕ)) ℕ S → List (List ℕ) → Type 0
ArePlaces places names = (name : List ℕ) → place_in places name ≡ place_named bytes_eq names name
