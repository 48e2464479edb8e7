-- Lists with extension markers among them (X.680, section 25): an entry is `None` where a marker
-- stands.
use Rattle.std.specs.Prelude.{List, [], ◌∷◌, ◌++◌, Bool, if◌then◌else◌, Option, Some, None}
use Rattle.std.specs.Option.{option_and_then, option_map}
use Rattle.asn_expansion.specs.Expansion.{of_both}

-- The entries up to the first marker.
abbrev pub front : {A : Type 0} → List (Option A) → List A
front [] = []
front (None ∷ xs) = []
front (Some x ∷ xs) = x ∷ front xs

-- What stands after the first marker, if there is one.
abbrev pub behind : {A : Type 0} → List (Option A) → Option (List (Option A))
behind [] = None
behind (None ∷ xs) = Some xs
behind (Some x ∷ xs) = behind xs

-- The entries up to a marker, if there is such a list.
abbrev pub front_of : {A : Type 0} → Option (List (Option A)) → List A
front_of None = []
front_of (Some xs) = front xs

-- The root: what stands before the first marker, and after the second one.
abbrev pub root_of : {A : Type 0} → List (Option A) → List A
root_of xs = front xs ++ front_of (option_and_then behind (behind xs))

-- The extension additions: what stands between the markers, or after the only one. There are none
-- without a marker.
abbrev pub added_of : {A : Type 0} → List (Option A) → Option (List A)
added_of xs = option_map front (behind xs)

-- Where extensibility is implied, a list without a marker has one at its end (X.680, section 13.4).
abbrev pub implied : {A : Type 0} → Bool → Option (List A) → Option (List A)
implied extensible None = if extensible then Some [] else None
implied extensible (Some xs) = Some xs

-- All of them, if each is known.
abbrev pub all_known : {A : Type 0} → List (Option A) → Option (List A)
all_known [] = Some []
all_known (o ∷ os) = of_both (λ x xs. x ∷ xs) o (all_known os)

-- What f gives of a list that is after a marker, if it gives anything; where there is no marker,
-- that there is none.
abbrev pub if_marked : {A B : Type 0} → (A → Option B) → Option A → Option (Option B)
if_marked f None = Some None
if_marked f (Some x) = option_map (λ y. Some y) (f x)
