-- Values that share a text, as entries of their own.
use Rattle.std.specs.Prelude.{ℕ, List, [], ◌∷◌, ◌++◌, map, string_bytes}
use Rattle.asn_sorting.specs.declared.by_text.Group.{Group}

-- The text of a group, as bytes.
abbrev pub group_text : {V : Type 0} → Group V → List ℕ
group_text g = string_bytes g.text

-- The values of a group, in the order in which they came.
abbrev pub group_values : {V : Type 0} → Group V → List V
group_values g = g.first ∷ g.others.items

-- These values, each with this text.
abbrev pub with_text : {V : Type 0} → List ℕ → List V → List (List ℕ × V)
with_text text vs = map (λ v. (text, v)) vs

-- Each value with its text, group by group.
abbrev pub entries_of : {V : Type 0} → List (Group V) → List (List ℕ × V)
entries_of [] = []
entries_of (g ∷ gs) = with_text (group_text g) (group_values g) ++ entries_of gs
