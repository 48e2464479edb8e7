-- Where a member is put among others.
use Rattle.std.proofs.Common.{◌≡◌, ◌∙◌, ◌+◌, ◌++◌, ◌<◌, ◌≤◌, ◌∷◌, [], Equal, Greater, Less, List, Ordering, ap, drop, get_or, length, set, sym, take, ℕ}
use Rattle.std.proofs.lemmas.List.{drop-set, drop_all, drop_more, take-append-drop, take-set, take_all, take_more}
use Rattle.std.specs.Cmp.Lexicographic.{slice_cmp}
use Rattle.std.specs.List.{insert}
use Rattle.std.specs.Ordering.{match_ordering, nat_cmp}
use Rattle.serde_json.specs.Data.{Data, Members, put}
use Rattle.jer_values.specs.Names.{name_bytes}
use Rattle.jer_values.proofs.Joined.{joined, joined_one, joined_views}
use Rattle.jer_values.specs.Views.{data_of, members_view}
use Rattle.jer_values.specs.declared.name.JerName.{JerName}
use Rattle.jer_values.specs.declared.value.JerValue.{JerValue}

abbrev pub Member : Type 0
Member = JerName × JerValue

-- The member goes in after the first i members.
abbrev pub IsLater : List Member → ℕ → List ℕ → Data → Type 0
IsLater es i name d =
    put name d (members_view es)
    ≡ joined (members_view (take i es)) (put name d (members_view (drop i es)))

-- The member that stands at a place.
pub record StandsAt (es : List Member) (i : ℕ) (m : Member) : Type 0 where
  pub within : i < length es
  pub is : m ≡ get_or es i m

rest_at : (es : List Member) (i : ℕ) (m : Member) → StandsAt es i m
    → drop i es ≡ m ∷ drop (i + 1) es
rest_at es i m at = drop_more es i m at.within ∙ ap (λ x. x ∷ drop (i + 1) es) (sym at.is)

front_at : (es : List Member) (i : ℕ) (m : Member) → StandsAt es i m
    → take (i + 1) es ≡ take i es ++ m ∷ []
front_at es i m at = take_more es i m at.within ∙ ap (λ x. take i es ++ x ∷ []) (sym at.is)

-- What the member is put among, where it meets another.
met : (es : List Member) (i : ℕ) (m : Member) (name : List ℕ) (d : Data) (o : Ordering)
    → StandsAt es i m → slice_cmp nat_cmp name (name_bytes m.0) ≡ o
    → put name d (members_view (drop i es))
    ≡ match_ordering o (Members.member name d (members_view (drop i es)))
    (Members.member (name_bytes m.0) d (members_view (drop (i + 1) es)))
    (Members.member (name_bytes m.0) (data_of m.1) (put name d (members_view (drop (i + 1) es))))
met es i m name d o at is =
    let rest = members_view (drop (i + 1) es) in
    let here = ap members_view (rest_at es i m at) in
    ap (put name d) here
    ∙ ap (λ p. match_ordering p (Members.member name d (Members.member (name_bytes m.0) (data_of m.1) rest))
    (Members.member (name_bytes m.0) d rest) (Members.member (name_bytes m.0) (data_of m.1) (put name d rest))) is
    ∙ ap (λ ms. match_ordering o (Members.member name d ms) (Members.member (name_bytes m.0) d rest)
    (Members.member (name_bytes m.0) (data_of m.1) (put name d rest))) (sym here)

-- It goes in after a member whose name is before its own.
pub later_more : (es : List Member) (i : ℕ) (m : Member) (name : List ℕ) (d : Data)
    → StandsAt es i m → slice_cmp nat_cmp name (name_bytes m.0) ≡ Greater → IsLater es i name d
    → IsLater es (i + 1) name d
later_more es i m name d at is before =
    let more = put name d (members_view (drop (i + 1) es)) in
    before ∙ ap (joined (members_view (take i es))) (met es i m name d Greater at is)
    ∙ sym (joined_one (members_view (take i es)) (name_bytes m.0) (data_of m.1) more)
    ∙ ap (λ ms. joined ms more)
    (sym (ap members_view (front_at es i m at) ∙ joined_views (take i es) (m ∷ [])))

-- It goes in before a member whose name is after its own.
pub placed_before : (es : List Member) (i : ℕ) (m : Member) (name : JerName) (v : JerValue)
    → StandsAt es i m → slice_cmp nat_cmp (name_bytes name) (name_bytes m.0) ≡ Less
    → IsLater es i (name_bytes name) (data_of v)
    → members_view (insert es i (name, v)) ≡ put (name_bytes name) (data_of v) (members_view es)
placed_before es i m name v at is before =
    joined_views (take i es) ((name, v) ∷ drop i es)
    ∙ ap (joined (members_view (take i es)))
    (sym (met es i m (name_bytes name) (data_of v) Less at is)) ∙ sym before

-- It takes the place of a member of its name.
pub placed_over : (es : List Member) (i : ℕ) (m : Member) (name : List ℕ) (v : JerValue)
    → StandsAt es i m → slice_cmp nat_cmp name (name_bytes m.0) ≡ Equal → IsLater es i name (data_of v)
    → members_view (set es i (m.0, v)) ≡ put name (data_of v) (members_view es)
placed_over es i m name v at is before =
    ap members_view (sym (take-append-drop i (set es i (m.0, v))))
    ∙ joined_views (take i (set es i (m.0, v))) (drop i (set es i (m.0, v)))
    ∙ ap (λ xs. joined (members_view xs) (members_view (drop i (set es i (m.0, v)))))
    (take-set es i (m.0, v))
    ∙ ap (λ xs. joined (members_view (take i es)) (members_view xs))
    (drop-set es i (m.0, v) at.within)
    ∙ ap (joined (members_view (take i es)))
    (sym (met es i m name (data_of v) Equal at is)) ∙ sym before

-- It goes in after all members.
pub placed_last : (es : List Member) (i : ℕ) (name : JerName) (v : JerValue)
    → length es ≤ i → IsLater es i (name_bytes name) (data_of v)
    → members_view (es ++ (name, v) ∷ []) ≡ put (name_bytes name) (data_of v) (members_view es)
placed_last es i name v past before =
    joined_views es ((name, v) ∷ [])
    ∙ ap (λ xs. joined (members_view es) (put (name_bytes name) (data_of v) (members_view xs)))
    (sym (drop_all i es past))
    ∙ ap (λ xs. joined (members_view xs) (put (name_bytes name) (data_of v) (members_view (drop i es))))
    (sym (take_all i es past))
    ∙ sym before
