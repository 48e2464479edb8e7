-- Members one after another, and the member that is put last.
use Rattle.std.proofs.Common.{◌≡◌, ◌∙◌, ◌++◌, ◌∷◌, [], List, Less, ap, refl, ℕ}
use Rattle.std.proofs.lemmas.Cmp.{nat_list_cmp_total}
use Rattle.std.specs.Cmp.Lexicographic.{slice_cmp}
use Rattle.std.specs.Ordering.{nat_cmp, ordering_reverse}
use Rattle.serde_json.specs.Data.{Data, Members, put}
use Rattle.jer_values.specs.Names.{name_bytes}
use Rattle.jer_values.specs.Order.{HasOrdered, IsBefore}
use Rattle.jer_values.specs.Views.{data_of, members_view}
use Rattle.jer_values.specs.declared.name.JerName.{JerName}
use Rattle.jer_values.specs.declared.value.JerValue.{JerValue}

-- The members, and after them others.
abbrev pub joined : Members → Members → Members
joined Members.no_members more = more
joined (Members.member k d ms) more = Members.member k d (joined ms more)

pub joined_none : (ms : Members) → joined ms Members.no_members ≡ ms
joined_none Members.no_members = refl
joined_none (Members.member k d ms) = ap (Members.member k d) (joined_none ms)

-- A member between others belongs to those before it as to those after it.
pub joined_one : (found : Members) (k : List ℕ) (d : Data) (more : Members)
    → joined (joined found (Members.member k d Members.no_members)) more
    ≡ joined found (Members.member k d more)
joined_one Members.no_members k d more = refl
joined_one (Members.member l e ms) k d more = ap (Members.member l e) (joined_one ms k d more)

pub joined_views : (xs ys : List (JerName × JerValue))
    → members_view (xs ++ ys) ≡ joined (members_view xs) (members_view ys)
joined_views [] ys = refl
joined_views (x ∷ xs) ys = ap (Members.member (name_bytes x.0) (data_of x.1)) (joined_views xs ys)

-- What stands after others is in order as they are.
pub ordered_after : (found ms : Members) → HasOrdered (joined found ms) → HasOrdered ms
ordered_after Members.no_members ms h = h
ordered_after (Members.member l e found) ms h = ordered_after found ms h.2

before_middle : (l : List ℕ) (found : Members) (k : List ℕ) (d : Data) (more : Members)
    → IsBefore l (joined found (Members.member k d more)) → slice_cmp nat_cmp l k ≡ Less
before_middle l Members.no_members k d more h = h.0
before_middle l (Members.member m e found) k d more h = before_middle l found k d more h.1

-- A member that is after all others is put last.
pub put_last : (found : Members) (k : List ℕ) (d : Data) (more : Members)
    → HasOrdered (joined found (Members.member k d more))
    → put k d found ≡ joined found (Members.member k d Members.no_members)
put_last Members.no_members k d more h = refl
put_last (Members.member l e found) k d more h =
    rw (nat_list_cmp_total.antisymm k l ∙ ap ordering_reverse (before_middle l found k d more h.0))
    (ap (Members.member l e) (put_last found k d more h.2))
