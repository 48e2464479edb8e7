-- A member that is put among members in order leaves them in order.
use Rattle.std.proofs.Common.{◌≡◌, ◌∙◌, Equal, Greater, Less, List, Ordering, ap, refl, ℕ}
use Rattle.std.proofs.lemmas.Cmp.{nat_list_cmp_total}
use Rattle.std.specs.Cmp.Lexicographic.{slice_cmp}
use Rattle.std.specs.Ordering.{match_ordering, nat_cmp, ordering_reverse}
use Rattle.serde_json.specs.Data.{Data, Members, put}
use Rattle.jer_values.specs.Order.{HasOrdered, IsBefore, IsOrdered}

-- A name is before those that another one is before.
before_all : (k l : List ℕ) (ms : Members) → slice_cmp nat_cmp k l ≡ Less → IsBefore l ms
    → IsBefore k ms
before_all k l Members.no_members is h = tt
before_all k l (Members.member m d ms) is h =
    (nat_list_cmp_total.trans k l m is h.0, before_all k l ms is h.1)

before_one_of : (o : Ordering) (l : List ℕ) (a b c : Members) → IsBefore l a → IsBefore l b
    → IsBefore l c → IsBefore l (match_ordering o a b c)
before_one_of Less l a b c h i j = h
before_one_of Equal l a b c h i j = i
before_one_of Greater l a b c h i j = j

before_put : (l k : List ℕ) (d : Data) (ms : Members) → slice_cmp nat_cmp l k ≡ Less
    → IsBefore l ms → IsBefore l (put k d ms)
before_put l k d Members.no_members is h = (is, tt)
before_put l k d (Members.member m e ms) is h =
    before_one_of (slice_cmp nat_cmp k m) l _ _ _ (is, h) h (h.0, before_put l k d ms is h.1)

ordered_put_at : (o : Ordering) (k l : List ℕ) (d e : Data) (ms : Members)
    → slice_cmp nat_cmp k l ≡ o → IsOrdered d → HasOrdered (Members.member l e ms)
    → HasOrdered (put k d ms)
    → HasOrdered (match_ordering o (Members.member k d (Members.member l e ms))
    (Members.member l d ms) (Members.member l e (put k d ms)))
ordered_put_at Less k l d e ms is has h others = ((is, before_all k l ms is h.0), has, h)
ordered_put_at Equal k l d e ms is has h others = (h.0, has, h.2)
ordered_put_at Greater k l d e ms is has h others =
    (before_put l k d ms (nat_list_cmp_total.antisymm l k ∙ ap ordering_reverse is) h.0, h.1, others)

-- A member that is put among members in order leaves them in order.
pub ordered_put : (k : List ℕ) (d : Data) (ms : Members) → IsOrdered d → HasOrdered ms
    → HasOrdered (put k d ms)
ordered_put k d Members.no_members has h = (tt, has, tt)
ordered_put k d (Members.member l e ms) has h =
    ordered_put_at (slice_cmp nat_cmp k l) k l d e ms refl has h (ordered_put k d ms has h.2)
