-- Members that are put into an object hold no float where neither they nor the others do.
use Rattle.std.proofs.Common.{◌≡◌, ℕ, List, false, ◌||◌, Ordering, Less, Equal, Greater, refl}
use Rattle.std.proofs.lemmas.Bool.{or_from, or_parts}
use Rattle.std.specs.Cmp.Lexicographic.{slice_cmp}
use Rattle.std.specs.Ordering.{nat_cmp, match_ordering}
use Rattle.serde_json.specs.Data.{Data, Members, put}
use Rattle.serde_json.specs.Written.{has_float, members_have_float}

ordered-false : (o : Ordering) (a b c : Members) → members_have_float a ≡ false → members_have_float b ≡ false → members_have_float c ≡ false → members_have_float (match_ordering o a b c) ≡ false
ordered-false Less a b c h j k = h
ordered-false Equal a b c h j k = j
ordered-false Greater a b c h j k = k

-- A member that holds no float is put among members that hold none.
pub put-false : (n : List ℕ) (d : Data) (ms : Members) → has_float d ≡ false → members_have_float ms ≡ false → members_have_float (put n d ms) ≡ false
put-false n d Members.no_members h k = or_from (has_float d) false h refl
put-false n d (Members.member m e ms) h k =
    let (first, others) = or_parts (has_float e) (members_have_float ms) k in
    ordered-false (slice_cmp nat_cmp n m) (Members.member n d (Members.member m e ms)) (Members.member m d ms) (Members.member m e (put n d ms))
    (or_from (has_float d) (has_float e || members_have_float ms) h k)
    (or_from (has_float d) (members_have_float ms) h others)
    (or_from (has_float e) (members_have_float (put n d ms)) first (put-false n d ms h others))
