-- A value holds no float exactly where none of its parts does.
use Rattle.std.proofs.Common.{◌≡◌, ℕ, zero, suc, ◌<◌, Result, Ok, Err, OnOk, OnErr, List, [], ◌∷◌, ◌++◌, length, get_or, false, refl, sym, subst, arith}
use Rattle.std.proofs.lemmas.Bool.{or_from, or_parts}
use Rattle.std.specs.Bool.{⊤}
use Rattle.json_floats.proofs.Putting.{put-false}
use Rattle.serde_json.proofs.Views.{Entry}
use Rattle.serde_json.specs.Data.{Data, put}
use Rattle.serde_json.specs.View.{view, items_view, members_view}
use Rattle.serde_json.specs.Written.{has_float, items_have_float, members_have_float}
use Rattle.serde_json.specs.declared.value.Value.{Value as JsonValue}

-- An element of those that hold none.
pub item_whole : (vs : List JsonValue) (i : ℕ) (v : JsonValue) → i < length vs → v ≡ get_or vs i v → items_have_float (items_view vs) ≡ false → has_float (view v) ≡ false
item_whole [] i v h e none = absurd (omega (arith, h))
item_whole (w ∷ ws) zero v h e none = let (first, others) = or_parts (has_float (view w)) (items_have_float (items_view ws)) none in rw e first
item_whole (w ∷ ws) (suc i) v h e none = let (first, others) = or_parts (has_float (view w)) (items_have_float (items_view ws)) none in item_whole ws i v (omega (arith, h)) e others

-- A member of those that hold none.
pub member_whole : (done : List Entry) (e : Entry) (more : List Entry) → members_have_float (members_view (done ++ e ∷ more)) ≡ false → has_float (view e.1) ≡ false
member_whole [] e more none = let (first, others) = or_parts (has_float (view e.1)) (members_have_float (members_view more)) none in first
member_whole (x ∷ done) e more none = let (first, others) = or_parts (has_float (view x.1)) (members_have_float (members_view (done ++ e ∷ more))) none in member_whole done e more others

-- One element more.
pub items_more : (vs : List JsonValue) (v : JsonValue) → items_have_float (items_view vs) ≡ false → has_float (view v) ≡ false → items_have_float (items_view (vs ++ v ∷ [])) ≡ false
items_more [] v none h = or_from (has_float (view v)) false h refl
items_more (w ∷ ws) v none h =
    let (first, others) = or_parts (has_float (view w)) (items_have_float (items_view ws)) none in
    or_from (has_float (view w)) (items_have_float (items_view (ws ++ v ∷ []))) first (items_more ws v others h)

-- After a member was put, or was refused, there is no float, as there was none.
pub put_whole : {E : Type 0} (r : Result ⊤ E) (old new : List Entry) (k : List ℕ) (d : Data) → OnOk r (members_view new ≡ put k d (members_view old)) → OnErr r (new ≡ old)
    → has_float d ≡ false → members_have_float (members_view old) ≡ false → members_have_float (members_view new) ≡ false
put_whole (Ok u) old new k d is same h none = subst (λ ms. members_have_float ms ≡ false) (sym is) (put-false k d (members_view old) h none)
put_whole (Err e) old new k d is same h none = subst (λ es. members_have_float (members_view es) ≡ false) (sym same) none
