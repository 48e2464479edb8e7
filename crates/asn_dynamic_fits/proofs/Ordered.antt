-- Elements that stand in order, and entries whose keys rise, by each one and the next.
use Rattle.std.proofs.Common.{◌≡◌, refl, sym, ap, ◌∙◌, ℕ, List, [], ◌∷◌, map, Bool, true, false, if◌then◌else◌, Decides, nat_cmp, true≢false}
use Rattle.std.specs.declared.cmp.Ordering.{Ordering}
use Rattle.std.specs.declared.cmp.Ordering.TheVariants.{Less, Equal, Greater}
use Rattle.std.specs.Cmp.{IsTotalOrder}
use Rattle.std.specs.Cmp.Lexicographic.{slice_cmp}
use Rattle.std.specs.Bool.{one_answer}
use Rattle.std.specs.Ordering.{is_gt, is_le, is_lt, match_ordering, ordering_reverse}
use Rattle.std.proofs.lemmas.Cmp.{nat_list_cmp_total}
use Rattle.asn_coding.proofs.Collecting.{values-map}
use Rattle.asn_dynamic_fits.proofs.Neighbours.{adjacent, adjacent-map}
use Rattle.asn_dynamic_values.specs.DynView.{dyn_value}
use Rattle.asn_dynamic_values.specs.declared.value.DynValue.{DynValue}
use Rattle.asn_dynamic_values.proofs.Views.{elements-map}
use Rattle.asn_model.specs.Sorting.{insert_in_order, sort}
use Rattle.asn_model.specs.Value.{Value, Values, are_above, elements, key_of, keys_rise, sort_values, value_cmp, values}
use Rattle.asn_model.proofs.Bags.{elements-values, values-elements}
use Rattle.asn_model.proofs.Readables.{and-both, and-left, and-right}
use Rattle.asn_model.proofs.ValueOrder.{value_cmp_total}

le-not_gt : (r : Ordering) → is_le r ≡ true → is_gt r ≡ false
le-not_gt Less h = refl
le-not_gt Equal h = refl
le-not_gt Greater h = let d : false ≡ true = h in cc d

not_gt-le : (r : Ordering) → is_gt r ≡ false → is_le r ≡ true
not_gt-le Less h = refl
not_gt-le Equal h = refl
not_gt-le Greater h = let d : true ≡ false = h in cc d

module _ {X : Type 0} (cmp : X → X → Ordering) (o : IsTotalOrder cmp) where
  abbrev upto_next : X → X → Bool
  upto_next x y = is_le (cmp x y)

  sort-rising : (xs : List X) → adjacent upto_next xs ≡ true → sort cmp xs ≡ xs
  sort-rising [] h = refl
  sort-rising (x ∷ []) h = refl
  sort-rising (x ∷ y ∷ ys) h =
      ap (insert_in_order cmp x) (sort-rising (y ∷ ys) (and-right (upto_next x y) (adjacent upto_next (y ∷ ys)) h))
      ∙ ap (λ b. if b then y ∷ insert_in_order cmp x ys else x ∷ y ∷ ys) (le-not_gt (cmp x y) (and-left (upto_next x y) (adjacent upto_next (y ∷ ys)) h))

  reversed : (r : Ordering) → r ≡ ordering_reverse r → is_gt r ≡ false
  reversed Less e = refl
  reversed Equal e = refl
  reversed Greater e = let d : Greater ≡ Less = e in cc d

  not_above : (x : X) → is_gt (cmp x x) ≡ false
  not_above x = reversed (cmp x x) (o.antisymm x x)

  first : (x y : X) (xs ys : List X) → x ∷ xs ≡ y ∷ ys → x ≡ y
  first x y xs ys e = cc e

  others : (x y : X) (xs ys : List X) → x ∷ xs ≡ y ∷ ys → xs ≡ ys
  others x y xs ys e = cc e

  -- An element that stays first is upto the next.
  stays : (x z y : X) (zs ys : List X) (b : Bool) → is_gt (cmp x z) ≡ b → (if b then z ∷ insert_in_order cmp x zs else x ∷ z ∷ zs) ≡ x ∷ y ∷ ys → (z ∷ zs ≡ y ∷ ys) × (is_gt (cmp x y) ≡ false)
  stays x z y zs ys true g e = absurd (true≢false (sym g ∙ ap (λ w. is_gt (cmp x w)) (first z x _ _ e) ∙ not_above x))
  stays x z y zs ys false g e = let rest = others x x _ _ e in (rest, ap (λ w. is_gt (cmp x w)) (sym (first z y zs ys rest)) ∙ g)

  inserted : (x y : X) (zs ys : List X) → insert_in_order cmp x zs ≡ x ∷ y ∷ ys → (zs ≡ y ∷ ys) × (is_gt (cmp x y) ≡ false)
  inserted x y [] ys e = let d : [] ≡ y ∷ ys = others x x _ _ e in cc d
  inserted x y (z ∷ zs) ys e = stays x z y zs ys (is_gt (cmp x z)) refl e

  rising-sort : (xs : List X) → sort cmp xs ≡ xs → adjacent upto_next xs ≡ true
  rising-sort [] h = refl
  rising-sort (x ∷ []) h = refl
  rising-sort (x ∷ y ∷ ys) h =
      let p = inserted x y (sort cmp (y ∷ ys)) ys h in
      and-both (upto_next x y) (adjacent upto_next (y ∷ ys)) (not_gt-le (cmp x y) p.1) (rising-sort (y ∷ ys) p.0)

abbrev pub upto_next_value : Value → Value → Bool
upto_next_value v w = is_le (value_cmp v w)

sorted-elements : (vs : Values) → sort value_cmp (elements vs) ≡ elements vs → sort_values vs ≡ vs
sorted-elements vs e = ap (values (λ v. v)) e ∙ values-elements vs

elements-sorted : (vs : Values) → sort_values vs ≡ vs → sort value_cmp (elements vs) ≡ elements vs
elements-sorted vs e = sym (elements-values (sort value_cmp (elements vs))) ∙ ap elements e

-- Elements that are each upto the next are in order, and no others.
pub order-decides : (vs : List DynValue) (r : Bool) → r ≡ adjacent (λ v w. upto_next_value (dyn_value v) (dyn_value w)) vs → Decides r (sort_values (values dyn_value vs) ≡ values dyn_value vs)
order-decides vs r is =
    let seen : r ≡ adjacent upto_next_value (elements (values dyn_value vs)) = is ∙ adjacent-map upto_next_value dyn_value vs ∙ ap (adjacent upto_next_value) (sym (elements-map vs)) in (
      λ e. sorted-elements (values dyn_value vs) (sort-rising value_cmp value_cmp_total (elements (values dyn_value vs)) (sym seen ∙ e)),
      λ s. seen ∙ rising-sort value_cmp value_cmp_total (elements (values dyn_value vs)) (elements-sorted (values dyn_value vs) s),
    )

-- The key of the first is below that of the second.
abbrev pub below_next : Value → Value → Bool
below_next v w = is_lt (slice_cmp nat_cmp (key_of v) (key_of w))

less_is : (r : Ordering) → is_lt r ≡ true → r ≡ Less
less_is Less e = refl
less_is Equal e = let d : false ≡ true = e in cc d
less_is Greater e = let d : false ≡ true = e in cc d

less_at : (r : Ordering) → is_lt r ≡ match_ordering r true false false
less_at Less = refl
less_at Equal = refl
less_at Greater = refl

-- What is above a key is above any lower one.
above-lower : (low key : List ℕ) (vs : Values) → slice_cmp nat_cmp low key ≡ Less → are_above key vs ≡ true → are_above low vs ≡ true
above-lower low key Values.no_values l h = refl
above-lower low key (Values.value v vs) l h =
    let here : match_ordering (slice_cmp nat_cmp key (key_of v)) true false false ≡ true = and-left _ (are_above key vs) h in
    let less : slice_cmp nat_cmp low (key_of v) ≡ Less = nat_list_cmp_total.trans low key (key_of v) l (less_is _ (less_at _ ∙ here)) in
    and-both _ (are_above low vs) (ap (λ r. match_ordering r true false false) less) (above-lower low key vs l (and-right (match_ordering (slice_cmp nat_cmp key (key_of v)) true false false) (are_above key vs) h))

keys-rising : (vs : List Value) → adjacent below_next vs ≡ true → keys_rise (values (λ v. v) vs) ≡ true
keys-rising [] h = refl
keys-rising (v ∷ []) h = refl
keys-rising (v ∷ w ∷ ws) h =
    let less : below_next v w ≡ true = and-left (below_next v w) (adjacent below_next (w ∷ ws)) h in
    let rest : keys_rise (values (λ u. u) (w ∷ ws)) ≡ true = keys-rising (w ∷ ws) (and-right (below_next v w) (adjacent below_next (w ∷ ws)) h) in
    let above : are_above (key_of v) (values (λ u. u) ws) ≡ true
    = above-lower (key_of v) (key_of w) (values (λ u. u) ws) (less_is _ less) (and-left (are_above (key_of w) (values (λ u. u) ws)) (keys_rise (values (λ u. u) ws)) rest) in
    and-both (are_above (key_of v) (values (λ u. u) (w ∷ ws))) (keys_rise (values (λ u. u) (w ∷ ws))) (and-both _ (are_above (key_of v) (values (λ u. u) ws)) (sym (less_at (slice_cmp nat_cmp (key_of v) (key_of w))) ∙ less) above) rest

rising-keys : (vs : List Value) → keys_rise (values (λ v. v) vs) ≡ true → adjacent below_next vs ≡ true
rising-keys [] h = refl
rising-keys (v ∷ []) h = refl
rising-keys (v ∷ w ∷ ws) h =
    let above = and-left (are_above (key_of v) (values (λ u. u) (w ∷ ws))) (keys_rise (values (λ u. u) (w ∷ ws))) h in
    let less : match_ordering (slice_cmp nat_cmp (key_of v) (key_of w)) true false false ≡ true = and-left _ (are_above (key_of v) (values (λ u. u) ws)) above in
    and-both (below_next v w) (adjacent below_next (w ∷ ws)) (less_at (slice_cmp nat_cmp (key_of v) (key_of w)) ∙ less) (rising-keys (w ∷ ws) (and-right (are_above (key_of v) (values (λ u. u) (w ∷ ws))) (keys_rise (values (λ u. u) (w ∷ ws))) h))

-- Entries whose keys are each below the next have keys that rise, and no others.
pub keys-decided : (vs : List DynValue) (r : Bool) → r ≡ adjacent (λ v w. below_next (dyn_value v) (dyn_value w)) vs → r ≡ keys_rise (values dyn_value vs)
keys-decided vs r is =
    is ∙ adjacent-map below_next dyn_value vs
    ∙ one_answer (adjacent below_next (map dyn_value vs)) (keys_rise (values (λ v. v) (map dyn_value vs))) (keys-rising (map dyn_value vs), rising-keys (map dyn_value vs)) (λ e. e, λ e. e)
    ∙ ap keys_rise (values-map (λ v. v) dyn_value vs)
