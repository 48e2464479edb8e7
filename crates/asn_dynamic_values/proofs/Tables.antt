-- Tables that are made of sorted entries.
use Rattle.std.proofs.Common.{◌≡◌, refl, sym, ap, ◌∙◌, arith, suc, ◌-◌, ◌<◌, true, false, if◌then◌else◌, List, [], ◌∷◌, ◌++◌, length, map, take, Option, Some, None, Bor}
use Rattle.std.proofs.lemmas.List.{length-map, map_push, take-map}
use Rattle.std.specs.Prelude.{option_copied, option_map, slice_get}
use Rattle.std.specs.Cmp.{IsTotalOrder}
use Rattle.std.specs.Cmp.Lexicographic.{slice_cmp}
use Rattle.std.specs.declared.cmp.Ordering.{Ordering}
use Rattle.std.specs.declared.cmp.Ordering.TheVariants.{Less, Equal, Greater}
use Rattle.std.specs.Ordering.{match_ordering, nat_cmp, on}
use Rattle.std.proofs.lemmas.Cmp.{nat_list_cmp_total, on_total}
use Rattle.asn_model.specs.Sorting.{sort}
use Rattle.asn_model.specs.Value.{Value, Values, key_of, put_entries, put_entry, table_of, values}
use Rattle.asn_model.proofs.Sorting.{sort-map}
use Rattle.asn_dynamic_values.specs.DynView.{dyn_value}
use Rattle.asn_dynamic_values.specs.Order.{ties_with}
use Rattle.asn_dynamic_values.specs.declared.value.DynValue.{DynValue}
use Rattle.asn_dynamic_values.proofs.Lasts.{from-last, lasts-from, lasts-sort, lasts_from, put, puts, with_last}

-- The order of entries by their keys.
abbrev pub by_key : Value → Value → Ordering
by_key = on key_of (slice_cmp nat_cmp)

pub by_key-total : IsTotalOrder by_key
by_key-total = on_total key_of nat_list_cmp_total

-- The list as the elements of a value.
abbrev pub plain : List Value → Values
plain vs = values (λ v. v) vs

put-values : (e : Value) (found : List Value) → put_entry e (plain found) ≡ plain (put by_key by_key-total e found)
put-values e [] = refl
put-values e (f ∷ fs) = by (slice_cmp nat_cmp (key_of e) (key_of f)) (put-values e fs)
  where
    by : (r : Ordering) → put_entry e (plain fs) ≡ plain (put by_key by_key-total e fs)
        → match_ordering r (Values.value e (Values.value f (plain fs))) (Values.value e (plain fs)) (Values.value f (put_entry e (plain fs))) ≡ plain (match_ordering r (e ∷ f ∷ fs) (e ∷ fs) (f ∷ put by_key by_key-total e fs))
    by Less h = refl
    by Equal h = refl
    by Greater h = ap (Values.value f) h

puts-values : (found es : List Value) → put_entries (plain found) (plain es) ≡ plain (puts by_key by_key-total found es)
puts-values found [] = refl
puts-values found (e ∷ es) = ap (λ l. put_entries l (plain es)) (put-values e found) ∙ puts-values (put by_key by_key-total e found) es

pub values-map : (vs : List DynValue) → plain (map dyn_value vs) ≡ values dyn_value vs
values-map [] = refl
values-map (v ∷ vs) = ap (Values.value (dyn_value v)) (values-map vs)

-- The last of each key, of the sorted entries, is the table.
pub table-made : (old sorted : List DynValue) → sorted ≡ sort (on dyn_value by_key) old → plain (lasts_from by_key by_key-total [] (map dyn_value sorted)) ≡ table_of (values dyn_value old)
table-made old sorted is =
    ap (λ l. plain (lasts_from by_key by_key-total [] l)) (ap (map dyn_value) is ∙ sym (sort-map by_key dyn_value old))
    ∙ ap plain (lasts-from by_key by_key-total (sort by_key (map dyn_value old)) ∙ lasts-sort by_key by_key-total (map dyn_value old))
    ∙ sym (puts-values [] (map dyn_value old))
    ∙ ap table_of (values-map old)

-- The last of the elements.
abbrev pub last_of : List Value → Option Value
last_of [] = None
last_of (v ∷ []) = Some v
last_of (v ∷ w ∷ ws) = last_of (w ∷ ws)

last-seen : (vs : List DynValue) → option_map dyn_value (slice_get vs (length vs - 1)) ≡ last_of (map dyn_value vs)
last-seen [] = refl
last-seen (v ∷ []) = refl
last-seen (v ∷ w ∷ ws) =
    let e : length (v ∷ w ∷ ws) - 1 ≡ suc (length (w ∷ ws) - 1) = omega arith in
    ap (λ k. option_map dyn_value (slice_get (v ∷ w ∷ ws) k)) e ∙ last-seen (w ∷ ws)

copied : (r : Option (Bor DynValue)) → option_map (λ v. dyn_value v.now) r ≡ option_map dyn_value (option_copied r)
copied None = refl
copied (Some v) = refl

-- What is lent is the last of them.
pub last-lent : (vs : List DynValue) (r : Option (Bor DynValue)) → option_copied r ≡ slice_get vs (length vs - 1) → option_map (λ v. dyn_value v.now) r ≡ last_of (map dyn_value vs)
last-lent vs r e = copied r ∙ ap (option_map dyn_value) e ∙ last-seen vs

-- An entry whose key is that of the last one stands in its place.
pub tied-some : (vs : List Value) (e : Value) → ties_with (last_of vs) e ≡ true → 0 < length vs
tied-some [] e h = let d : false ≡ true = h in cc d
tied-some (v ∷ vs) e h = omega arith

pub with-replaced : (vs : List Value) (e : Value) → ties_with (last_of vs) e ≡ true → with_last by_key by_key-total vs e ≡ take (length vs - 1) vs ++ e ∷ []
with-replaced [] e h = let d : false ≡ true = h in cc d
with-replaced (v ∷ []) e h = ap (λ b. if b then e ∷ [] else v ∷ e ∷ []) h
with-replaced (v ∷ w ∷ ws) e h =
    let n : suc (length (w ∷ ws) - 1) ≡ length (v ∷ w ∷ ws) - 1 = omega arith in
    ap (λ l. v ∷ l) (with-replaced (w ∷ ws) e h) ∙ ap (λ k. take k (v ∷ w ∷ ws) ++ e ∷ []) n

-- Any other stays.
pub with-another : (vs : List Value) (e : Value) → ties_with (last_of vs) e ≡ false → with_last by_key by_key-total vs e ≡ vs ++ e ∷ []
with-another [] e h = refl
with-another (v ∷ []) e h = ap (λ b. if b then e ∷ [] else v ∷ e ∷ []) h
with-another (v ∷ w ∷ ws) e h = ap (λ l. v ∷ l) (with-another (w ∷ ws) e h)

-- One more entry, behind those that are left of the entries before it.
pub left-more : (lasts before left : List DynValue) (seen : List DynValue) (e : DynValue) → left ≡ before ++ e ∷ [] → map dyn_value lasts ≡ lasts_from by_key by_key-total [] (map dyn_value seen)
    → map dyn_value before ++ dyn_value e ∷ [] ≡ with_last by_key by_key-total (map dyn_value lasts) (dyn_value e) → map dyn_value left ≡ lasts_from by_key by_key-total [] (map dyn_value (seen ++ e ∷ []))
left-more lasts before left seen e is kept more =
    ap (map dyn_value) is ∙ map_push dyn_value before e ∙ more ∙ ap (λ l. with_last by_key by_key-total l (dyn_value e)) kept
    ∙ sym (ap (lasts_from by_key by_key-total []) (map_push dyn_value seen e) ∙ from-last by_key by_key-total [] (map dyn_value seen) (dyn_value e))

pub replaced-more : (lasts before : List DynValue) (e : DynValue) → ties_with (last_of (map dyn_value lasts)) (dyn_value e) ≡ true → before ≡ take (length lasts - 1) lasts
    → map dyn_value before ++ dyn_value e ∷ [] ≡ with_last by_key by_key-total (map dyn_value lasts) (dyn_value e)
replaced-more lasts before e h is =
    ap (λ l. map dyn_value l ++ dyn_value e ∷ []) is
    ∙ ap (λ l. l ++ dyn_value e ∷ []) (sym (take-map dyn_value (length lasts - 1) lasts) ∙ ap (λ n. take (n - 1) (map dyn_value lasts)) (sym (length-map lasts dyn_value)))
    ∙ sym (with-replaced (map dyn_value lasts) (dyn_value e) h)
