-- Held values in another order, and in a table.
use Rattle.std.proofs.Common.{◌≡◌, refl, ap, ◌∙◌, ℕ, List, Bool, true, false, Ordering, Less, Equal, Greater, nat_cmp}
use Rattle.std.specs.List.{AllByRecursion}
use Rattle.std.specs.Cmp.Lexicographic.{slice_cmp}
use Rattle.std.specs.Ordering.{match_ordering, ordering_reverse}
use Rattle.std.proofs.lemmas.Cmp.{nat_list_cmp_total}
use Rattle.asn_model.specs.Value.{Value, Values, are_above, elements, key_of, keys_rise, put_entries, put_entry, sort_values, table_of, value_cmp}
use Rattle.asn_model.proofs.Bags.{each-ordered, sort-ordered_by}
use Rattle.asn_model.proofs.Readables.{and-both, and-left, and-right}
use Rattle.asn_dynamic_reading.specs.fitting.HeldValue.{AreHeldValues, IsHeldValue}

each-held : (vs : Values) → AreHeldValues vs → AllByRecursion IsHeldValue (elements vs)
each-held Values.no_values h = tt
each-held (Values.value v vs) h = (h.0, each-held vs h.1)

all-held : (vs : Values) → AllByRecursion IsHeldValue (elements vs) → AreHeldValues vs
all-held Values.no_values h = tt
all-held (Values.value v vs) h = (h.0, all-held vs h.1)

-- Held values are held in their own order.
pub held_sorted : (vs : Values) → AreHeldValues vs → AreHeldValues (sort_values vs)
held_sorted vs h = all-held (sort_values vs) (each-ordered IsHeldValue value_cmp vs (each-held vs h))

-- What is in order stays as it is.
pub sorted_twice : (vs : Values) → sort_values (sort_values vs) ≡ sort_values vs
sorted_twice vs = sort-ordered_by value_cmp vs

-- What holds of each of three lists holds of the one that is taken.
one-of : (P : Values → Type 0) (o : Ordering) (a b c : Values) → P a → P b → P c → P (match_ordering o a b c)
one-of P Less a b c p q r = p
one-of P Equal a b c p q r = q
one-of P Greater a b c p q r = r

put-each : (P : Value → Type 0) (e : Value) (es : Values) → P e → AllByRecursion P (elements es) → AllByRecursion P (elements (put_entry e es))
put-each P e Values.no_values p q = (p, tt)
put-each P e (Values.value f fs) p q =
    one-of (λ es. AllByRecursion P (elements es)) (slice_cmp nat_cmp (key_of e) (key_of f)) (Values.value e (Values.value f fs)) (Values.value e fs) (Values.value f (put_entry e fs)) (p, q) (p, q.1) (q.0, put-each P e fs p q.1)

entries-each : (P : Value → Type 0) (found es : Values) → AllByRecursion P (elements found) → AllByRecursion P (elements es) → AllByRecursion P (elements (put_entries found es))
entries-each P found Values.no_values p q = p
entries-each P found (Values.value e es) p q = entries-each P (put_entry e found) es (put-each P e found q.0 p) q.1

-- A table has no other entries than its list.
pub each_in_table : (P : Value → Type 0) (es : Values) → AllByRecursion P (elements es) → AllByRecursion P (elements (table_of es))
each_in_table P es h = entries-each P Values.no_values es tt h

-- A table of held entries is held.
pub held_table : (es : Values) → AreHeldValues es → AreHeldValues (table_of es)
held_table es h = all-held (table_of es) (each_in_table IsHeldValue es (each-held es h))

-- The key is below this one.
abbrev is_below : List ℕ → List ℕ → Bool
is_below key other = match_ordering (slice_cmp nat_cmp key other) true false false

below-less : (key other : List ℕ) → is_below key other ≡ true → slice_cmp nat_cmp key other ≡ Less
below-less key other h = by (slice_cmp nat_cmp key other) refl h
  where
    by : (o : Ordering) → slice_cmp nat_cmp key other ≡ o → match_ordering o true false false ≡ true → slice_cmp nat_cmp key other ≡ Less
    by Less e h = e
    by Equal e h = let d : false ≡ true = h in cc d
    by Greater e h = let d : false ≡ true = h in cc d

-- Keys that are above another key are above what is below it.
above-lower : (low key : List ℕ) (es : Values) → slice_cmp nat_cmp low key ≡ Less → are_above key es ≡ true → are_above low es ≡ true
above-lower low key Values.no_values less h = refl
above-lower low key (Values.value e es) less h =
    let first = below-less key (key_of e) (and-left (is_below key (key_of e)) (are_above key es) h) in
    let lower : slice_cmp nat_cmp low (key_of e) ≡ Less = nat_list_cmp_total.trans low key (key_of e) less first in
    and-both (is_below low (key_of e)) (are_above low es) (ap (λ o. match_ordering o true false false) lower) (above-lower low key es less (and-right (is_below key (key_of e)) (are_above key es) h))

-- Keys that are above a key are above one that is equal to it.
above-same : (key other : List ℕ) (es : Values) → slice_cmp nat_cmp key other ≡ Equal → are_above other es ≡ true → are_above key es ≡ true
above-same key other Values.no_values same h = refl
above-same key other (Values.value e es) same h =
    let below = and-left (is_below other (key_of e)) (are_above other es) h in
    and-both (is_below key (key_of e)) (are_above key es) (ap (λ o. match_ordering o true false false) (nat_list_cmp_total.congr key other (key_of e) same) ∙ below) (above-same key other es same (and-right (is_below other (key_of e)) (are_above other es) h))

-- An entry of a higher key is put above a key.
above-put : (key : List ℕ) (e : Value) (es : Values) → slice_cmp nat_cmp key (key_of e) ≡ Less → are_above key es ≡ true → are_above key (put_entry e es) ≡ true
above-put key e Values.no_values less h = and-both (is_below key (key_of e)) true (ap (λ o. match_ordering o true false false) less) refl
above-put key e (Values.value f fs) less h =
    let first = ap (λ o. match_ordering o true false false) less in
    let here = and-left (is_below key (key_of f)) (are_above key fs) h in
    let rest = and-right (is_below key (key_of f)) (are_above key fs) h in
    one-of (λ es. are_above key es ≡ true) (slice_cmp nat_cmp (key_of e) (key_of f)) (Values.value e (Values.value f fs)) (Values.value e fs) (Values.value f (put_entry e fs))
    (and-both (is_below key (key_of e)) (are_above key (Values.value f fs)) first h) (and-both (is_below key (key_of e)) (are_above key fs) first rest) (and-both (is_below key (key_of f)) (are_above key (put_entry e fs)) here (above-put key e fs less rest))

put-rises : (e : Value) (es : Values) → keys_rise es ≡ true → keys_rise (put_entry e es) ≡ true
put-rises e Values.no_values h = refl
put-rises e (Values.value f fs) h = by (put-rises e fs rest) (slice_cmp nat_cmp (key_of e) (key_of f)) refl
  where
    higher : are_above (key_of f) fs ≡ true
    higher = and-left (are_above (key_of f) fs) (keys_rise fs) h

    rest : keys_rise fs ≡ true
    rest = and-right (are_above (key_of f) fs) (keys_rise fs) h

    by : keys_rise (put_entry e fs) ≡ true → (o : Ordering) → slice_cmp nat_cmp (key_of e) (key_of f) ≡ o → keys_rise (match_ordering o (Values.value e (Values.value f fs)) (Values.value e fs) (Values.value f (put_entry e fs))) ≡ true
    by later Less o = and-both (are_above (key_of e) (Values.value f fs)) (keys_rise (Values.value f fs)) (and-both (is_below (key_of e) (key_of f)) (are_above (key_of e) fs) (ap (λ o. match_ordering o true false false) o) (above-lower (key_of e) (key_of f) fs o higher)) h
    by later Equal o = and-both (are_above (key_of e) fs) (keys_rise fs) (above-same (key_of e) (key_of f) fs o higher) rest
    by later Greater o =
        let less : slice_cmp nat_cmp (key_of f) (key_of e) ≡ Less = nat_list_cmp_total.antisymm (key_of f) (key_of e) ∙ ap ordering_reverse o in
        and-both (are_above (key_of f) (put_entry e fs)) (keys_rise (put_entry e fs)) (above-put (key_of f) e fs less higher) later

entries-rise : (found es : Values) → keys_rise found ≡ true → keys_rise (put_entries found es) ≡ true
entries-rise found Values.no_values p = p
entries-rise found (Values.value e es) p = entries-rise (put_entry e found) es (put-rises e found p)

-- The keys of a table rise.
pub table_rises : (es : Values) → keys_rise (table_of es) ≡ true
table_rises es = entries-rise Values.no_values es refl
