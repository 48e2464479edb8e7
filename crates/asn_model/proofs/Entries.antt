-- Entries of a table by their keys.
use Rattle.std.proofs.Common.{◌≡◌, ℕ, ◌≤◌, List, true, false, Ordering, Less, Equal, Greater, nat_cmp, refl, sym, ap, ◌∙◌, arith}
use Rattle.std.proofs.lemmas.Cmp.{nat_list_cmp_total}
use Rattle.std.specs.Cmp.Lexicographic.{slice_cmp}
use Rattle.std.specs.Ordering.{match_ordering, ordering_reverse}
use Rattle.serde_json.specs.Data.{items_depth}
use Rattle.asn_model.specs.Canonical.{jer_items}
use Rattle.asn_model.specs.Value.{Value, Values, are_above, key_of, keys_rise, put_entries, put_entry, table_of}
use Rattle.asn_model.proofs.Readables.{and-left, and-right}

-- The first values and then the others.
abbrev joined : Values → Values → Values
joined Values.no_values ws = ws
joined (Values.value v vs) ws = Values.value v (joined vs ws)

joined-last : (vs : Values) (e : Value) (ws : Values) → joined (joined vs (Values.value e Values.no_values)) ws ≡ joined vs (Values.value e ws)
joined-last Values.no_values e ws = refl
joined-last (Values.value v vs) e ws = ap (Values.value v) (joined-last vs e ws)

joined-none : (vs : Values) → joined vs Values.no_values ≡ vs
joined-none Values.no_values = refl
joined-none (Values.value v vs) = ap (Values.value v) (joined-none vs)

is_less : (o : Ordering) → match_ordering o true false false ≡ true → o ≡ Less
is_less Less e = refl
is_less Equal e = let d : false ≡ true = e in cc d
is_less Greater e = let d : false ≡ true = e in cc d

above-middle : (key : List ℕ) (done : Values) (e : Value) (es : Values) → are_above key (joined done (Values.value e es)) ≡ true → slice_cmp nat_cmp key (key_of e) ≡ Less
above-middle key Values.no_values e es h = is_less _ (and-left _ (are_above key es) h)
above-middle key (Values.value f fs) e es h = above-middle key fs e es (and-right (match_ordering (slice_cmp nat_cmp key (key_of f)) true false false) (are_above key (joined fs (Values.value e es))) h)

-- An entry above those before it goes last.
put-last : (done : Values) (e : Value) (es : Values) → keys_rise (joined done (Values.value e es)) ≡ true → put_entry e done ≡ joined done (Values.value e Values.no_values)
put-last Values.no_values e es h = refl
put-last (Values.value f fs) e es h =
    let rest = joined fs (Values.value e es) in
    let above : slice_cmp nat_cmp (key_of e) (key_of f) ≡ Greater =
    nat_list_cmp_total.antisymm (key_of e) (key_of f) ∙ ap ordering_reverse (above-middle (key_of f) fs e es (and-left (are_above (key_of f) rest) (keys_rise rest) h)) in
    rw above (ap (Values.value f) (put-last fs e es (and-right (are_above (key_of f) rest) (keys_rise rest) h)))

rising-put : (done es : Values) → keys_rise (joined done es) ≡ true → put_entries done es ≡ joined done es
rising-put done Values.no_values h = sym (joined-none done)
rising-put done (Values.value e es) h =
    rw (put-last done e es h) (rising-put (joined done (Values.value e Values.no_values)) es (rw (joined-last done e es) h) ∙ joined-last done e es)

-- Entries whose keys rise are their table.
pub table-rising : (es : Values) → keys_rise es ≡ true → table_of es ≡ es
table-rising es h = rising-put Values.no_values es h

match-depth : (o : Ordering) (a b c : Values) (n : ℕ) → items_depth (jer_items a) ≤ n → items_depth (jer_items b) ≤ n → items_depth (jer_items c) ≤ n → items_depth (jer_items (match_ordering o a b c)) ≤ n
match-depth Less a b c n p q r = p
match-depth Equal a b c n p q r = q
match-depth Greater a b c n p q r = r

put-depth : (e : Value) (es : Values) (n : ℕ) → items_depth (jer_items (Values.value e Values.no_values)) ≤ n → items_depth (jer_items es) ≤ n → items_depth (jer_items (put_entry e es)) ≤ n
put-depth e Values.no_values n p q = p
put-depth e (Values.value f fs) n p q =
    match-depth _ (Values.value e (Values.value f fs)) (Values.value e fs) (Values.value f (put_entry e fs)) n (omega arith) (omega arith) (omega (arith, put-depth e fs n p (omega arith)))

entries-depth : (found es : Values) (n : ℕ) → items_depth (jer_items found) ≤ n → items_depth (jer_items es) ≤ n → items_depth (jer_items (put_entries found es)) ≤ n
entries-depth found Values.no_values n p q = p
entries-depth found (Values.value e es) n p q = entries-depth (put_entry e found) es n (put-depth e found n (omega arith) p) (omega arith)

-- A table nests no deeper than its entries.
pub table-depth : (es : Values) → items_depth (jer_items (table_of es)) ≤ items_depth (jer_items es)
table-depth es = entries-depth Values.no_values es _ (omega arith) (omega arith)
