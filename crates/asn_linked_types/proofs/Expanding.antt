-- What types mean that name each other can be read.
use Rattle.std.proofs.Common.{◌≡◌, refl, ap, sym, ◌∙◌, arith, ℕ, zero, suc, ◌<◌, List, [], ◌∷◌, length, Bool, true, false, ◌&&◌, nat_eq, nat_le, nat_lt, if◌then◌else◌, Option, Some, None}
use Rattle.std.specs.Prelude.{option_map}
use Rattle.std.proofs.lemmas.Bool.{le-leb, leb-true, lt-ltb, ltb-true}
use Rattle.asn_linked_types.specs.Expansion.{back_or, expansion, linked_shape, linked_fields, linked_added_fields, linked_alternatives, linked_added_alternatives, loop_of, no_values, place_of, type_at}
use Rattle.asn_linked_types.specs.Linked.{are_readable_among}
use Rattle.asn_linked_types.proofs.Linking.{all_field_names-linked, entry-linked, has-linked, suits-linked, told-linked}
use Rattle.asn_model.specs.Readable.{all_field_names, are_added_alternatives_readable, are_added_fields_readable, are_alternatives_readable, are_distinguishable, are_fields_readable, are_identifiers, has_alternative, is_entry, is_readable, is_readable_in, suits}
use Rattle.asn_model.specs.Shape.{Shape, Fields, FieldAdditions, Alternatives, AlternativeAdditions, all_alternatives, are_distinct}
use Rattle.asn_model.specs.Value.{Fits, Value, is_leaf_of}
use Rattle.asn_model.proofs.Readables.{and-both, and-left, and-right}

-- A shape that can be read within some loops can be read within these, where what its names stand for can.
module _ (f : ℕ → Shape) (loops : ℕ) (named : (k : ℕ) → is_readable_in loops 0 (f k) ≡ true) where
  mutual
    linked-readable : (s : Shape) (count bare : ℕ) → is_readable_in count bare s ≡ true → is_readable_in loops 0 (linked_shape f s) ≡ true
    linked-readable (Shape.seq kind fs added) count bare e =
        let names = are_identifiers (all_field_names fs added) && are_distinct (all_field_names fs added) in
        let parts = and-right names (are_fields_readable count fs && are_added_fields_readable count added) e in
        and-both _ _ (ap (λ ns. are_identifiers ns && are_distinct ns) (all_field_names-linked f fs added) ∙ and-left names (are_fields_readable count fs && are_added_fields_readable count added) e)
        (and-both _ _ (fields-readable fs count (and-left (are_fields_readable count fs) (are_added_fields_readable count added) parts))
        (added_fields-readable added count (and-right (are_fields_readable count fs) (are_added_fields_readable count added) parts)))
    linked-readable (Shape.list_of s) count bare e = linked-readable s count 0 e
    linked-readable (Shape.set_of s) count bare e = linked-readable s count 0 e
    linked-readable (Shape.table s) count bare e =
        and-both _ _ (entry-linked f s (and-left (is_entry s) (is_readable_in count 0 s) e)) (linked-readable s count 0 (and-right (is_entry s) (is_readable_in count 0 s) e))
    linked-readable (Shape.choice alts added) count bare e =
        let names = has_alternative (all_alternatives alts added) && are_distinguishable (all_alternatives alts added) in
        let parts = and-right names (are_alternatives_readable count alts && are_added_alternatives_readable count added) e in
        let told = and-left names (are_alternatives_readable count alts && are_added_alternatives_readable count added) e in
        and-both _ _ (and-both _ _ (has-linked f alts added ∙ and-left (has_alternative (all_alternatives alts added)) (are_distinguishable (all_alternatives alts added)) told)
        (told-linked f alts added ∙ and-right (has_alternative (all_alternatives alts added)) (are_distinguishable (all_alternatives alts added)) told))
        (and-both _ _ (alternatives-readable alts count (and-left (are_alternatives_readable count alts) (are_added_alternatives_readable count added) parts))
        (added_alternatives-readable added count (and-right (are_alternatives_readable count alts) (are_added_alternatives_readable count added) parts)))
    linked-readable (Shape.loop s) count bare e = refl
    linked-readable (Shape.back k) count bare e = named k
    linked-readable s count bare e = e

    fields-readable : (fs : Fields) (count : ℕ) → are_fields_readable count fs ≡ true → are_fields_readable loops (linked_fields f fs) ≡ true
    fields-readable Fields.no_fields count e = refl
    fields-readable (Fields.field n t p s fs) count e =
        let first = and-left (suits p s && is_readable_in count 0 s) (are_fields_readable count fs) e in
        and-both _ _ (and-both _ _ (suits-linked f p s (and-left (suits p s) (is_readable_in count 0 s) first)) (linked-readable s count 0 (and-right (suits p s) (is_readable_in count 0 s) first)))
        (fields-readable fs count (and-right (suits p s && is_readable_in count 0 s) (are_fields_readable count fs) e))

    added_fields-readable : (added : FieldAdditions) (count : ℕ) → are_added_fields_readable count added ≡ true → are_added_fields_readable loops (linked_added_fields f added) ≡ true
    added_fields-readable FieldAdditions.closed_fields count e = refl
    added_fields-readable (FieldAdditions.extended_fields fs) count e = fields-readable fs count e

    alternatives-readable : (alts : Alternatives) (count : ℕ) → are_alternatives_readable count alts ≡ true → are_alternatives_readable loops (linked_alternatives f alts) ≡ true
    alternatives-readable Alternatives.no_alternatives count e = refl
    alternatives-readable (Alternatives.alternative i t s alts) count e =
        and-both _ _ (linked-readable s count 0 (and-left (is_readable_in count 0 s) (are_alternatives_readable count alts) e))
        (alternatives-readable alts count (and-right (is_readable_in count 0 s) (are_alternatives_readable count alts) e))

    added_alternatives-readable : (added : AlternativeAdditions) (count : ℕ) → are_added_alternatives_readable count added ≡ true → are_added_alternatives_readable loops (linked_added_alternatives f added) ≡ true
    added_alternatives-readable AlternativeAdditions.closed_alternatives count e = refl
    added_alternatives-readable (AlternativeAdditions.extended_alternatives alts) count e = alternatives-readable alts count e

  -- So can it be read as the body of loops, where it isn't only a name.
  body-readable : (s : Shape) (count : ℕ) → is_readable_in count count s ≡ true → (bare : ℕ) → is_readable_in loops bare (linked_shape f s) ≡ true
  body-readable (Shape.loop s) count e bare = refl
  body-readable (Shape.back k) count e bare =
      let from = leb-true count k (and-left (nat_le count k) (nat_lt k count) e) in
      let to = ltb-true k count (and-right (nat_le count k) (nat_lt k count) e) in
      absurd (omega (arith, from, to))
  body-readable s count e bare = linked-readable s count count e

-- The loop of a type can be read.
loop-readable : (f : ℕ → Shape) (loops count : ℕ) (o : Option Shape) → ((k : ℕ) → is_readable_in (suc loops) 0 (f k) ≡ true) → ((s : Shape) → o ≡ Some s → is_readable_in count count s ≡ true) → is_readable_in loops 0 (loop_of f o) ≡ true
loop-readable f loops count None named e = refl
loop-readable f loops count (Some s) named e = body-readable f (suc loops) named s count (e s refl) 1

or-readable : (loops : ℕ) (o : Option ℕ) (s : Shape) → ((p : ℕ) → o ≡ Some p → p < loops) → is_readable_in loops 0 s ≡ true → is_readable_in loops 0 (back_or o s) ≡ true
or-readable loops None s below e = e
or-readable loops (Some p) s below e = and-both _ _ (le-leb 0 p (omega arith)) (lt-ltb p loops (below p refl))

place-if : (b : Bool) (o : Option ℕ) (n k : ℕ) → ((j : ℕ) → o ≡ Some j → j < n) → (if b then Some 0 else option_map suc o) ≡ Some k → k < suc n
place-if true o n k h e = let z : 0 ≡ k = cc in omega (arith, z)
place-if false None n k h e = let z : ⊥ = cc in absurd z
place-if false (Some j) n k h e = let z : suc j ≡ k = cc in omega (arith, z, h j refl)

-- A place is below the number of numbers.
pub place-below : (ns : List ℕ) (k p : ℕ) → place_of ns k ≡ Some p → p < length ns
place-below [] k p e = let z : ⊥ = cc in absurd z
place-below (n ∷ ns) k p e = place-if (nat_eq n k) (place_of ns k) (length ns) p (λ j h. place-below ns k j h) e

same-some : {s t : Shape} → ◌≡◌ {A = Option Shape} (Some s) (Some t) → s ≡ t
same-some e = cc e

type-readable : (count : ℕ) (types : List Shape) (k : ℕ) (s : Shape) → are_readable_among count types ≡ true → type_at types k ≡ Some s → is_readable_in count count s ≡ true
type-readable count [] k s e at = let d : ◌≡◌ {A = Option Shape} None (Some s) = at in cc d
type-readable count (t ∷ types) zero s e at = ap (is_readable_in count count) (sym (same-some at)) ∙ and-left (is_readable_in count count t) (are_readable_among count types) e
type-readable count (t ∷ types) (suc k) s e at = type-readable count types k s (and-right (is_readable_in count count t) (are_readable_among count types) e) at

-- What the type of a number means can be read within the types that are open.
expansion-readable : (types : List Shape) (count : ℕ) → are_readable_among count types ≡ true → (more : ℕ) (opened : List ℕ) (k : ℕ) → is_readable_in (length opened) 0 (expansion types more opened k) ≡ true
unfolding expansion
expansion-readable types count e zero opened k = or-readable (length opened) (place_of opened k) no_values (place-below opened k) refl
expansion-readable types count e (suc more) opened k =
    or-readable (length opened) (place_of opened k) (loop_of (expansion types more (k ∷ opened)) (type_at types k)) (place-below opened k)
    (loop-readable (expansion types more (k ∷ opened)) (length opened) count (type_at types k) (expansion-readable types count e more (k ∷ opened)) (λ s. type-readable count types k s e))

-- What each type means can be read.
pub types-readable : (types : List Shape) (count : ℕ) → are_readable_among count types ≡ true → (more n : ℕ) → is_readable (expansion types more [] n) ≡ true
types-readable types count e more n = expansion-readable types count e more [] n

-- A number whose type is open.
pub expands-back : (types : List Shape) (more : ℕ) (opened : List ℕ) (k p : ℕ) → place_of opened k ≡ Some p → expansion types more opened k ≡ Shape.back p
unfolding expansion
expands-back types zero opened k p e = ap (λ o. back_or o no_values) e
expands-back types (suc more) opened k p e = ap (λ o. back_or o (loop_of (expansion types more (k ∷ opened)) (type_at types k))) e

-- One whose type is opened.
pub expands-loop : (types : List Shape) (more less : ℕ) (opened : List ℕ) (k : ℕ) (s : Shape) → place_of opened k ≡ None → type_at types k ≡ Some s → more ≡ suc less → expansion types more opened k ≡ Shape.loop (linked_shape (expansion types less (k ∷ opened)) s)
unfolding expansion
expands-loop types zero less opened k s e at m = absurd (omega (arith, m))
expands-loop types (suc more) less opened k s e at m =
    let same : more ≡ less = omega (arith, m) in
    ap (λ o. back_or o (loop_of (expansion types more (k ∷ opened)) (type_at types k))) e ∙ ap (λ o. loop_of (expansion types more (k ∷ opened)) o) at
    ∙ ap (λ j. Shape.loop (linked_shape (expansion types j (k ∷ opened)) s)) same

-- No more types are opened.
pub expands-full : (types : List Shape) (more : ℕ) (opened : List ℕ) (k : ℕ) → place_of opened k ≡ None → more ≡ 0 → expansion types more opened k ≡ no_values
unfolding expansion
expands-full types zero opened k e m = ap (λ o. back_or o no_values) e
expands-full types (suc more) opened k e m = absurd (omega (arith, m))

-- There is no such type.
pub expands-none : (types : List Shape) (more : ℕ) (opened : List ℕ) (k : ℕ) → place_of opened k ≡ None → type_at types k ≡ None → expansion types more opened k ≡ no_values
unfolding expansion
expands-none types zero opened k e at = ap (λ o. back_or o no_values) e
expands-none types (suc more) opened k e at =
    ap (λ o. back_or o (loop_of (expansion types more (k ∷ opened)) (type_at types k))) e ∙ ap (λ o. loop_of (expansion types more (k ∷ opened)) o) at

module _ {A : Type 0} (g : Shape → A) (a : A) (back : (p : ℕ) → g (Shape.back p) ≡ a) (loop : (s : Shape) → g (Shape.loop s) ≡ a) (none : g no_values ≡ a) where
  or-shows : (o : Option ℕ) (s : Shape) → g s ≡ a → g (back_or o s) ≡ a
  or-shows None s e = e
  or-shows (Some p) s e = back p

  loop-shows : (f : ℕ → Shape) (o : Option Shape) → g (loop_of f o) ≡ a
  loop-shows f None = none
  loop-shows f (Some s) = loop (linked_shape f s)

  -- What is the same of a `back`, a loop and a type without values is the same of each expansion.
  pub expansion-shows : (types : List Shape) (more : ℕ) (opened : List ℕ) (k : ℕ) → g (expansion types more opened k) ≡ a
  unfolding expansion
  expansion-shows types zero opened k = or-shows (place_of opened k) no_values none
  expansion-shows types (suc more) opened k =
      or-shows (place_of opened k) (loop_of (expansion types more (k ∷ opened)) (type_at types k)) (loop-shows (expansion types more (k ∷ opened)) (type_at types k))

none-leaf : (v : Value) → is_leaf_of no_values v ≡ true → ⊥
none-leaf (Value.item i) e = let d : false ≡ true = e in cc d
none-leaf v e = let d : false ≡ true = e in cc d

-- No value is of a type without values.
pub none-fits : (v : Value) → Fits no_values v → ⊥
none-fits v (Fits.fits_leaf e) = none-leaf v e
