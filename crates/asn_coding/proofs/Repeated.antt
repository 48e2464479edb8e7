-- Which name is the first that is repeated, by the rows of a type's fields.
use Rattle.std.proofs.Common.{◌≡◌, refl, sym, ap, ◌∙◌, subst, ℕ, zero, suc, ◌<◌, ◌≤◌, arith, List, [], ◌∷◌, length, Bool, true, false, Option, Some, None}
use Rattle.std.proofs.lemmas.List.Elements.{All-contains, recursion_from_All}
use Rattle.std.specs.List.{All, AllByRecursion, slice_get}
use Rattle.std.specs.Ordering.{on}
use Rattle.asn_model.specs.Components.{Component, Standing, component_names, components, reading_order, tag_cmp}
use Rattle.asn_model.specs.Notation.{Notation}
use Rattle.asn_model.specs.Shape.{SeqKind, Fields, FieldAdditions, all_fields, field_names}
use Rattle.asn_model.specs.Tree.{Tree, first_repeated, is_repeated}
use Rattle.asn_names.specs.Rows.{NameRow}
use Rattle.asn_coding.specs.Opening.{IsFirstRepeated}
use Rattle.asn_coding.specs.Tables.{ListsFields}
use Rattle.asn_coding.proofs.ReadingOrder.{names-read}
use Rattle.asn_coding.proofs.Sorted.{each-append, each-first, each-mapped, each-of_map, each-second, each-sorted}

none-first : (n : Notation) (t : Tree) (names : List (List ℕ)) → AllByRecursion (λ name. is_repeated n t name ≡ false) names → first_repeated n t names ≡ None
none-first n t [] all = refl
none-first n t (name ∷ names) (once, all) = rw once (none-first n t names all)

-- What holds of each name in the order of reading holds of each as the type lists them.
each-read : (P : List ℕ → Type 0) (kind : SeqKind) (fs : Fields) (added : FieldAdditions) → AllByRecursion P (component_names (reading_order kind fs added)) → AllByRecursion P (field_names (all_fields fs added))
each-read P SeqKind.sequence fs added all = subst (AllByRecursion P) (names-read fs added) all
each-read P SeqKind.set fs added all =
    subst (AllByRecursion P) (names-read fs added)
    (each-mapped P (λ (c : Component). c.name) (reading_order SeqKind.sequence fs added) (as_listed (λ (c : Component). P c.name) fs added (each-of_map P (λ (c : Component). c.name) (reading_order SeqKind.set fs added) all)))
  where
    as_listed : (Q : Component → Type 0) (fs : Fields) (added : FieldAdditions) → AllByRecursion Q (reading_order SeqKind.set fs added) → AllByRecursion Q (reading_order SeqKind.sequence fs added)
    as_listed Q fs FieldAdditions.closed_fields all = each-sorted (on (λ (c : Component). c.tag) tag_cmp) Q (components Standing.root fs) all
    as_listed Q fs (FieldAdditions.extended_fields more) all =
        each-append Q (components Standing.root fs) _ (each-sorted (on (λ (c : Component). c.tag) tag_cmp) Q (components Standing.root fs) (each-first Q _ (components Standing.addition more) all)) (each-second Q _ (components Standing.addition more) all)

-- Where no name of those that are read is repeated, none of the fields' is.
pub none_repeated : (n : Notation) (t : Tree) (kind : SeqKind) (fs : Fields) (added : FieldAdditions) {names : List (List ℕ)} → names ≡ component_names (reading_order kind fs added) → All (λ name. is_repeated n t name ≡ false) names
    → first_repeated n t (field_names (all_fields fs added)) ≡ None
none_repeated n t kind fs added {names} spelled once =
    let P : List ℕ → Type 0 = λ name. is_repeated n t name ≡ false in
    none-first n t (field_names (all_fields fs added)) (each-read P kind fs added (subst (AllByRecursion P) spelled (recursion_from_All P names once)))

first-at : (n : Notation) (t : Tree) (names : List (List ℕ)) (k : ℕ) (name : List ℕ) → slice_get names k ≡ Some name → is_repeated n t name ≡ true → ((j : ℕ) (other : List ℕ) → j < k → slice_get names j ≡ Some other → is_repeated n t other ≡ false)
    → first_repeated n t names ≡ Some name
first-at n t [] k name at twice before = let d : ◌≡◌ {A = Option (List ℕ)} None (Some name) = at in cc d
first-at n t (x ∷ xs) zero name at twice before =
    let d : ◌≡◌ {A = Option (List ℕ)} (Some x) (Some name) = at in
    let same : x ≡ name = cc d in
    rw (same, twice) refl
first-at n t (x ∷ xs) (suc k) name at twice before = rw (before 0 x (omega arith) refl) (first-at n t xs k name at twice (λ j other lt is. before (suc j) other (omega (arith, lt)) is))

get-below : (names : List (List ℕ)) (j : ℕ) (name : List ℕ) → slice_get names j ≡ Some name → j < length names
get-below [] j name at = let d : ◌≡◌ {A = Option (List ℕ)} None (Some name) = at in cc d
get-below (x ∷ xs) zero name at = omega arith
get-below (x ∷ xs) (suc j) name at = omega (arith, get-below xs j name at)

-- The first of the rows whose names are repeated has the first name that is.
pub first_row : {n : Notation} {t : Tree} {rows : List NameRow} {row : NameRow} {fs : Fields} {added : FieldAdditions} → ListsFields rows fs added → IsFirstRepeated n t rows row → first_repeated n t (field_names (all_fields fs added)) ≡ Some row.name
first_row {n} {t} {rows} {row} {fs} {added} listed f = first-at n t (field_names (all_fields fs added)) row.index row.name (All-contains (λ (r : NameRow). slice_get (field_names (all_fields fs added)) r.index ≡ Some r.name) rows row listed.named f.listed) f.repeated (λ j other lt at. earlier j other lt at (is_repeated n t other) refl)
  where
    earlier : (j : ℕ) (other : List ℕ) → j < row.index → slice_get (field_names (all_fields fs added)) j ≡ Some other → (b : Bool) → is_repeated n t other ≡ b → is_repeated n t other ≡ false
    earlier j other lt at false e = e
    earlier j other lt at true e =
        let names = field_names (all_fields fs added) in
        let found = listed.complete j (get-below names j other at) in
        let there : slice_get names j ≡ Some found.0.name = subst (λ k. slice_get names k ≡ Some found.0.name) found.2 (All-contains (λ (r : NameRow). slice_get names r.index ≡ Some r.name) rows found.0 listed.named found.1) in
        let d : ◌≡◌ {A = Option (List ℕ)} (Some other) (Some found.0.name) = sym at ∙ there in
        let same : other ≡ found.0.name = cc d in
        let le : row.index ≤ found.0.index = All-contains (λ (r : NameRow). is_repeated n t r.name ≡ true → row.index ≤ r.index) rows found.0 f.first found.1 (ap (is_repeated n t) (sym same) ∙ e) in
        let is : found.0.index ≡ j = found.2 in
        absurd (omega (arith, le, is, lt))
