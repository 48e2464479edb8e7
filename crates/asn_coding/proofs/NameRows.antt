-- The rows of tables of constants, as lists of names.
use Rattle.std.proofs.Common.{◌≡◌, ◌∙◌, ℕ, zero, suc, ◌+◌, ◌<◌, List, [], ◌∷◌, ◌++◌, ap, arith, drop, get_or, length, map, refl, sym, Option, Some, None, option_map}
use Rattle.std.proofs.lemmas.List.{length-append, length-map}
use Rattle.std.proofs.lemmas.Option.{get_or_from_slice_get, slice_get-map, slice_get_within}
use Rattle.std.specs.Borrow.{Bor}
use Rattle.std.specs.List.{slice_get}
use Rattle.asn_names.specs.Rows.{NameRow, index_at, name_at, row_names}
use Rattle.asn_coding.specs.Tables.{name_row, name_rows, names_of, numbered}
use Rattle.asn_coding.specs.Writing.{head_name}
use Rattle.asn_coding.specs.declared.field.Field.{Field}

-- The rows of a table have its names.
pub names-rows : (fields : List Field) → row_names (name_rows fields) ≡ names_of fields
names-rows [] = refl
names-rows (f ∷ fs) = ap (λ l. f.name.now ∷ l) (names-rows fs)

-- Those of two tables have the names of both.
pub names-tables : (root additions : List Field) → row_names (name_rows (root ++ additions)) ≡ names_of root ++ names_of additions
names-tables [] additions = names-rows additions
names-tables (f ∷ fs) additions = ap (λ l. f.name.now ∷ l) (names-tables fs additions)

pub count-tables : (root additions : List Field) → length (name_rows (root ++ additions)) ≡ length root + length additions
count-tables root additions = length-map (root ++ additions) name_row ∙ length-append root additions

-- What the row of a field at a place says.
pub name-field : (fields : List Field) (place : ℕ) (f : Field) → slice_get fields place ≡ Some f → f.name.now ≡ name_at (name_rows fields) place
name-field [] place f at = let d : ◌≡◌ {A = Option Field} None (Some f) = at in cc d
name-field (g ∷ fields) zero f at =
    let d : ◌≡◌ {A = Option Field} (Some g) (Some f) = at in
    let same : g ≡ f = cc d in
    ap (λ (f : Field). f.name.now) (sym same)
name-field (g ∷ fields) (suc place) f at = name-field fields place f at

pub index-field : (fields : List Field) (place : ℕ) (f : Field) → slice_get fields place ≡ Some f → f.index ≡ index_at (name_rows fields) place
index-field [] place f at = let d : ◌≡◌ {A = Option Field} None (Some f) = at in cc d
index-field (g ∷ fields) zero f at =
    let d : ◌≡◌ {A = Option Field} (Some g) (Some f) = at in
    let same : g ≡ f = cc d in
    ap (λ (f : Field). f.index) (sym same)
index-field (g ∷ fields) (suc place) f at = index-field fields place f at

-- A row at a place is that of the field there.
pub row-field : (fields : List Field) (place : ℕ) (f : Field) (row : NameRow) → slice_get fields place ≡ Some f → slice_get (name_rows fields) place ≡ Some row → row ≡ name_row f
row-field fields place f row at is =
    let d : ◌≡◌ {A = Option NameRow} (Some row) (Some (name_row f)) = sym is ∙ slice_get-map name_row fields place ∙ ap (option_map name_row) at in
    cc d

-- A row at a place is that of a field of one of the tables.
pub place-within : (root additions : List Field) (place : ℕ) (row : NameRow) → slice_get (name_rows (root ++ additions)) place ≡ Some row → place < length root + length additions
place-within root additions place row is = omega (arith, slice_get_within (name_rows (root ++ additions)) place row is, count-tables root additions)

-- Numbered names are the names.
pub names-numbered : (k : ℕ) (names : List (List ℕ)) → row_names (numbered k names) ≡ names
names-numbered k [] = refl
names-numbered k (name ∷ names) = ap (λ l. name ∷ l) (names-numbered (suc k) names)

pub length-numbered : (k : ℕ) (names : List (List ℕ)) → length (numbered k names) ≡ length names
length-numbered k [] = refl
length-numbered k (name ∷ names) = ap suc (length-numbered (suc k) names)

pub index-numbered : (k place : ℕ) (names : List (List ℕ)) → place < length names → k + place ≡ index_at (numbered k names) place
index-numbered k place [] below = absurd (omega (arith, below))
index-numbered k zero (name ∷ names) below = omega arith
index-numbered k (suc place) (name ∷ names) below = let e = index-numbered (suc k) place names (omega (arith, below)) in omega (arith, e)

-- There is a row for each identifier.
pub length-identifiers : (texts : List (Bor (List ℕ))) → length (numbered 0 (map (λ t. t.now) texts)) ≡ length texts
length-identifiers texts = length-numbered 0 (map (λ t. t.now) texts) ∙ length-map texts (λ (t : Bor (List ℕ)). t.now)

-- An identifier at a place is that of its row.
pub name-identifier : (names : List (List ℕ)) (place : ℕ) (name : List ℕ) → slice_get names place ≡ Some name → name ≡ name_at (numbered 0 names) place
name-identifier names place name at = sym (get_or_from_slice_get names place name [] at) ∙ ap (λ l. get_or l place []) (sym (names-numbered 0 names))

-- The first of the names from a place on is the one there.
pub head-drop : (names : List (List ℕ)) (place : ℕ) → head_name (drop place names) ≡ get_or names place []
head-drop [] zero = refl
head-drop [] (suc place) = refl
head-drop (name ∷ names) zero = refl
head-drop (name ∷ names) (suc place) = head-drop names place
