-- A name that is repeated among those of an open SEQUENCE or SET.
use Rattle.std.proofs.Common.{◌≡◌, refl, sym, ap, ◌∙◌, subst, arith, ℕ, zero, suc, ◌+◌, ◌<◌, ◌-◌, List, [], ◌∷◌, length, Option, Some, None, inl, inr}
use Rattle.std.proofs.lemmas.Bool.{cases_lt}
use Rattle.std.proofs.lemmas.List.{length-append, length-map}
use Rattle.std.proofs.lemmas.List.Elements.{All-contains_itself, All-from_recursion, recursion_from_All}
use Rattle.std.specs.List.{AllByRecursion, Contains, slice_get}
use Rattle.std.specs.Ordering.{on}
use Rattle.asn_core.specs.declared.codec.Codec.{Codec}
use Rattle.asn_coding.specs.Answer.{Refuses}
use Rattle.asn_coding.specs.SetFields.{additions_of, component_at, listed_components, placed}
use Rattle.asn_coding.proofs.ReadingOrder.{names-read}
use Rattle.asn_coding.proofs.Refusing.{at_no_field}
use Rattle.asn_coding.proofs.Sorted.{each-first, each-mapped, each-of_map, each-second, each-sorted, each-turn}
use Rattle.asn_coding.proofs.TagOrder.{with-additions}
use Rattle.asn_fault.specs.Failure.{Cause, Failure, at_root}
use Rattle.asn_model.specs.Components.{Component, Standing, component_names, components, tag_cmp}
use Rattle.asn_model.specs.FailsWith.{FailsWith}
use Rattle.asn_model.specs.Notation.{Notation, notation_of}
use Rattle.asn_model.specs.Shape.{Shape, SeqKind, Fields, FieldAdditions, all_fields, field_names}
use Rattle.asn_model.specs.Tree.{Slot, head_slot}
use Rattle.asn_names.specs.Rows.{NameRow}
use Rattle.asn_parts.specs.Listed.{Place, place_rows, places_in}
use Rattle.asn_coding.specs.Opening.{RepeatsName}
use Rattle.asn_coding.specs.Tables.{ListsFields}
use Rattle.asn_parts.proofs.Fields.{places-stand}
use Rattle.asn_coding.proofs.Repeated.{first_row}

same-some : {A : Type 0} {x y : A} → ◌≡◌ {A = Option A} (Some x) (Some y) → x ≡ y
same-some e = cc e

name-stands : (cs : List Component) (k : ℕ) (c : Component) → component_at cs k ≡ Some c → slice_get (component_names cs) k ≡ Some c.name
name-stands [] k c e = let d : ◌≡◌ {A = Option Component} None (Some c) = e in cc d
name-stands (d ∷ cs) zero c e = ap (λ (x : Component). Some x.name) (same-some e)
name-stands (d ∷ cs) (suc k) c e = name-stands cs k c e

names-listed : (fs : Fields) (added : FieldAdditions) → component_names (listed_components fs added) ≡ field_names (all_fields fs added)
names-listed fs added = ap component_names (sym (with-additions (components Standing.root fs) added)) ∙ names-read fs added

abbrev row_of : Place → NameRow
row_of p = record { index = p.0; name = p.1.name }

abbrev HasPlace : List NameRow → ℕ → Type 0
HasPlace rows k = (r : NameRow) × Contains rows r × (r.index ≡ k)

-- What holds of each place from j on holds of this one.
place-in : (P : ℕ → Type 0) (cs : List Component) (j i : ℕ) → AllByRecursion (λ (p : Place). P p.0) (placed j cs) → i < length cs → P (j + i)
place-in P [] j i all lt = absurd (omega (arith, lt))
place-in P (c ∷ cs) j zero (p, all) lt = subst P (omega arith) p
place-in P (c ∷ cs) j (suc i) (p, all) lt = let e : suc j + i ≡ j + suc i = omega arith in subst P e (place-in P cs (suc j) i all (omega (arith, lt)))

names-length : (at : Standing) (fs : Fields) → length (field_names fs) ≡ length (components at fs)
names-length at Fields.no_fields = refl
names-length at (Fields.field n t p s fs) = ap suc (names-length at fs)

-- What holds of each place as it is read holds of each as the type lists it.
each-place : (P : ℕ → Type 0) (kind : SeqKind) (fs : Fields) (added : FieldAdditions) → AllByRecursion (λ (p : Place). P p.0) (places_in (Shape.seq kind fs added)) → (k : ℕ) → k < length (listed_components fs added) → P k
each-place P SeqKind.sequence fs added all k lt = let e : 0 + k ≡ k = omega arith in subst P e (place-in P (listed_components fs added) 0 k all lt)
each-place P SeqKind.set fs added all k lt =
    let root = components Standing.root fs in
    let adds = additions_of added in
    let by = on (λ (p : Place). p.1.tag) tag_cmp in
    let Q : Place → Type 0 = λ p. P p.0 in
    let firsts = names-length Standing.root fs in
    let count = length-append root adds in
    elim (cases_lt k (length root)) [
      | inl a ↦ let e : 0 + k ≡ k = omega arith in subst P e (place-in P root 0 k (each-sorted by Q (placed 0 root) (each-first Q _ (placed (length (field_names fs)) adds) all)) a)
      | inr b ↦ (
          let e : length (field_names fs) + (k - length root) ≡ k = omega (arith, firsts, b) in
          subst P e (place-in P adds (length (field_names fs)) (k - length root) (each-second Q _ (placed (length (field_names fs)) adds) all) (omega (arith, lt, count, b)))
          )
    ]

-- The places of a shape list its fields.
pub places-list : (kind : SeqKind) (fs : Fields) (added : FieldAdditions) → ListsFields (place_rows (places_in (Shape.seq kind fs added))) fs added
places-list kind fs added =
    let ps = places_in (Shape.seq kind fs added) in
    let names = field_names (all_fields fs added) in
    let N : NameRow → Type 0 = λ r. slice_get names r.index ≡ Some r.name in
    let rows = place_rows ps in
    record {
      named = All-from_recursion N rows (each-mapped N row_of ps (each-turn (λ p e. subst (λ ns. slice_get ns p.0 ≡ Some p.1.name) (names-listed fs added) (name-stands (listed_components fs added) p.0 p.1 e)) ps (places-stand kind fs added)));
      complete = λ k lt.
          each-place (HasPlace rows) kind fs added
          (each-turn (λ p there. (row_of p, there, refl)) ps (each-of_map (Contains rows) row_of ps (recursion_from_All _ rows (All-contains_itself rows)))) k
          (let count = ap length (names-listed fs added) in let long = length-map (listed_components fs added) (λ (c : Component). c.name) in omega (arith, lt, count, long));
    }

-- The name at the place is repeated, and the slot is refused for it.
pub repeated-refused : {n : Notation} (kind : SeqKind) (fs : Fields) (added : FieldAdditions) (before : List Slot) (place : ℕ) (name : List ℕ) (c : Codec) (e : Failure) → (r : RepeatsName n (place_rows (places_in (Shape.seq kind fs added))) before place) → r.row.name ≡ name
    → e ≡ at_root (Cause.duplicate_field name) c → notation_of c ≡ n → Refuses n (FailsWith n (Shape.seq kind fs added) (head_slot before)) e
repeated-refused {n} kind fs added before place name c e r same says of =
    at_no_field {P = FailsWith n (Shape.seq kind fs added) (head_slot before)} (Cause.duplicate_field name) c e says of
    (rw r.pending (FailsWith.fails_repeated kind fs added r.tree r.look name r.members (first_row (places-list kind fs added) r.first ∙ ap Some same)))
