-- Numbers that are gathered.
use Rattle.std.proofs.Common.{◌≡◌, ◌<◌, refl, ap, sym, ◌∙◌, arith, ℕ, suc, ◌+◌, ◌-◌, List, [], ◌∷◌, ◌++◌, drop, get_or, length, nat_eq, nat_lt, if◌then◌else◌}
use Rattle.indexmap.specs.IndexSet.{insert_key}
use Rattle.asn_model.specs.ShapeView.{alternative_views, field_views, shape_view}
use Rattle.asn_model.specs.declared.shape_type.AlternativeShape.{AlternativeShape}
use Rattle.asn_model.specs.declared.shape_type.FieldShape.{FieldShape}
use Rattle.asn_model.specs.Shape.{Shape, SeqKind, Fields, FieldAdditions, Alternatives, AlternativeAdditions}
use Rattle.asn_type_printing.specs.Reached.{added_alternative_names, added_field_names, alternative_names, field_names_of, names_in, numbers_at, reached_from, with_numbers}
use Rattle.asn_type_printing.proofs.Written.{drop-next}

-- Numbers of two lists.
pub gathered-append : (count : ℕ) (found ns more : List ℕ) → with_numbers count found (ns ++ more) ≡ with_numbers count (with_numbers count found ns) more
gathered-append count found [] more = refl
gathered-append count found (n ∷ ns) more = gathered-append count (if nat_lt n count then insert_key nat_eq found n else found) ns more

-- Some numbers are gathered, and then the others.
pub gathered-both : (count : ℕ) (old first last all ns more : List ℕ) → all ≡ ns ++ more → first ≡ with_numbers count old ns → last ≡ with_numbers count first more → last ≡ with_numbers count old all
gathered-both count old first last all ns more e f l = l ∙ ap (λ x. with_numbers count x more) f ∙ sym (gathered-append count old ns more) ∙ sym (ap (with_numbers count old) e)

-- The numbers that a SEQUENCE or SET names.
pub seq-gathered : (count : ℕ) (old first last : List ℕ) (s : Shape) (kind : SeqKind) (fs : Fields) (added : FieldAdditions) → s ≡ Shape.seq kind fs added → first ≡ with_numbers count old (field_names_of fs) → last ≡ with_numbers count first (added_field_names added)
    → last ≡ with_numbers count old (names_in s)
seq-gathered count old first last s kind fs added e f l = gathered-both count old first last (names_in s) (field_names_of fs) (added_field_names added) (ap names_in e) f l

-- Those that a CHOICE names.
pub choice-gathered : (count : ℕ) (old first last : List ℕ) (s : Shape) (alts : Alternatives) (added : AlternativeAdditions) → s ≡ Shape.choice alts added → first ≡ with_numbers count old (alternative_names alts) → last ≡ with_numbers count first (added_alternative_names added)
    → last ≡ with_numbers count old (names_in s)
choice-gathered count old first last s alts added e f l = gathered-both count old first last (names_in s) (alternative_names alts) (added_alternative_names added) (ap names_in e) f l

-- One more type is gone into.
pub reached-next : (types : List Shape) (count place : ℕ) (found next whole : List ℕ) → place < count → length types ≡ count → next ≡ with_numbers count found (numbers_at types found place) → reached_from types (count - place) found place ≡ whole
    → reached_from types (count - (place + 1)) next (place + 1) ≡ whole
reached-next types count place found next whole h l n was =
    let left : count - place ≡ suc (count - (place + 1)) = omega arith in
    let later : place + 1 ≡ suc place = omega arith in
    ap (λ p. reached_from types (count - (place + 1)) next p) later ∙ ap (λ x. reached_from types (count - (place + 1)) x (suc place)) (n ∙ ap (λ k. with_numbers k found (numbers_at types found place)) (sym l))
    ∙ sym (ap (λ k. reached_from types k found place) left) ∙ was

-- Those of one more field.
pub field-gathered : (count : ℕ) (old new : List ℕ) (fs : List FieldShape) (i : ℕ) (f : FieldShape) (whole : List ℕ) → i < length fs → f ≡ get_or fs i f → new ≡ with_numbers count old (names_in (shape_view f.shape))
    → with_numbers count old (field_names_of (field_views (drop i fs))) ≡ whole → with_numbers count new (field_names_of (field_views (drop (i + 1) fs))) ≡ whole
field-gathered count old new fs i f whole h e n was =
    let rest = field_names_of (field_views (drop (i + 1) fs)) in
    ap (λ x. with_numbers count x rest) n ∙ sym (gathered-append count old (names_in (shape_view f.shape)) rest) ∙ sym (ap (λ l. with_numbers count old (field_names_of (field_views l))) (drop-next fs i f h e)) ∙ was

-- Those of one more alternative.
pub alternative-gathered : (count : ℕ) (old new : List ℕ) (alts : List AlternativeShape) (i : ℕ) (a : AlternativeShape) (whole : List ℕ) → i < length alts → a ≡ get_or alts i a → new ≡ with_numbers count old (names_in (shape_view a.shape))
    → with_numbers count old (alternative_names (alternative_views (drop i alts))) ≡ whole → with_numbers count new (alternative_names (alternative_views (drop (i + 1) alts))) ≡ whole
alternative-gathered count old new alts i a whole h e n was =
    let rest = alternative_names (alternative_views (drop (i + 1) alts)) in
    ap (λ x. with_numbers count x rest) n ∙ sym (gathered-append count old (names_in (shape_view a.shape)) rest) ∙ sym (ap (λ l. with_numbers count old (alternative_names (alternative_views l))) (drop-next alts i a h e)) ∙ was
