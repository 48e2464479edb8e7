-- The names and tags of the parts of a shape, by those of the parts that a program holds.
use Rattle.std.proofs.Common.{◌≡◌, refl, ap, sym, ◌∙◌, arith, rules, Bor, ℕ, zero, suc, ◌+◌, ◌<◌, List, [], ◌∷◌, ◌++◌, map, take, get_or, length, ◌==◌, Bool, true, false, ◌&&◌, Option, Some, None, string_bytes, append-nil}
use Rattle.std.proofs.lemmas.Bool.{ne_eqb}
use Rattle.std.proofs.lemmas.List.{take_more}
use Rattle.std.specs.Global.{Vec}
use Rattle.asn_model.specs.Enclosing.{loops_step, loops_of, unguarded_step, unguarded_of, entries_of}
use Rattle.asn_model.specs.Readable.{are_key_and_value, has_no_additions, is_entry, is_sequence, all_field_names, are_identifiers, has_alternative, are_distinguishable, suits, is_readable_in, are_fields_readable, are_added_fields_readable, are_alternatives_readable, are_added_alternatives_readable}
use Rattle.asn_model.specs.declared.readable.Enclosing.{Enclosing, fold-roll-Enclosing}
use Rattle.asn_model.specs.declared.readable.Enclosing.TheVariants.{rolls-Part}
use Rattle.asn_model.specs.declared.readable.Enclosing.TheViews.{Part}
use Rattle.asn_model.specs.Shape as spec
use Rattle.asn_model.specs.Shape.{Shape, Alternatives, all_alternatives, join_alternatives, field_names, identifiers, tags, are_distinct}
use Rattle.asn_model.specs.ShapeView.{added_field_views, kind_view, shape_view, presence_view, field_views, alternative_views}
use Rattle.asn_model.specs.declared.shape_type.AlternativeShape.{AlternativeShape}
use Rattle.asn_model.specs.declared.shape_type.FieldShape.{FieldShape}
use Rattle.asn_model.specs.declared.shape_type.SeqKind.{SeqKind}
use Rattle.asn_model.specs.declared.shape_type.Shape.TheViews.{Seq, Choice}
use Rattle.asn_model.proofs.Readables.{and-left, and-right, and-both}
use Rattle.asn_model.proofs.Viewing.{added_alternative_views, sequence_viewed, choice_viewed}

field_names_viewed : (fs : List FieldShape) → field_names (field_views fs) ≡ map (λ f. string_bytes f.name) fs
field_names_viewed [] = refl
field_names_viewed (f ∷ fs) = ap (λ l. string_bytes f.name ∷ l) (field_names_viewed fs)

pub all_field_names_viewed : (fs : List FieldShape) (added : Option (Vec FieldShape)) → all_field_names (field_views fs) (added_field_views added) ≡ map (λ f. string_bytes f.name) fs ++ map (λ f. string_bytes f.name) (entries_of added)
all_field_names_viewed fs None = field_names_viewed fs ∙ sym (append-nil (map (λ f. string_bytes f.name) fs))
all_field_names_viewed fs (Some more) = rw (field_names_viewed fs, field_names_viewed more.items) refl

identifiers_of : (alts : List AlternativeShape) → identifiers (alternative_views alts) ≡ map (λ a. string_bytes a.identifier) alts
identifiers_of [] = refl
identifiers_of (a ∷ alts) = ap (λ l. string_bytes a.identifier ∷ l) (identifiers_of alts)

pub identifiers_viewed : (alts more : List AlternativeShape) → identifiers (join_alternatives (alternative_views alts) (alternative_views more)) ≡ map (λ a. string_bytes a.identifier) alts ++ map (λ a. string_bytes a.identifier) more
identifiers_viewed [] more = identifiers_of more
identifiers_viewed (a ∷ alts) more = ap (λ l. string_bytes a.identifier ∷ l) (identifiers_viewed alts more)

tags_of : (alts : List AlternativeShape) → tags (alternative_views alts) ≡ map (λ a. a.tag) alts
tags_of [] = refl
tags_of (a ∷ alts) = ap (λ l. a.tag ∷ l) (tags_of alts)

pub tags_viewed : (alts more : List AlternativeShape) → tags (join_alternatives (alternative_views alts) (alternative_views more)) ≡ map (λ a. a.tag) alts ++ map (λ a. a.tag) more
tags_viewed [] more = tags_of more
tags_viewed (a ∷ alts) more = ap (λ l. a.tag ∷ l) (tags_viewed alts more)

join_none : (alts : Alternatives) → join_alternatives alts Alternatives.no_alternatives ≡ alts
join_none Alternatives.no_alternatives = refl
join_none (Alternatives.alternative i t s alts) = ap (Alternatives.alternative i t s) (join_none alts)

pub all_alternatives_viewed : (alts : List AlternativeShape) (added : Option (Vec AlternativeShape)) → all_alternatives (alternative_views alts) (added_alternative_views added) ≡ join_alternatives (alternative_views alts) (alternative_views (entries_of added))
all_alternatives_viewed alts None = sym (join_none (alternative_views alts))
all_alternatives_viewed alts (Some more) = refl

added_fields_viewed : (loops : ℕ) (added : Option (Vec FieldShape)) → are_added_fields_readable loops (added_field_views added) ≡ are_fields_readable loops (field_views (entries_of added))
added_fields_viewed loops None = refl
added_fields_viewed loops (Some more) = refl

added_alternatives_viewed : (loops : ℕ) (added : Option (Vec AlternativeShape)) → are_added_alternatives_readable loops (added_alternative_views added) ≡ are_alternatives_readable loops (alternative_views (entries_of added))
added_alternatives_viewed loops None = refl
added_alternatives_viewed loops (Some more) = refl

-- Another number of fields than two is no key and value.
pub other_count : (fs : List FieldShape) → (length fs ≡ 2 → ⊥) → are_key_and_value (field_views fs) ≡ false
other_count [] h = refl
other_count (f ∷ []) h = refl
other_count (f ∷ g ∷ []) h = absurd (h refl)
other_count (f ∷ g ∷ e ∷ fs) h = refl

pub additions_viewed : (added : Option (Vec FieldShape)) → has_no_additions (added_field_views added) ≡ (length (entries_of added) == 0)
additions_viewed None = refl
additions_viewed (Some more) = by more.items
  where
    by : (fs : List FieldShape) → has_no_additions (spec.FieldAdditions.extended_fields (field_views fs)) ≡ (length fs == 0)
    by [] = refl
    by (f ∷ fs) = sym (ne_eqb (suc (length fs)) 0 (λ none. omega (arith, none)))

-- A SEQUENCE is an entry where its fields are a key and a value, and no field was added.
pub entry_viewed : (k : SeqKind) (fs : Vec FieldShape) (added : Option (Vec FieldShape))
    → is_entry (shape_view (Seq k fs added)) ≡ (is_sequence (kind_view k) && (are_key_and_value (field_views fs.items) && has_no_additions (added_field_views added)))
entry_viewed k fs added = ap is_entry (sequence_viewed k fs added)

-- A sequence can be read where its names are identifiers and distinct, and its fields can be read.
pub sequence_readable : (loops bare : ℕ) (k : SeqKind) (fs : Vec FieldShape) (added : Option (Vec FieldShape))
    → is_readable_in loops bare (shape_view (Seq k fs added)) ≡ ((are_identifiers (map (λ f. string_bytes f.name) fs.items ++ map (λ f. string_bytes f.name) (entries_of added))
    && are_distinct (map (λ f. string_bytes f.name) fs.items ++ map (λ f. string_bytes f.name) (entries_of added))) && (are_fields_readable loops (field_views fs.items) && are_fields_readable loops (field_views (entries_of added))))
sequence_readable loops bare k fs added =
    ap (is_readable_in loops bare) (sequence_viewed k fs added) ∙ rw (all_field_names_viewed fs.items added, added_fields_viewed loops added) refl

-- A choice can be read where it has alternatives, they are distinguishable, and they can be read.
pub choice_readable : (loops bare : ℕ) (alts : Vec AlternativeShape) (added : Option (Vec AlternativeShape))
    → is_readable_in loops bare (shape_view (Choice alts added)) ≡ ((has_alternative (join_alternatives (alternative_views alts.items) (alternative_views (entries_of added))) && are_distinguishable (join_alternatives (alternative_views alts.items) (alternative_views (entries_of added))))
    && (are_alternatives_readable loops (alternative_views alts.items) && are_alternatives_readable loops (alternative_views (entries_of added))))
choice_readable loops bare alts added =
    ap (is_readable_in loops bare) (choice_viewed alts added) ∙ rw (all_alternatives_viewed alts.items added, added_alternatives_viewed loops added) refl

pub and-false : (a b : Bool) → b ≡ false → (a && b) ≡ false
and-false true b e = e
and-false false b e = refl

pub and-false_left : (a b : Bool) → a ≡ false → (a && b) ≡ false
and-false_left true b e = let d : true ≡ false = e in cc d
and-false_left false b e = refl

-- What is asked of a field.
abbrev pub field_readable : ℕ → FieldShape → Bool
field_readable loops f = suits (presence_view f.presence) (shape_view f.shape) && is_readable_in loops 0 (shape_view f.shape)

fields-push : (loops : ℕ) (fs : List FieldShape) (f : FieldShape) → are_fields_readable loops (field_views fs) ≡ true → field_readable loops f ≡ true → are_fields_readable loops (field_views (fs ++ (f ∷ []))) ≡ true
fields-push loops [] f h k = and-both _ _ k refl
fields-push loops (g ∷ fs) f h k =
    and-both _ _ (and-left (field_readable loops g) (are_fields_readable loops (field_views fs)) h) (fields-push loops fs f (and-right (field_readable loops g) (are_fields_readable loops (field_views fs)) h) k)

-- One more field.
pub fields-more : (loops : ℕ) (fs : List FieldShape) (i : ℕ) (f : FieldShape) → i < length fs → are_fields_readable loops (field_views (take i fs)) ≡ true → field_readable loops (get_or fs i f) ≡ true
    → are_fields_readable loops (field_views (take (i + 1) fs)) ≡ true
fields-more loops fs i f l h k = ap (λ x. are_fields_readable loops (field_views x)) (take_more fs i f l) ∙ fields-push loops (take i fs) (get_or fs i f) h k

-- One field that can't be read.
pub fields-other : (loops : ℕ) (fs : List FieldShape) (i : ℕ) (f : FieldShape) → i < length fs → field_readable loops (get_or fs i f) ≡ false → are_fields_readable loops (field_views fs) ≡ false
fields-other loops [] i f l k = absurd (omega arith)
fields-other loops (g ∷ fs) zero f l k = ap (λ b. b && are_fields_readable loops (field_views fs)) k
fields-other loops (g ∷ fs) (suc i) f l k = and-false (field_readable loops g) (are_fields_readable loops (field_views fs)) (fields-other loops fs i f (omega arith) k)

alternatives-push : (loops : ℕ) (alts : List AlternativeShape) (a : AlternativeShape) → are_alternatives_readable loops (alternative_views alts) ≡ true → is_readable_in loops 0 (shape_view a.shape) ≡ true
    → are_alternatives_readable loops (alternative_views (alts ++ (a ∷ []))) ≡ true
alternatives-push loops [] a h k = and-both _ _ k refl
alternatives-push loops (b ∷ alts) a h k =
    let first = is_readable_in loops 0 (shape_view b.shape) in
    and-both _ _ (and-left first (are_alternatives_readable loops (alternative_views alts)) h) (alternatives-push loops alts a (and-right first (are_alternatives_readable loops (alternative_views alts)) h) k)

-- One more alternative.
pub alternatives-more : (loops : ℕ) (alts : List AlternativeShape) (i : ℕ) (a : AlternativeShape) → i < length alts → are_alternatives_readable loops (alternative_views (take i alts)) ≡ true
    → is_readable_in loops 0 (shape_view (get_or alts i a).shape) ≡ true → are_alternatives_readable loops (alternative_views (take (i + 1) alts)) ≡ true
alternatives-more loops alts i a l h k = ap (λ x. are_alternatives_readable loops (alternative_views x)) (take_more alts i a l) ∙ alternatives-push loops (take i alts) (get_or alts i a) h k

-- One alternative that can't be read.
pub alternatives-other : (loops : ℕ) (alts : List AlternativeShape) (i : ℕ) (a : AlternativeShape) → i < length alts → is_readable_in loops 0 (shape_view (get_or alts i a).shape) ≡ false
    → are_alternatives_readable loops (alternative_views alts) ≡ false
alternatives-other loops [] i a l k = absurd (omega arith)
alternatives-other loops (b ∷ alts) zero a l k = ap (λ x. x && are_alternatives_readable loops (alternative_views alts)) k
alternatives-other loops (b ∷ alts) (suc i) a l k = and-false (is_readable_in loops 0 (shape_view b.shape)) (are_alternatives_readable loops (alternative_views alts)) (alternatives-other loops alts i a (omega arith) k)

-- A part adds no loop, and leaves none bare.
loops_of-part : (outer : Bor Enclosing) → loops_of (Part outer) ≡ loops_of outer.now
loops_of-part outer = let layer = fold-roll-Enclosing ℕ loops_step in let rolled = rolls-Part outer in search rules

unguarded_of-part : (outer : Bor Enclosing) → unguarded_of (Part outer) ≡ 0
unguarded_of-part outer = let layer = fold-roll-Enclosing ℕ unguarded_step in let rolled = rolls-Part outer in search rules

-- Whether a shape can be read as a part of what stands within this.
pub part_readable : (outer : Bor Enclosing) (s : Shape) → is_readable_in (loops_of (Part outer)) (unguarded_of (Part outer)) s ≡ is_readable_in (loops_of outer.now) 0 s
part_readable outer s = rw (loops_of-part outer, unguarded_of-part outer) refl
