-- The parts of a node that a program holds.
use Rattle.std.proofs.Common.{◌≡◌, refl, ap, sym, ◌∙◌, subst, arith, ℕ, List, [], ◌∷◌, ◌++◌, length, map, string_bytes, Bool, false, ◌&&◌, Option, Some, None, ◌≢◌}
use Rattle.std.proofs.lemmas.Bool.{eq-eqb, ne_eqb}
use Rattle.std.proofs.lemmas.List.{map-append}
use Rattle.std.specs.Global.{Vec}
use Rattle.asn_model.specs.Enclosing.{entries_of}
use Rattle.asn_model.specs.Shape.{field_names, identifiers, tags}
use Rattle.asn_model.specs.ShapeView.{alternative_views, field_views, shape_view}
use Rattle.asn_model.specs.declared.shape_type.AlternativeShape.{AlternativeShape}
use Rattle.asn_model.specs.declared.shape_type.FieldShape.{FieldShape}
use Rattle.asn_model.specs.declared.shape_type.SeqKind.{SeqKind}
use Rattle.asn_model.specs.declared.shape_type.Shape.{Shape}
use Rattle.asn_model.specs.declared.shape_type.Shape.TheViews.{Seq, Choice}
use Rattle.asn_model.proofs.Viewing.{choice_viewed, sequence_viewed}
use Rattle.asn_growth.specs.Parts.{added_alternatives, added_fields, alternative_shapes, field_shapes, field_tags, parts, presences, root_alternatives, root_fields}
use Rattle.asn_growth.specs.Paths.{steps}
use Rattle.asn_growth.specs.Reasons.{alike, begins}

pub root_fields_viewed : (k : SeqKind) (fs : Vec FieldShape) (added : Option (Vec FieldShape)) → root_fields (shape_view (Seq k fs added)) ≡ field_views fs.items
root_fields_viewed k fs added = ap root_fields (sequence_viewed k fs added)

pub added_fields_viewed : (k : SeqKind) (fs : Vec FieldShape) (added : Option (Vec FieldShape)) → added_fields (shape_view (Seq k fs added)) ≡ field_views (entries_of added)
added_fields_viewed k fs None = ap added_fields (sequence_viewed k fs None)
added_fields_viewed k fs (Some more) = ap added_fields (sequence_viewed k fs (Some more))

pub root_alternatives_viewed : (alts : Vec AlternativeShape) (added : Option (Vec AlternativeShape)) → root_alternatives (shape_view (Choice alts added)) ≡ alternative_views alts.items
root_alternatives_viewed alts added = ap root_alternatives (choice_viewed alts added)

pub added_alternatives_viewed : (alts : Vec AlternativeShape) (added : Option (Vec AlternativeShape)) → added_alternatives (shape_view (Choice alts added)) ≡ alternative_views (entries_of added)
added_alternatives_viewed alts None = ap added_alternatives (choice_viewed alts None)
added_alternatives_viewed alts (Some more) = ap added_alternatives (choice_viewed alts (Some more))

-- There are as many names, tags, presences and shapes as fields.
pub names_counted : (fs : List FieldShape) → length (field_names (field_views fs)) ≡ length fs
names_counted [] = refl
names_counted (f ∷ fs) = omega (arith, names_counted fs)

pub field_tags_counted : (fs : List FieldShape) → length (field_tags (field_views fs)) ≡ length fs
field_tags_counted [] = refl
field_tags_counted (f ∷ fs) = omega (arith, field_tags_counted fs)

pub presences_counted : (fs : List FieldShape) → length (presences (field_views fs)) ≡ length fs
presences_counted [] = refl
presences_counted (f ∷ fs) = omega (arith, presences_counted fs)

pub field_shapes_counted : (fs : List FieldShape) → length (field_shapes (field_views fs)) ≡ length fs
field_shapes_counted [] = refl
field_shapes_counted (f ∷ fs) = omega (arith, field_shapes_counted fs)

pub identifiers_counted : (alts : List AlternativeShape) → length (identifiers (alternative_views alts)) ≡ length alts
identifiers_counted [] = refl
identifiers_counted (a ∷ alts) = omega (arith, identifiers_counted alts)

pub alternative_tags_counted : (alts : List AlternativeShape) → length (tags (alternative_views alts)) ≡ length alts
alternative_tags_counted [] = refl
alternative_tags_counted (a ∷ alts) = omega (arith, alternative_tags_counted alts)

pub alternative_shapes_counted : (alts : List AlternativeShape) → length (alternative_shapes (alternative_views alts)) ≡ length alts
alternative_shapes_counted [] = refl
alternative_shapes_counted (a ∷ alts) = omega (arith, alternative_shapes_counted alts)

-- Lists of which the second begins with the first are the same where they are as long.
pub as_long : {A : Type 0} (same : A → A → Bool) (xs ys : List A) {n m : ℕ} → length xs ≡ n → length ys ≡ m → n ≡ m → begins same xs ys ≡ alike same xs ys
as_long same xs ys a b e = sym (ap (λ t. t && begins same xs ys) (eq-eqb (length xs) (length ys) (a ∙ e ∙ sym b)))

pub not_as_long : {A : Type 0} (same : A → A → Bool) (xs ys : List A) {n m : ℕ} → length xs ≡ n → length ys ≡ m → n ≢ m → false ≡ alike same xs ys
not_as_long same xs ys a b e = sym (ap (λ t. t && begins same xs ys) (ne_eqb (length xs) (length ys) (λ k. e (sym a ∙ k ∙ b))))

-- The parts of a SEQUENCE or SET are the shapes of its fields.
seq_parts : (x : Shape) (k : SeqKind) (fs : Vec FieldShape) (added : Option (Vec FieldShape)) → x ≡ Seq k fs added → parts (shape_view x) ≡ field_shapes (root_fields (shape_view x)) ++ field_shapes (added_fields (shape_view x))
seq_parts x k fs added e = subst (λ s. parts s ≡ field_shapes (root_fields s) ++ field_shapes (added_fields s)) (sym (ap shape_view e ∙ sequence_viewed k fs added)) refl

field_shapes_mapped : (fs : List FieldShape) → field_shapes (field_views fs) ≡ map (λ (f : FieldShape). shape_view f.shape) fs
field_shapes_mapped [] = refl
field_shapes_mapped (f ∷ fs) = ap (λ l. shape_view f.shape ∷ l) (field_shapes_mapped fs)

pub seq_parts_viewed : (x : Shape) (k : SeqKind) (fs : Vec FieldShape) (added : Option (Vec FieldShape)) (root more : List FieldShape) → x ≡ Seq k fs added → field_views root ≡ root_fields (shape_view x) → field_views more ≡ added_fields (shape_view x)
    → parts (shape_view x) ≡ map (λ (f : FieldShape). shape_view f.shape) (root ++ more)
seq_parts_viewed x k fs added root more e a b =
    seq_parts x k fs added e ∙ rw (sym a, sym b, field_shapes_mapped root, field_shapes_mapped more) (sym (map-append (λ (f : FieldShape). shape_view f.shape) root more))

-- The step to each is its name.
seq_steps : (x : Shape) (k : SeqKind) (fs : Vec FieldShape) (added : Option (Vec FieldShape)) → x ≡ Seq k fs added → steps (shape_view x) ≡ map (λ (n : List ℕ). n ∷ []) (field_names (root_fields (shape_view x)) ++ field_names (added_fields (shape_view x)))
seq_steps x k fs added e = subst (λ s. steps s ≡ map (λ (n : List ℕ). n ∷ []) (field_names (root_fields s) ++ field_names (added_fields s))) (sym (ap shape_view e ∙ sequence_viewed k fs added)) refl

name_steps : (root more : List FieldShape) → map (λ (n : List ℕ). n ∷ []) (field_names (field_views root) ++ field_names (field_views more)) ≡ map (λ (f : FieldShape). string_bytes f.name ∷ []) (root ++ more)
name_steps [] [] = refl
name_steps [] (f ∷ fs) = ap (λ l. (string_bytes f.name ∷ []) ∷ l) (name_steps [] fs)
name_steps (f ∷ fs) more = ap (λ l. (string_bytes f.name ∷ []) ∷ l) (name_steps fs more)

pub seq_steps_viewed : (x : Shape) (k : SeqKind) (fs : Vec FieldShape) (added : Option (Vec FieldShape)) (root more : List FieldShape) → x ≡ Seq k fs added → field_views root ≡ root_fields (shape_view x) → field_views more ≡ added_fields (shape_view x)
    → steps (shape_view x) ≡ map (λ (f : FieldShape). string_bytes f.name ∷ []) (root ++ more)
seq_steps_viewed x k fs added root more e a b = seq_steps x k fs added e ∙ rw (sym a, sym b) (name_steps root more)

-- The parts of a CHOICE are the shapes of its alternatives.
choice_parts : (x : Shape) (alts : Vec AlternativeShape) (added : Option (Vec AlternativeShape)) → x ≡ Choice alts added → parts (shape_view x) ≡ alternative_shapes (root_alternatives (shape_view x)) ++ alternative_shapes (added_alternatives (shape_view x))
choice_parts x alts added e = subst (λ s. parts s ≡ alternative_shapes (root_alternatives s) ++ alternative_shapes (added_alternatives s)) (sym (ap shape_view e ∙ choice_viewed alts added)) refl

alternative_shapes_mapped : (alts : List AlternativeShape) → alternative_shapes (alternative_views alts) ≡ map (λ (a : AlternativeShape). shape_view a.shape) alts
alternative_shapes_mapped [] = refl
alternative_shapes_mapped (a ∷ alts) = ap (λ l. shape_view a.shape ∷ l) (alternative_shapes_mapped alts)

pub choice_parts_viewed : (x : Shape) (alts : Vec AlternativeShape) (added : Option (Vec AlternativeShape)) (root more : List AlternativeShape) → x ≡ Choice alts added → alternative_views root ≡ root_alternatives (shape_view x)
    → alternative_views more ≡ added_alternatives (shape_view x) → parts (shape_view x) ≡ map (λ (a : AlternativeShape). shape_view a.shape) (root ++ more)
choice_parts_viewed x alts added root more e a b =
    choice_parts x alts added e ∙ rw (sym a, sym b, alternative_shapes_mapped root, alternative_shapes_mapped more) (sym (map-append (λ (f : AlternativeShape). shape_view f.shape) root more))

-- The step to each is its identifier.
choice_steps : (x : Shape) (alts : Vec AlternativeShape) (added : Option (Vec AlternativeShape)) → x ≡ Choice alts added → steps (shape_view x) ≡ map (λ (n : List ℕ). n ∷ []) (identifiers (root_alternatives (shape_view x)) ++ identifiers (added_alternatives (shape_view x)))
choice_steps x alts added e = subst (λ s. steps s ≡ map (λ (n : List ℕ). n ∷ []) (identifiers (root_alternatives s) ++ identifiers (added_alternatives s))) (sym (ap shape_view e ∙ choice_viewed alts added)) refl

identifier_steps : (root more : List AlternativeShape) → map (λ (n : List ℕ). n ∷ []) (identifiers (alternative_views root) ++ identifiers (alternative_views more)) ≡ map (λ (a : AlternativeShape). string_bytes a.identifier ∷ []) (root ++ more)
identifier_steps [] [] = refl
identifier_steps [] (a ∷ alts) = ap (λ l. (string_bytes a.identifier ∷ []) ∷ l) (identifier_steps [] alts)
identifier_steps (a ∷ alts) more = ap (λ l. (string_bytes a.identifier ∷ []) ∷ l) (identifier_steps alts more)

pub choice_steps_viewed : (x : Shape) (alts : Vec AlternativeShape) (added : Option (Vec AlternativeShape)) (root more : List AlternativeShape) → x ≡ Choice alts added → alternative_views root ≡ root_alternatives (shape_view x)
    → alternative_views more ≡ added_alternatives (shape_view x) → steps (shape_view x) ≡ map (λ (a : AlternativeShape). string_bytes a.identifier ∷ []) (root ++ more)
choice_steps_viewed x alts added root more e a b = choice_steps x alts added e ∙ rw (sym a, sym b) (identifier_steps root more)
