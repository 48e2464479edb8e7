-- What is seen of a shape that a program holds.
use Rattle.std.proofs.Common.{◌≡◌, refl, sym, ap, ◌∙◌, rules, arith, ℕ, zero, suc, ◌+◌, ◌-◌, ◌<◌, ◌≤◌, List, [], ◌∷◌, ◌++◌, length, map, get_or, Option, Some, None, string_bytes}
use Rattle.std.specs.Prelude.{option_map, String}
use Rattle.std.specs.Global.{Global, Vec}
use Rattle.std.proofs.lemmas.List.{length-append, length-map}
use Rattle.asn_coding.specs.SetFields.{additions_of, component_at}
use Rattle.asn_model.specs.Components.{Component, Standing, components}
use Rattle.asn_model.specs.Enclosing.{entries_of}
use Rattle.asn_model.specs.Shape as spec
use Rattle.asn_model.specs.ShapeView.{added_field_views, alternative_views, field_views, presence_view, shape_view}
use Rattle.asn_model.specs.declared.shape_type.AlternativeShape.{AlternativeShape}
use Rattle.asn_model.specs.declared.shape_type.FieldShape.{FieldShape}
use Rattle.asn_model.specs.declared.shape_type.SeqKind.{SeqKind}
use Rattle.asn_model.specs.declared.shape_type.Shape.{Enum, the_lemmas}
use Rattle.asn_model.specs.declared.shape_type.Shape.TheViews.{Seq, Choice}
use Rattle.asn_model.proofs.Viewing.{added_alternative_views, choice_viewed, sequence_viewed}
use Rattle.asn_parts.specs.Listed.{alternatives_in, fields_in, items_in, root_count_in}

pub view-Enum : (items : Vec (String Global)) (added : Option (Vec (String Global))) → shape_view (Enum items added) ≡ spec.Shape.enum (map string_bytes items.items) (option_map (λ (v : Vec (String Global)). map string_bytes v.items) added)
view-Enum items added = search (rules, the_lemmas)

pub items-counted : (items : Vec (String Global)) (added : Option (Vec (String Global))) → length (items_in (shape_view (Enum items added))) ≡ length items.items + length (entries_of added)
items-counted items None =
    let own : length (map string_bytes items.items) ≡ length items.items + 0 = omega (arith, length-map items.items string_bytes) in
    ap (λ s. length (items_in s)) (view-Enum items None) ∙ own
items-counted items (Some more) =
    ap (λ s. length (items_in s)) (view-Enum items (Some more)) ∙ length-append (map string_bytes items.items) (map string_bytes more.items)
    ∙ (λ i. length-map items.items string_bytes i + length-map more.items string_bytes i)

-- The component that a field is.
abbrev pub viewed : Standing → FieldShape → Component
viewed at f = record { name = string_bytes f.name; tag = f.tag; presence = presence_view f.presence; shape = shape_view f.shape; standing = at }

components-viewed : (at : Standing) (fs : List FieldShape) → components at (field_views fs) ≡ map (viewed at) fs
components-viewed at [] = refl
components-viewed at (f ∷ fs) = ap (λ cs. viewed at f ∷ cs) (components-viewed at fs)

additions-viewed : (added : Option (Vec FieldShape)) → additions_of (added_field_views added) ≡ map (viewed Standing.addition) (entries_of added)
additions-viewed None = refl
additions-viewed (Some more) = components-viewed Standing.addition more.items

pub fields-viewed : (k : SeqKind) (fs : Vec FieldShape) (added : Option (Vec FieldShape)) → fields_in (shape_view (Seq k fs added)) ≡ map (viewed Standing.root) fs.items ++ map (viewed Standing.addition) (entries_of added)
fields-viewed k fs added =
    let a = components-viewed Standing.root fs.items in
    let b = additions-viewed added in
    ap fields_in (sequence_viewed k fs added) ∙ (λ i. a i ++ b i)

pub fields-counted : (k : SeqKind) (fs : Vec FieldShape) (added : Option (Vec FieldShape)) → length (fields_in (shape_view (Seq k fs added))) ≡ length fs.items + length (entries_of added)
fields-counted k fs added =
    ap length (fields-viewed k fs added) ∙ length-append (map (viewed Standing.root) fs.items) (map (viewed Standing.addition) (entries_of added))
    ∙ (λ i. length-map fs.items (viewed Standing.root) i + length-map (entries_of added) (viewed Standing.addition) i)

names-counted : (fs : List FieldShape) → length (spec.field_names (field_views fs)) ≡ length fs
names-counted [] = refl
names-counted (f ∷ fs) = ap suc (names-counted fs)

pub root-counted : (k : SeqKind) (fs : Vec FieldShape) (added : Option (Vec FieldShape)) → root_count_in (shape_view (Seq k fs added)) ≡ length fs.items
root-counted k fs added = ap root_count_in (sequence_viewed k fs added) ∙ names-counted fs.items

at-first : (f : FieldShape → Component) (fs : List FieldShape) (more : List Component) (i : ℕ) (d : FieldShape) → i < length fs → component_at (map f fs ++ more) i ≡ Some (f (get_or fs i d))
at-first f [] more i d h = absurd (omega (arith, h))
at-first f (x ∷ xs) more zero d h = refl
at-first f (x ∷ xs) more (suc i) d h = at-first f xs more i d (omega (arith, h))

at-only : (f : FieldShape → Component) (fs : List FieldShape) (i : ℕ) (d : FieldShape) → i < length fs → component_at (map f fs) i ≡ Some (f (get_or fs i d))
at-only f [] i d h = absurd (omega (arith, h))
at-only f (x ∷ xs) zero d h = refl
at-only f (x ∷ xs) (suc i) d h = at-only f xs i d (omega (arith, h))

at-second : (cs : List Component) (f : FieldShape → Component) (fs : List FieldShape) (i j : ℕ) (d : FieldShape) → i ≡ length cs + j → j < length fs → component_at (cs ++ map f fs) i ≡ Some (f (get_or fs j d))
at-second [] f fs i j d e h = let same : i ≡ j = omega (arith, e) in ap (component_at (map f fs)) same ∙ at-only f fs j d h
at-second (c ∷ cs) f fs zero j d e h = absurd (omega (arith, e))
at-second (c ∷ cs) f fs (suc i) j d e h = at-second cs f fs i j d (omega (arith, e)) h

-- A field of the root.
pub root-field : (k : SeqKind) (fs : Vec FieldShape) (added : Option (Vec FieldShape)) (i : ℕ) (f : FieldShape) → i < length fs.items → f ≡ get_or fs.items i f → component_at (fields_in (shape_view (Seq k fs added))) i ≡ Some (viewed Standing.root f)
root-field k fs added i f h at =
    ap (λ cs. component_at cs i) (fields-viewed k fs added) ∙ at-first (viewed Standing.root) fs.items (map (viewed Standing.addition) (entries_of added)) i f h
    ∙ ap (λ (x : FieldShape). Some (viewed Standing.root x)) (sym at)

-- An extension addition.
pub added-field : (k : SeqKind) (fs : Vec FieldShape) (added : Option (Vec FieldShape)) (i : ℕ) (f : FieldShape) → length fs.items ≤ i → i < length (fields_in (shape_view (Seq k fs added))) → f ≡ get_or (entries_of added) (i - length fs.items) f
    → component_at (fields_in (shape_view (Seq k fs added))) i ≡ Some (viewed Standing.addition f)
added-field k fs added i f h below at =
    let count = fields-counted k fs added in
    let long = length-map fs.items (viewed Standing.root) in
    ap (λ cs. component_at cs i) (fields-viewed k fs added)
    ∙ at-second (map (viewed Standing.root) fs.items) (viewed Standing.addition) (entries_of added) i (i - length fs.items) f (omega (arith, h, long)) (omega (arith, h, below, count))
    ∙ ap (λ (x : FieldShape). Some (viewed Standing.addition x)) (sym at)

-- The identifier and the shape of an alternative.
abbrev pub named : AlternativeShape → List ℕ × spec.Shape
named a = (string_bytes a.identifier, shape_view a.shape)

abbrev both : List AlternativeShape → List AlternativeShape → spec.Alternatives
both alts more = spec.join_alternatives (alternative_views alts) (alternative_views more)

join-none : (alts : spec.Alternatives) → spec.join_alternatives alts spec.Alternatives.no_alternatives ≡ alts
join-none spec.Alternatives.no_alternatives = refl
join-none (spec.Alternatives.alternative i t s alts) = ap (spec.Alternatives.alternative i t s) (join-none alts)

all-viewed : (alts : List AlternativeShape) (added : Option (Vec AlternativeShape)) → spec.all_alternatives (alternative_views alts) (added_alternative_views added) ≡ both alts (entries_of added)
all-viewed alts None = sym (join-none (alternative_views alts))
all-viewed alts (Some more) = refl

pub alternatives-viewed : (alts : Vec AlternativeShape) (added : Option (Vec AlternativeShape)) → alternatives_in (shape_view (Choice alts added)) ≡ spec.join_alternatives (alternative_views alts.items) (alternative_views (entries_of added))
alternatives-viewed alts added = ap alternatives_in (choice_viewed alts added) ∙ all-viewed alts.items added

identifiers-counted : (alts more : List AlternativeShape) → length (spec.identifiers (both alts more)) ≡ length alts + length more
identifiers-counted [] [] = refl
identifiers-counted [] (a ∷ more) = omega (arith, identifiers-counted [] more)
identifiers-counted (a ∷ alts) more = omega (arith, identifiers-counted alts more)

pub alternatives-counted : (alts : Vec AlternativeShape) (added : Option (Vec AlternativeShape)) → length (spec.identifiers (alternatives_in (shape_view (Choice alts added)))) ≡ length alts.items + length (entries_of added)
alternatives-counted alts added = ap (λ a. length (spec.identifiers a)) (alternatives-viewed alts added) ∙ identifiers-counted alts.items (entries_of added)

first-at : (alts more : List AlternativeShape) (k : ℕ) (d : AlternativeShape) → k < length alts → spec.alternative_at (both alts more) k ≡ Some (named (get_or alts k d))
first-at [] more k d h = absurd (omega (arith, h))
first-at (a ∷ alts) more zero d h = refl
first-at (a ∷ alts) more (suc k) d h = first-at alts more k d (omega (arith, h))

second-at : (alts more : List AlternativeShape) (k j : ℕ) (d : AlternativeShape) → k ≡ length alts + j → j < length more → spec.alternative_at (both alts more) k ≡ Some (named (get_or more j d))
second-at [] [] k j d e h = absurd (omega (arith, h))
second-at [] (a ∷ more) zero zero d e h = refl
second-at [] (a ∷ more) zero (suc j) d e h = absurd (omega (arith, e))
second-at [] (a ∷ more) (suc k) zero d e h = absurd (omega (arith, e))
second-at [] (a ∷ more) (suc k) (suc j) d e h = second-at [] more k j d (omega (arith, e)) (omega (arith, h))
second-at (a ∷ alts) more zero j d e h = absurd (omega (arith, e))
second-at (a ∷ alts) more (suc k) j d e h = second-at alts more k j d (omega (arith, e)) h

none-at : (alts more : List AlternativeShape) (k : ℕ) → length alts + length more ≤ k → spec.alternative_at (both alts more) k ≡ None
none-at [] [] k h = refl
none-at [] (a ∷ more) zero h = absurd (omega (arith, h))
none-at [] (a ∷ more) (suc k) h = none-at [] more k (omega (arith, h))
none-at (a ∷ alts) more zero h = absurd (omega (arith, h))
none-at (a ∷ alts) more (suc k) h = none-at alts more k (omega (arith, h))

pub root-alternative : (alts : Vec AlternativeShape) (added : Option (Vec AlternativeShape)) (k : ℕ) (a : AlternativeShape) → k < length alts.items → a ≡ get_or alts.items k a → spec.alternative_at (alternatives_in (shape_view (Choice alts added))) k ≡ Some (named a)
root-alternative alts added k a h at =
    ap (λ l. spec.alternative_at l k) (alternatives-viewed alts added) ∙ first-at alts.items (entries_of added) k a h ∙ ap (λ (x : AlternativeShape). Some (named x)) (sym at)

pub added-alternative : (alts : Vec AlternativeShape) (added : Option (Vec AlternativeShape)) (k : ℕ) (a : AlternativeShape) → length alts.items ≤ k → k - length alts.items < length (entries_of added) → a ≡ get_or (entries_of added) (k - length alts.items) a
    → spec.alternative_at (alternatives_in (shape_view (Choice alts added))) k ≡ Some (named a)
added-alternative alts added k a h below at =
    ap (λ l. spec.alternative_at l k) (alternatives-viewed alts added) ∙ second-at alts.items (entries_of added) k (k - length alts.items) a (omega (arith, h)) below ∙ ap (λ (x : AlternativeShape). Some (named x)) (sym at)

pub no-alternative : (alts : Vec AlternativeShape) (added : Option (Vec AlternativeShape)) (k : ℕ) → length alts.items ≤ k → length (entries_of added) ≤ k - length alts.items → spec.alternative_at (alternatives_in (shape_view (Choice alts added))) k ≡ None
no-alternative alts added k h past = ap (λ l. spec.alternative_at l k) (alternatives-viewed alts added) ∙ none-at alts.items (entries_of added) k (omega (arith, h, past))
