-- A walk over a shape, part by part: nodes, differences and paths.
use Rattle.std.proofs.Common.{◌≡◌, refl, ap, sym, ◌∙◌, arith, ℕ, ◌+◌, ◌≤◌, List, [], ◌∷◌, ◌++◌, length, map, false, Option, Some, None, append-nil, append_assoc, length-append}
use Rattle.asn_model.specs.Shape.{Shape, Fields, FieldAdditions, Alternatives, AlternativeAdditions, field_names, identifiers}
use Rattle.asn_growth.specs.Differences.{added_alternative_differences, added_field_differences, alternative_differences, differences_of, field_differences, here_or}
use Rattle.asn_growth.specs.Grows.{has_parts}
use Rattle.asn_growth.specs.Parts.{added_alternatives, added_fields, alternative_nodes, alternative_shapes, content, field_nodes, field_shapes, node_count, parts, root_alternatives, root_fields}
use Rattle.asn_growth.specs.Paths.{alternative_paths, field_paths, into_each, paths, steps, under}
use Rattle.asn_growth.specs.Reasons.{reason_of}
use Rattle.asn_growth.specs.declared.reasons.Reason.{Reason}
use Rattle.asn_growth.proofs.Matching.{FrontAlternatives, FrontFields, Matches, matches}

-- The nodes of shapes.
abbrev pub list_nodes : List Shape → ℕ
list_nodes [] = 0
list_nodes (s ∷ ss) = node_count s + list_nodes ss

pub list_nodes-append : (ss ts : List Shape) → list_nodes (ss ++ ts) ≡ list_nodes ss + list_nodes ts
list_nodes-append [] ts = omega arith
list_nodes-append (s ∷ ss) ts = omega (arith, list_nodes-append ss ts)

fields-nodes : (fs : Fields) → field_nodes fs ≡ list_nodes (field_shapes fs)
fields-nodes Fields.no_fields = refl
fields-nodes (Fields.field n t p s fs) = ap (λ k. node_count s + k) (fields-nodes fs)

alternatives-nodes : (alts : Alternatives) → alternative_nodes alts ≡ list_nodes (alternative_shapes alts)
alternatives-nodes Alternatives.no_alternatives = refl
alternatives-nodes (Alternatives.alternative i t s alts) = ap (λ k. node_count s + k) (alternatives-nodes alts)

-- A node and those of its parts.
pub nodes-parts : (s : Shape) → node_count s ≡ 1 + list_nodes (parts s)
nodes-parts (Shape.seq kind fs FieldAdditions.closed_fields) = omega (arith, fields-nodes fs, list_nodes-append (field_shapes fs) [])
nodes-parts (Shape.seq kind fs (FieldAdditions.extended_fields added)) = omega (arith, fields-nodes fs, fields-nodes added, list_nodes-append (field_shapes fs) (field_shapes added))
nodes-parts (Shape.list_of s) = omega arith
nodes-parts (Shape.set_of s) = omega arith
nodes-parts (Shape.table s) = omega arith
nodes-parts (Shape.choice alts AlternativeAdditions.closed_alternatives) = omega (arith, alternatives-nodes alts, list_nodes-append (alternative_shapes alts) [])
nodes-parts (Shape.choice alts (AlternativeAdditions.extended_alternatives added)) = omega (arith, alternatives-nodes alts, alternatives-nodes added, list_nodes-append (alternative_shapes alts) (alternative_shapes added))
nodes-parts (Shape.loop s) = omega arith
nodes-parts s = refl

-- The differences of shapes, one by one.
abbrev pub list_differences : List Shape → List Shape → ℕ → List (ℕ × Reason)
list_differences (s ∷ ss) (t ∷ ts) place = differences_of s t place ++ list_differences ss ts (place + node_count s)
list_differences ss ts place = []

fields-differences : (fs gs : Fields) (place : ℕ) → field_differences fs gs place ≡ list_differences (field_shapes fs) (field_shapes gs) place
fields-differences Fields.no_fields gs place = refl
fields-differences (Fields.field n t p s fs) Fields.no_fields place = refl
fields-differences (Fields.field n t p s fs) (Fields.field m u q r gs) place = ap (λ l. differences_of s r place ++ l) (fields-differences fs gs (place + node_count s))

alternatives-differences : (alts bs : Alternatives) (place : ℕ) → alternative_differences alts bs place ≡ list_differences (alternative_shapes alts) (alternative_shapes bs) place
alternatives-differences Alternatives.no_alternatives bs place = refl
alternatives-differences (Alternatives.alternative i t s alts) Alternatives.no_alternatives place = refl
alternatives-differences (Alternatives.alternative i t s alts) (Alternatives.alternative j u r bs) place = ap (λ l. differences_of s r place ++ l) (alternatives-differences alts bs (place + node_count s))

list_differences-append : (ss ts us vs : List Shape) (place : ℕ) → length ss ≡ length ts → list_differences (ss ++ us) (ts ++ vs) place ≡ list_differences ss ts place ++ list_differences us vs (place + list_nodes ss)
list_differences-append [] [] us vs place e = ap (list_differences us vs) (omega arith)
list_differences-append [] (t ∷ ts) us vs place e = absurd (omega (arith, e))
list_differences-append (s ∷ ss) [] us vs place e = absurd (omega (arith, e))
list_differences-append (s ∷ ss) (t ∷ ts) us vs place e =
    let h = list_differences-append ss ts us vs (place + node_count s) (omega (arith, e)) in
    let k : place + node_count s + list_nodes ss ≡ place + (node_count s + list_nodes ss) = omega arith in
    ap (λ l. differences_of s t place ++ l) h ∙ sym (append_assoc (differences_of s t place) (list_differences ss ts (place + node_count s)) (list_differences us vs (place + node_count s + list_nodes ss)))
    ∙ ap (λ n. (differences_of s t place ++ list_differences ss ts (place + node_count s)) ++ list_differences us vs n) k

one-difference : (s t : Shape) (place : ℕ) → list_differences (s ∷ []) (t ∷ []) place ≡ differences_of s t place
one-difference s t place = append-nil (differences_of s t place)

shapes-length : (fs : Fields) → length (field_shapes fs) ≡ length (field_names fs)
shapes-length Fields.no_fields = refl
shapes-length (Fields.field n t p s fs) = omega (arith, shapes-length fs)

payloads-length : (alts : Alternatives) → length (alternative_shapes alts) ≡ length (identifiers alts)
payloads-length Alternatives.no_alternatives = refl
payloads-length (Alternatives.alternative i t s alts) = omega (arith, payloads-length alts)

at-place : {r : Option Reason} {below : List (ℕ × Reason)} (place : ℕ) → r ≡ None → here_or place r below ≡ below
at-place place e = rw e refl

-- What is at a place that differs.
pub differences-here : (s t : Shape) (place : ℕ) (r : Reason) → reason_of s t ≡ Some r → differences_of s t place ≡ (place, r) ∷ []
differences-here (Shape.seq kind fs added) t place r e =
    ap (λ o. here_or place o (field_differences fs (root_fields t) (place + 1) ++ added_field_differences added (added_fields t) (place + 1 + field_nodes fs))) e
differences-here (Shape.list_of s) t place r e = ap (λ o. here_or place o (differences_of s (content t) (place + 1))) e
differences-here (Shape.set_of s) t place r e = ap (λ o. here_or place o (differences_of s (content t) (place + 1))) e
differences-here (Shape.table s) t place r e = ap (λ o. here_or place o (differences_of s (content t) (place + 1))) e
differences-here (Shape.choice alts added) t place r e =
    ap (λ o. here_or place o (alternative_differences alts (root_alternatives t) (place + 1) ++ added_alternative_differences added (added_alternatives t) (place + 1 + alternative_nodes alts))) e
differences-here (Shape.loop s) t place r e = ap (λ o. here_or place o (differences_of s (content t) (place + 1))) e
differences-here s t place r e = ap (λ o. here_or place o []) e

-- The parts of fields, of which the added ones come last.
all-field-differences : (fs gs added more : Fields) (place : ℕ) → length (field_names fs) ≡ length (field_names gs)
    → field_differences fs gs place ++ field_differences added more (place + field_nodes fs) ≡ list_differences (field_shapes fs ++ field_shapes added) (field_shapes gs ++ field_shapes more) place
all-field-differences fs gs added more place e =
    rw (fields-differences fs gs place, fields-differences added more (place + field_nodes fs), fields-nodes fs) (sym (list_differences-append (field_shapes fs) (field_shapes gs) (field_shapes added) (field_shapes more) place (shapes-length fs ∙ e ∙ sym (shapes-length gs))))

all-alternative-differences : (alts bs added more : Alternatives) (place : ℕ) → length (identifiers alts) ≡ length (identifiers bs)
    → alternative_differences alts bs place ++ alternative_differences added more (place + alternative_nodes alts) ≡ list_differences (alternative_shapes alts ++ alternative_shapes added) (alternative_shapes bs ++ alternative_shapes more) place
all-alternative-differences alts bs added more place e =
    rw (alternatives-differences alts bs place, alternatives-differences added more (place + alternative_nodes alts), alternatives-nodes alts)
    (sym (list_differences-append (alternative_shapes alts) (alternative_shapes bs) (alternative_shapes added) (alternative_shapes more) place (payloads-length alts ∙ e ∙ sym (payloads-length bs))))

leaf-differences : (s : Shape) (place : ℕ) → has_parts s ≡ false → differences_of s s place ≡ here_or place (reason_of s s) []
leaf-differences (Shape.seq kind fs added) place e = cc e
leaf-differences (Shape.list_of s) place e = cc e
leaf-differences (Shape.set_of s) place e = cc e
leaf-differences (Shape.table s) place e = cc e
leaf-differences (Shape.choice alts added) place e = cc e
leaf-differences (Shape.loop s) place e = cc e
leaf-differences s place e = refl

leaf-parts : (s : Shape) → has_parts s ≡ false → parts s ≡ []
leaf-parts (Shape.seq kind fs added) e = cc e
leaf-parts (Shape.list_of s) e = cc e
leaf-parts (Shape.set_of s) e = cc e
leaf-parts (Shape.table s) e = cc e
leaf-parts (Shape.choice alts added) e = cc e
leaf-parts (Shape.loop s) e = cc e
leaf-parts s e = refl

matched-differences : {s t : Shape} (place : ℕ) → reason_of s t ≡ None → Matches s t → differences_of s t place ≡ list_differences (parts s) (parts t) (place + 1)
matched-differences place none (Matches.same_leaf {s = s} e) = leaf-differences s place e ∙ at-place place none ∙ sym (ap (λ l. list_differences l (parts s) (place + 1)) (leaf-parts s e))
matched-differences place none (Matches.longer_enum items added more) = at-place place none
matched-differences place none (Matches.closed_seq {fs = fs} {gs = gs} front same) = at-place place none ∙ all-field-differences fs gs Fields.no_fields Fields.no_fields (place + 1) same
matched-differences place none (Matches.longer_seq {fs = fs} {gs = gs} {added = added} {more = more} front same longer) = at-place place none ∙ all-field-differences fs gs added more (place + 1) same
matched-differences place none (Matches.a_list s r) = at-place place none ∙ sym (one-difference s r (place + 1))
matched-differences place none (Matches.a_set s r) = at-place place none ∙ sym (one-difference s r (place + 1))
matched-differences place none (Matches.a_table s r) = at-place place none ∙ sym (one-difference s r (place + 1))
matched-differences place none (Matches.closed_choice {alts = alts} {bs = bs} front same) = at-place place none ∙ all-alternative-differences alts bs Alternatives.no_alternatives Alternatives.no_alternatives (place + 1) same
matched-differences place none (Matches.longer_choice {alts = alts} {bs = bs} {added = added} {more = more} front same longer) = at-place place none ∙ all-alternative-differences alts bs added more (place + 1) same
matched-differences place none (Matches.a_loop b c) = at-place place none ∙ sym (one-difference b c (place + 1))

-- Where there is no reason, the differences are those of the parts.
pub differences-parts : (s t : Shape) (place : ℕ) → reason_of s t ≡ None → differences_of s t place ≡ list_differences (parts s) (parts t) (place + 1)
differences-parts s t place e = matched-differences place e (matches s t e)

front-length : {fs gs : Fields} → FrontFields fs gs → length (field_shapes fs) ≤ length (field_shapes gs)
front-length FrontFields.front_no_fields = omega arith
front-length (FrontFields.front_field s r front) = omega (arith, front-length front)

start-length : {alts bs : Alternatives} → FrontAlternatives alts bs → length (alternative_shapes alts) ≤ length (alternative_shapes bs)
start-length FrontAlternatives.front_no_alternatives = omega arith
start-length (FrontAlternatives.front_alternative s r front) = omega (arith, start-length front)

matched-length : {s t : Shape} → Matches s t → length (parts s) ≤ length (parts t)
matched-length (Matches.same_leaf {s = s} e) = omega arith
matched-length (Matches.longer_enum items added more) = omega arith
matched-length (Matches.closed_seq {fs = fs} {gs = gs} front same) = omega (arith, front-length front, length-append (field_shapes fs) [], length-append (field_shapes gs) [])
matched-length (Matches.longer_seq {fs = fs} {gs = gs} {added = added} {more = more} front same longer) =
    omega (arith, front-length front, front-length longer, length-append (field_shapes fs) (field_shapes added), length-append (field_shapes gs) (field_shapes more))
matched-length (Matches.a_list s r) = omega arith
matched-length (Matches.a_set s r) = omega arith
matched-length (Matches.a_table s r) = omega arith
matched-length (Matches.closed_choice {alts = alts} {bs = bs} front same) = omega (arith, start-length front, length-append (alternative_shapes alts) [], length-append (alternative_shapes bs) [])
matched-length (Matches.longer_choice {alts = alts} {bs = bs} {added = added} {more = more} front same longer) =
    omega (arith, start-length front, start-length longer, length-append (alternative_shapes alts) (alternative_shapes added), length-append (alternative_shapes bs) (alternative_shapes more))
matched-length (Matches.a_loop b c) = omega arith

-- Each part of the first shape has one of the second beside it.
pub parts-beside : (s t : Shape) → reason_of s t ≡ None → length (parts s) ≤ length (parts t)
parts-beside s t e = matched-length (matches s t e)

-- The paths to the nodes of parts, each after its step.
abbrev pub list_paths : List (List (List ℕ)) → List Shape → List (List (List ℕ))
list_paths (step ∷ rest) (s ∷ ss) = map (λ path. step ++ path) (paths s) ++ list_paths rest ss
list_paths rest ss = []

fields-paths : (fs : Fields) → field_paths fs ≡ list_paths (map (λ n. n ∷ []) (field_names fs)) (field_shapes fs)
fields-paths Fields.no_fields = refl
fields-paths (Fields.field n t p s fs) = ap (λ l. under n (paths s) ++ l) (fields-paths fs)

alternatives-paths : (alts : Alternatives) → alternative_paths alts ≡ list_paths (map (λ i. i ∷ []) (identifiers alts)) (alternative_shapes alts)
alternatives-paths Alternatives.no_alternatives = refl
alternatives-paths (Alternatives.alternative i t s alts) = ap (λ l. under i (paths s) ++ l) (alternatives-paths alts)

fields-then-paths : (fs added : Fields) → field_paths fs ++ field_paths added ≡ list_paths (map (λ n. n ∷ []) (field_names fs ++ field_names added)) (field_shapes fs ++ field_shapes added)
fields-then-paths Fields.no_fields added = fields-paths added
fields-then-paths (Fields.field n t p s fs) added = append_assoc (under n (paths s)) (field_paths fs) (field_paths added) ∙ ap (λ l. under n (paths s) ++ l) (fields-then-paths fs added)

alternatives-then-paths : (alts added : Alternatives) → alternative_paths alts ++ alternative_paths added ≡ list_paths (map (λ i. i ∷ []) (identifiers alts ++ identifiers added)) (alternative_shapes alts ++ alternative_shapes added)
alternatives-then-paths Alternatives.no_alternatives added = alternatives-paths added
alternatives-then-paths (Alternatives.alternative i t s alts) added = append_assoc (under i (paths s)) (alternative_paths alts) (alternative_paths added) ∙ ap (λ l. under i (paths s) ++ l) (alternatives-then-paths alts added)

map-same : (xs : List (List (List ℕ))) → map (λ (x : List (List ℕ)). [] ++ x) xs ≡ xs
map-same [] = refl
map-same (x ∷ xs) = ap (λ l. x ∷ l) (map-same xs)

-- A node is at no step, and each of its parts after its own.
pub paths-parts : (s : Shape) → paths s ≡ [] ∷ list_paths (steps s) (parts s)
paths-parts (Shape.seq kind fs FieldAdditions.closed_fields) = ap (λ l. [] ∷ l) (fields-then-paths fs Fields.no_fields)
paths-parts (Shape.seq kind fs (FieldAdditions.extended_fields added)) = ap (λ l. [] ∷ l) (fields-then-paths fs added)
paths-parts (Shape.list_of s) = ap (λ l. [] ∷ l) (sym (append-nil (under into_each (paths s))))
paths-parts (Shape.set_of s) = ap (λ l. [] ∷ l) (sym (append-nil (under into_each (paths s))))
paths-parts (Shape.table s) = ap (λ l. [] ∷ l) (sym (append-nil (under into_each (paths s))))
paths-parts (Shape.choice alts AlternativeAdditions.closed_alternatives) = ap (λ l. [] ∷ l) (alternatives-then-paths alts Alternatives.no_alternatives)
paths-parts (Shape.choice alts (AlternativeAdditions.extended_alternatives added)) = ap (λ l. [] ∷ l) (alternatives-then-paths alts added)
paths-parts (Shape.loop s) = ap (λ l. [] ∷ l) (sym (append-nil (map (λ path. [] ++ path) (paths s)) ∙ map-same (paths s)))
paths-parts s = refl
