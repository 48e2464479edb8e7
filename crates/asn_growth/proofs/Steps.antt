-- One part of a node more.
use Rattle.std.proofs.Common.{◌≡◌, refl, ap, sym, ◌∙◌, arith, ℕ, zero, suc, ◌+◌, ◌<◌, ◌≤◌, ◌^◌, min, List, [], ◌∷◌, ◌++◌, length, map, get_or, drop, reverse, ◌-◌, ◌≢◌, MatchOption, Option, Some, None, append_assoc, length-append}
use Rattle.std.proofs.Math.Seq.{drop-cons}
use Rattle.std.proofs.lemmas.List.{at_drop_all, drop_all, get_or-append-add, get_or-map, get_or_append_left, length-map, map-append, reverse-append}
use Rattle.std.specs.List.{slice_get}
use Rattle.asn_model.specs.Shape.{Shape, Fields, FieldAdditions, Alternatives, AlternativeAdditions, field_names, identifiers}
use Rattle.asn_growth.specs.Differences.{differences_of}
use Rattle.asn_growth.specs.Parts.{added_alternative_nodes, added_field_nodes, alternative_nodes, alternative_shapes, field_nodes, field_shapes, node_count, parts}
use Rattle.asn_growth.specs.Paths.{added_alternative_paths, added_field_paths, alternative_paths, field_paths, into_each, paths, steps, under}
use Rattle.asn_growth.specs.declared.reasons.Reason.{Reason}
use Rattle.asn_growth.proofs.Walking.{list_differences, list_nodes, list_paths, nodes-parts, paths-parts}

pub drop-step : {A : Type 0} (xs : List A) (i : ℕ) (d : A) → i < length xs → drop i xs ≡ get_or xs i d ∷ drop (i + 1) xs
drop-step xs i d h = let next : suc i ≡ i + 1 = omega arith in drop-cons xs i d h ∙ ap (λ k. get_or xs i d ∷ drop k xs) next

pub nodes-step : (ss : List Shape) (i : ℕ) (d : Shape) → i < length ss → list_nodes (drop i ss) ≡ node_count (get_or ss i d) + list_nodes (drop (i + 1) ss)
nodes-step ss i d h = ap list_nodes (drop-step ss i d h)

part-within : (ss : List Shape) (i : ℕ) (d : Shape) → i < length ss → node_count (get_or ss i d) ≤ list_nodes ss
part-within [] i d h = absurd (omega (arith, h))
part-within (s ∷ ss) zero d h = omega arith
part-within (s ∷ ss) (suc i) d h = omega (arith, part-within ss i d (omega (arith, h)))

-- A part has fewer nodes than the whole.
pub part-smaller : (s : Shape) (i : ℕ) (d : Shape) → i < length (parts s) → node_count (get_or (parts s) i d) < node_count s
part-smaller s i d h = omega (arith, nodes-parts s, part-within (parts s) i d h)

pub differences-step : (ss ts : List Shape) (i : ℕ) (d e : Shape) (place : ℕ) → i < length ss → i < length ts
    → list_differences (drop i ss) (drop i ts) place ≡ differences_of (get_or ss i d) (get_or ts i e) place ++ list_differences (drop (i + 1) ss) (drop (i + 1) ts) (place + node_count (get_or ss i d))
differences-step ss ts i d e place h k = ap (λ l. list_differences l (drop i ts) place) (drop-step ss i d h) ∙ ap (λ l. list_differences (get_or ss i d ∷ drop (i + 1) ss) l place) (drop-step ts i e k)

pub paths-step : (ps : List (List (List ℕ))) (ss : List Shape) (i : ℕ) (d : Shape) → i < length ps → i < length ss
    → list_paths (drop i ps) (drop i ss) ≡ map (λ path. get_or ps i [] ++ path) (paths (get_or ss i d)) ++ list_paths (drop (i + 1) ps) (drop (i + 1) ss)
paths-step ps ss i d h k = ap (λ l. list_paths l (drop i ss)) (drop-step ps i [] h) ∙ ap (λ l. list_paths (get_or ps i [] ∷ drop (i + 1) ps) l) (drop-step ss i d k)

names-length : (fs : Fields) → length (field_names fs) ≡ length (field_shapes fs)
names-length Fields.no_fields = refl
names-length (Fields.field n t p s fs) = omega (arith, names-length fs)

identifiers-length : (alts : Alternatives) → length (identifiers alts) ≡ length (alternative_shapes alts)
identifiers-length Alternatives.no_alternatives = refl
identifiers-length (Alternatives.alternative i t s alts) = omega (arith, identifiers-length alts)

fields-steps : (fs added : Fields) → length (map (λ (n : List ℕ). n ∷ []) (field_names fs ++ field_names added)) ≡ length (field_shapes fs ++ field_shapes added)
fields-steps fs added =
    length-map (field_names fs ++ field_names added) (λ (n : List ℕ). n ∷ []) ∙ omega (arith, length-append (field_names fs) (field_names added), length-append (field_shapes fs) (field_shapes added), names-length fs, names-length added)

alternatives-steps : (alts added : Alternatives) → length (map (λ (n : List ℕ). n ∷ []) (identifiers alts ++ identifiers added)) ≡ length (alternative_shapes alts ++ alternative_shapes added)
alternatives-steps alts added =
    length-map (identifiers alts ++ identifiers added) (λ (n : List ℕ). n ∷ [])
    ∙ omega (arith, length-append (identifiers alts) (identifiers added), length-append (alternative_shapes alts) (alternative_shapes added), identifiers-length alts, identifiers-length added)

-- Each part has its step.
pub steps-parts : (s : Shape) → length (steps s) ≡ length (parts s)
steps-parts (Shape.seq kind fs FieldAdditions.closed_fields) = fields-steps fs Fields.no_fields
steps-parts (Shape.seq kind fs (FieldAdditions.extended_fields added)) = fields-steps fs added
steps-parts (Shape.choice alts AlternativeAdditions.closed_alternatives) = alternatives-steps alts Alternatives.no_alternatives
steps-parts (Shape.choice alts (AlternativeAdditions.extended_alternatives added)) = alternatives-steps alts added
steps-parts s = refl

under-length : (n : List ℕ) (l : List (List (List ℕ))) → length (under n l) ≡ length l
under-length n l = length-map l (λ path. n ∷ path)

mutual
  -- Each node has its path.
  pub paths-length : (s : Shape) → length (paths s) ≡ node_count s
  paths-length (Shape.seq kind fs added) = omega (arith, length-append (field_paths fs) (added_field_paths added), field_paths-length fs, added_field_paths-length added)
  paths-length (Shape.list_of s) = omega (arith, under-length into_each (paths s), paths-length s)
  paths-length (Shape.set_of s) = omega (arith, under-length into_each (paths s), paths-length s)
  paths-length (Shape.table s) = omega (arith, under-length into_each (paths s), paths-length s)
  paths-length (Shape.choice alts added) = omega (arith, length-append (alternative_paths alts) (added_alternative_paths added), alternative_paths-length alts, added_alternative_paths-length added)
  paths-length (Shape.loop s) = omega (arith, paths-length s)
  paths-length s = refl

  field_paths-length : (fs : Fields) → length (field_paths fs) ≡ field_nodes fs
  field_paths-length Fields.no_fields = refl
  field_paths-length (Fields.field n t p s fs) = omega (arith, length-append (under n (paths s)) (field_paths fs), under-length n (paths s), paths-length s, field_paths-length fs)

  added_field_paths-length : (added : FieldAdditions) → length (added_field_paths added) ≡ added_field_nodes added
  added_field_paths-length FieldAdditions.closed_fields = refl
  added_field_paths-length (FieldAdditions.extended_fields fs) = field_paths-length fs

  alternative_paths-length : (alts : Alternatives) → length (alternative_paths alts) ≡ alternative_nodes alts
  alternative_paths-length Alternatives.no_alternatives = refl
  alternative_paths-length (Alternatives.alternative i t s alts) = omega (arith, length-append (under i (paths s)) (alternative_paths alts), under-length i (paths s), paths-length s, alternative_paths-length alts)

  added_alternative_paths-length : (added : AlternativeAdditions) → length (added_alternative_paths added) ≡ added_alternative_nodes added
  added_alternative_paths-length AlternativeAdditions.closed_alternatives = refl
  added_alternative_paths-length (AlternativeAdditions.extended_alternatives alts) = alternative_paths-length alts

-- Past the last part nothing is left.
pub nodes-end : (ss : List Shape) (i : ℕ) → length ss ≤ i → list_nodes (drop i ss) ≡ 0
nodes-end ss i h = at_drop_all list_nodes ss i h

pub differences-end : (ss ts : List Shape) (i place : ℕ) → length ss ≤ i → list_differences (drop i ss) (drop i ts) place ≡ []
differences-end ss ts i place h = ap (λ l. list_differences l (drop i ts) place) (drop_all i ss h)

-- A capped place after one part more.
pub capped-step : (ss : List Shape) (i : ℕ) (d part : Shape) (next after total : ℕ) → i < length ss → part ≡ get_or ss i d → after ≡ min (next + node_count part) (2 ^ 32)
    → min (next + list_nodes (drop i ss)) (2 ^ 32) ≡ total → min (after + list_nodes (drop (i + 1) ss)) (2 ^ 32) ≡ total
capped-step ss i d part next after total h e a b = omega (arith, nodes-step ss i d h, ap node_count e, a, b)

-- A place after one part more.
pub place-step : (ss : List Shape) (i : ℕ) (d part : Shape) (next after total : ℕ) → i < length ss → part ≡ get_or ss i d → after ≡ next + node_count part → next + list_nodes (drop i ss) ≡ total → after + list_nodes (drop (i + 1) ss) ≡ total
place-step ss i d part next after total h e a b = omega (arith, nodes-step ss i d h, ap node_count e, a, b)

-- A part is within the nodes that are left.
pub part-fits : (ss : List Shape) (i : ℕ) (d part : Shape) (next total : ℕ) → i < length ss → part ≡ get_or ss i d → next + list_nodes (drop i ss) ≡ total → next + node_count part ≤ total
part-fits ss i d part next total h e b = omega (arith, nodes-step ss i d h, ap node_count e, b)

-- The differences of one part, and those of the parts after it.
pub split-differences : (ss ts : List Shape) (i : ℕ) (d e part newer : Shape) (place after : ℕ) → i < length ss → i < length ts → part ≡ get_or ss i d → newer ≡ get_or ts i e → after ≡ place + node_count part
    → list_differences (drop i ss) (drop i ts) place ≡ differences_of part newer place ++ list_differences (drop (i + 1) ss) (drop (i + 1) ts) after
split-differences ss ts i d e part newer place after h k a b f = rw (f, a, b) (differences-step ss ts i d e place h k)

-- A part without a difference leaves those of the others.
pub skip-differences : (ss ts : List Shape) (i : ℕ) (d e part newer : Shape) (place after : ℕ) (all : List (ℕ × Reason)) → i < length ss → i < length ts → part ≡ get_or ss i d → newer ≡ get_or ts i e → after ≡ place + node_count part
    → differences_of part newer place ≡ [] → list_differences (drop i ss) (drop i ts) place ≡ all → list_differences (drop (i + 1) ss) (drop (i + 1) ts) after ≡ all
skip-differences ss ts i d e part newer place after all h k a b f none g =
    ap (λ l. l ++ list_differences (drop (i + 1) ss) (drop (i + 1) ts) after) (sym none) ∙ sym (split-differences ss ts i d e part newer place after h k a b f) ∙ g

first-in-front : (ds es : List (ℕ × Reason)) (first : ℕ × Reason) → slice_get ds 0 ≡ Some first → slice_get (ds ++ es) 0 ≡ Some first
first-in-front [] es first e = cc e
first-in-front (d ∷ ds) es first e = e

-- The first difference of a part is the first one of all.
pub first-of-part : (ss ts : List Shape) (i : ℕ) (d e part newer : Shape) (place : ℕ) (all : List (ℕ × Reason)) (first : ℕ × Reason) → i < length ss → i < length ts → part ≡ get_or ss i d → newer ≡ get_or ts i e
    → slice_get (differences_of part newer place) 0 ≡ Some first → list_differences (drop i ss) (drop i ts) place ≡ all → slice_get all 0 ≡ Some first
first-of-part ss ts i d e part newer place all first h k a b f g =
    ap (λ l. slice_get l 0) (sym g ∙ split-differences ss ts i d e part newer place (place + node_count part) h k a b refl) ∙ first-in-front (differences_of part newer place) (list_differences (drop (i + 1) ss) (drop (i + 1) ts) (place + node_count part)) first f

-- The differences of a part go behind those that were found before.
pub add-differences : (ss ts : List Shape) (i : ℕ) (d e part newer : Shape) (place after : ℕ) (found more all : List (ℕ × Reason)) → i < length ss → i < length ts → part ≡ get_or ss i d → newer ≡ get_or ts i e → after ≡ place + node_count part
    → more ≡ found ++ differences_of part newer place → found ++ list_differences (drop i ss) (drop i ts) place ≡ all → more ++ list_differences (drop (i + 1) ss) (drop (i + 1) ts) after ≡ all
add-differences ss ts i d e part newer place after found more all h k a b f g m =
    ap (λ l. l ++ list_differences (drop (i + 1) ss) (drop (i + 1) ts) after) g
    ∙ append_assoc found (differences_of part newer place) (list_differences (drop (i + 1) ss) (drop (i + 1) ts) after)
    ∙ ap (λ l. found ++ l) (sym (split-differences ss ts i d e part newer place after h k a b f)) ∙ m

-- A node that a part lacks is so many nodes further on.
pub beyond-part : (ps : List (List (List ℕ))) (ss : List Shape) (i : ℕ) (d part : Shape) (left further : ℕ) (way : List (List ℕ)) → length ps ≡ length ss → i < length ss → part ≡ get_or ss i d → further + node_count part ≡ left
    → get_or (list_paths (drop i ps) (drop i ss)) left [] ≡ way → get_or (list_paths (drop (i + 1) ps) (drop (i + 1) ss)) further [] ≡ way
beyond-part ps ss i d part left further way same h e f g =
    let front = map (λ path. get_or ps i [] ++ path) (paths (get_or ss i d)) in
    let rest = list_paths (drop (i + 1) ps) (drop (i + 1) ss) in
    let long : length front + further ≡ left = omega (arith, length-map (paths (get_or ss i d)) (λ path. get_or ps i [] ++ path), paths-length (get_or ss i d), ap node_count e, f) in
    sym (get_or-append-add front rest further []) ∙ ap (λ k. get_or (front ++ rest) k []) long ∙ ap (λ l. get_or l left []) (sym (paths-step ps ss i d (omega (arith, same, h)) h)) ∙ g

-- The way to a node of a part begins with the step to the part.
pub within-part : (ps : List (List (List ℕ))) (ss : List Shape) (i : ℕ) (d part : Shape) (left : ℕ) (way : List (List ℕ)) → length ps ≡ length ss → i < length ss → part ≡ get_or ss i d → left < node_count part
    → get_or (list_paths (drop i ps) (drop i ss)) left [] ≡ way → way ≡ get_or ps i [] ++ get_or (paths part) left []
within-part ps ss i d part left way same h e f g =
    let step = λ (path : List (List ℕ)). get_or ps i [] ++ path in
    let front = map step (paths (get_or ss i d)) in
    let rest = list_paths (drop (i + 1) ps) (drop (i + 1) ss) in
    let short : left < length (paths (get_or ss i d)) = omega (arith, paths-length (get_or ss i d), ap node_count e, f) in
    let here : left < length front = omega (arith, short, length-map (paths (get_or ss i d)) step) in
    sym g ∙ ap (λ l. get_or l left []) (paths-step ps ss i d (omega (arith, same, h)) h) ∙ get_or_append_left front rest [] left here ∙ get_or-map step (paths (get_or ss i d)) left [] [] short
    ∙ ap (λ s. get_or ps i [] ++ get_or (paths s) left []) (sym e)

-- The path to a node other than the root is one to a node of a part.
pub way-below : (s : Shape) (place : ℕ) → place ≢ 0 → get_or (list_paths (steps s) (parts s)) (place - 1) [] ≡ get_or (paths s) place []
way-below s zero h = absurd (h refl)
way-below s (suc k) h =
    let e : suc k - 1 ≡ k = omega arith in ap (λ j. get_or (list_paths (steps s) (parts s)) j []) e ∙ sym (ap (λ l. get_or l (suc k) []) (paths-parts s))

-- There is no step to the root.
pub way-root : (s : Shape) → get_or (paths s) 0 [] ≡ []
way-root s = ap (λ l. get_or l 0 []) (paths-parts s)

-- The steps in reverse, with the step to the part behind those within it.
pub found-way : (old new way inner step : List (List ℕ)) → new ≡ old ++ reverse inner → way ≡ step ++ inner → new ++ reverse step ≡ old ++ reverse way
found-way old new way inner step a b =
    ap (λ l. l ++ reverse step) a ∙ append_assoc old (reverse inner) (reverse step) ∙ ap (λ l. old ++ l) (sym (reverse-append step inner)) ∙ ap (λ w. old ++ reverse w) (sym b)

-- A node within the shape is found.
pub found-only : (o : Option ℕ) (n place : ℕ) (P : Type 0) (Q : ℕ → Type 0) → place < n → MatchOption o P (λ left. (left + n ≡ place) × Q left) → P
found-only None n place P Q h m = m
found-only (Some left) n place P Q h m = absurd (omega (arith, h, m.0))

pub no-first : (ds : List (ℕ × Reason)) (first : ℕ × Reason) → ds ≡ [] → slice_get ds 0 ≡ Some first → ⊥
no-first [] first e f = cc f
no-first (d ∷ ds) first e f = cc e

pub reverse-mapped : {A B : Type 0} (f : A → B) (xs : List A) → map f (reverse xs) ≡ reverse (map f xs)
reverse-mapped f [] = refl
reverse-mapped f (x ∷ xs) =
    ap (map f) (reverse-append (x ∷ []) xs) ∙ map-append f (reverse xs) (x ∷ []) ∙ ap (λ l. l ++ f x ∷ []) (reverse-mapped f xs) ∙ sym (reverse-append (f x ∷ []) (map f xs))
