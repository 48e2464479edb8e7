-- Lines that are gathered while nodes are passed.
use Rattle.std.proofs.Common.{◌≡◌, ◌<◌, ◌≤◌, refl, ap, sym, ◌∙◌, subst, arith, ℕ, suc, ◌^◌, nat_eq, List, [], ◌∷◌, ◌++◌, length, get_or, Bool, true, false, if◌then◌else◌, append-nil, append_assoc, length-append}
use Rattle.std.proofs.lemmas.Bool.{eqb-true, eqb-false}
use Rattle.std.proofs.Math.Seq.{get_or-append_seam}
use Rattle.std.specs.List.{flat_map}
use Rattle.asn_growth.specs.Differences.{Ascends}
use Rattle.asn_growth.specs.Paths.{under}
use Rattle.asn_growth.specs.declared.reasons.Reason.{Reason}
use Rattle.asn_version_reports.specs.Passing.{Lines, next_place, pass, pass_all, pass_by}
use Rattle.asn_version_reports.specs.Paths.{behind}
use Rattle.asn_version_reports.specs.Reports.{difference_line, placed_line}
use Rattle.asn_version_reports.proofs.Behind.{behind-append, behind-under}

-- Nodes of two lists.
pub pass_all-append : (lines : Lines) (paths more : List (List (List ℕ))) → pass_all lines (paths ++ more) ≡ pass_all (pass_all lines paths) more
pass_all-append lines [] more = refl
pass_all-append lines (path ∷ paths) more = pass_all-append (pass lines path) paths more

-- A node is passed, and then its parts.
pub passed-node : (old node first last : Lines) (steps : List (List ℕ)) (all paths more : List (List (List ℕ))) → all ≡ [] ∷ (paths ++ more) → node ≡ pass old steps → first ≡ pass_all node (behind steps paths)
    → last ≡ pass_all first (behind steps more) → last ≡ pass_all old (behind steps all)
passed-node old node first last steps all paths more e n f l =
    l ∙ ap (λ x. pass_all x (behind steps more)) f ∙ sym (pass_all-append node (behind steps paths) (behind steps more)) ∙ ap (pass_all node) (sym (behind-append steps paths more))
    ∙ ap (λ x. pass_all x (behind steps (paths ++ more))) (n ∙ ap (pass old) (sym (append-nil steps))) ∙ sym (ap (λ x. pass_all old (behind steps x)) e)

-- A node is passed, and then its only part.
pub passed-within : (old node : Lines) (steps within : List (List ℕ)) (step : List ℕ) (all paths : List (List (List ℕ))) → all ≡ [] ∷ under step paths → within ≡ steps ++ step ∷ [] → node ≡ pass old steps → pass_all node (behind within paths) ≡ pass_all old (behind steps all)
passed-within old node steps within step all paths e w n =
    ap (λ x. pass_all node (behind x paths)) w ∙ ap (pass_all node) (sym (behind-under steps step paths)) ∙ ap (λ x. pass_all x (behind steps (under step paths))) (n ∙ ap (pass old) (sym (append-nil steps))) ∙ sym (ap (λ x. pass_all old (behind steps x)) e)

-- The nodes of a part are passed, and then those of the parts behind it.
pub passed-part : (old new : Lines) (steps within : List (List ℕ)) (step : List ℕ) (left paths more : List (List (List ℕ))) (whole : Lines) → left ≡ under step paths ++ more → within ≡ steps ++ step ∷ [] → new ≡ pass_all old (behind within paths)
    → pass_all old (behind steps left) ≡ whole → pass_all new (behind steps more) ≡ whole
passed-part old new steps within step left paths more whole e w n o =
    ap (λ x. pass_all x (behind steps more)) (n ∙ ap (λ x. pass_all old (behind x paths)) w ∙ ap (pass_all old) (sym (behind-under steps step paths)))
    ∙ sym (pass_all-append old (behind steps (under step paths)) (behind steps more)) ∙ ap (pass_all old) (sym (behind-append steps (under step paths) more)) ∙ sym (ap (λ x. pass_all old (behind steps x)) e) ∙ o

-- The lines so far and those of the nodes that are left are those of all differences.
abbrev AllPassed : List (List (List ℕ)) → List (List (List ℕ)) → Lines → Type 0
AllPassed all left lines = (pass_all lines left).text ≡ lines.text ++ flat_map (placed_line all) lines.left

one-more : (front left : List (List (List ℕ))) (path : List (List ℕ)) → front ++ path ∷ left ≡ (front ++ path ∷ []) ++ left
one-more front left path = sym (append_assoc front (path ∷ []) left)

counted-more : (front left all : List (List (List ℕ))) (path : List (List ℕ)) (n : ℕ) → all ≡ front ++ path ∷ left → length front ≡ n → length all < 2 ^ 32 → length (front ++ path ∷ []) ≡ next_place n
counted-more front left all path n e k h = omega (arith, length-append front (path ∷ []), length-append front (path ∷ left), ap length e, k)

passed-or-by : (front left : List (List (List ℕ))) (path : List (List ℕ)) (all : List (List (List ℕ))) (n : ℕ) (d : ℕ × Reason) (ds : List (ℕ × Reason)) (text : List ℕ) → all ≡ front ++ path ∷ left → length front ≡ n → length all < 2 ^ 32 → Ascends n (length all) (d ∷ ds)
    → ((es : List (ℕ × Reason)) (more : List ℕ) → Ascends (next_place n) (length all) es → AllPassed all left (record { place = next_place n; left = es; text = more })) → (b : Bool) → nat_eq d.0 n ≡ b
    → (pass_all (if b then record { place = next_place n; left = ds; text = text ++ difference_line path d.1 } else pass_by (record { place = n; left = d ∷ ds; text = text })) left).text ≡ text ++ flat_map (placed_line all) (d ∷ ds)
passed-or-by front left path all n d ds text e k h a rest true s =
    let same : d.0 ≡ n = eqb-true d.0 n s in
    let next : suc d.0 ≡ next_place n = omega (arith, same, k, h, ap length e, length-append front (path ∷ left)) in
    let here : get_or all d.0 [] ≡ path = ap (λ j. get_or all j []) (same ∙ sym k) ∙ ap (λ l. get_or l (length front) []) e ∙ get_or-append_seam front path left [] in
    rest ds (text ++ difference_line path d.1) (subst (λ j. Ascends j (length all) ds) next a.2) ∙ append_assoc text (difference_line path d.1) (flat_map (placed_line all) ds)
    ∙ ap (λ p. text ++ (difference_line p d.1 ++ flat_map (placed_line all) ds)) (sym here)
passed-or-by front left path all n d ds text e k h a rest false s =
    let differ = eqb-false d.0 n s in
    let beyond : next_place n ≤ d.0 = omega (arith, a.0, differ) in
    rest (d ∷ ds) text (beyond, a.1, a.2)

-- From the node after these on, the differences that are left are all that stand there.
pub all-passed : (front left all : List (List (List ℕ))) (n : ℕ) (ds : List (ℕ × Reason)) (text : List ℕ) → all ≡ front ++ left → length front ≡ n → length all < 2 ^ 32 → Ascends n (length all) ds → AllPassed all left (record { place = n; left = ds; text = text })
all-passed front [] all n [] text e k h a = sym (append-nil text)
all-passed front [] all n (d ∷ ds) text e k h a = absurd (omega (arith, a.0, a.1, ap length e, length-append front [], k))
all-passed front (path ∷ left) all n [] text e k h a = all-passed (front ++ path ∷ []) left all (next_place n) [] text (e ∙ one-more front left path) (counted-more front left all path n e k h) h tt
all-passed front (path ∷ left) all n (d ∷ ds) text e k h a =
    passed-or-by front left path all n d ds text e k h a (λ es more b. all-passed (front ++ path ∷ []) left all (next_place n) es more (e ∙ one-more front left path) (counted-more front left all path n e k h) h b) (nat_eq d.0 n) refl
