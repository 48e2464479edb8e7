-- The report on differences.
use Rattle.std.proofs.Common.{◌≡◌, ◌<◌, ◌≤◌, ap, sym, ◌∙◌, arith, refl, ℕ, ◌+◌, ◌^◌, List, [], ◌∷◌, ◌++◌, length, codes, get_or, length-append}
use Rattle.std.specs.List.{flat_map}
use Rattle.asn_growth.specs.Differences.{Ascends}
use Rattle.asn_growth.specs.declared.reasons.Reason.{Reason}
use Rattle.asn_growth.specs.declared.reasons.Reason.TheVariants as reason
use Rattle.asn_version_reports.specs.Passing.{Lines, pass_all}
use Rattle.asn_version_reports.specs.Paths.{behind, path_text}
use Rattle.asn_version_reports.specs.Reports.{placed_line, reason_words, report_text}
use Rattle.asn_version_reports.proofs.Passed.{all-passed}
use Rattle.asn_version_reports.proofs.Behind.{behind-none}

words-long : (r : Reason) → 4 ≤ length (reason_words r)
words-long reason.Kind = omega arith
words-long reason.Numbers = omega arith
words-long reason.Names = omega arith
words-long reason.Tags = omega arith
words-long reason.Presence = omega arith
words-long reason.Extensible = omega arith
words-long reason.Additions = omega arith

line-long : (path words more : List ℕ) → 4 ≤ length words → (path ++ (codes ": " ++ (words ++ 10 ∷ []))) ++ more ≡ codes "grows" ++ 10 ∷ [] → ⊥
line-long path words more h e =
    let a : length (path ++ (codes ": " ++ (words ++ 10 ∷ []))) + length more ≡ 6 = sym (length-append (path ++ (codes ": " ++ (words ++ 10 ∷ []))) more) ∙ ap length e in
    omega (arith, a, h, length-append path (codes ": " ++ (words ++ 10 ∷ [])), length-append words (10 ∷ []))

-- The report is the line that there is no difference only where there is none.
pub none-reported : (paths : List (List (List ℕ))) (ds : List (ℕ × Reason)) → report_text paths ds ≡ codes "grows" ++ 10 ∷ [] → ds ≡ []
none-reported paths [] e = refl
none-reported paths (d ∷ ds) e = absurd (line-long (path_text (get_or paths d.0 [])) (reason_words d.1) (flat_map (placed_line paths) ds) (words-long d.1) e)

some-reported : (paths : List (List (List ℕ))) (ds : List (ℕ × Reason)) → 0 < length ds → flat_map (placed_line paths) ds ≡ report_text paths ds
some-reported paths [] h = absurd (omega (arith, h))
some-reported paths (d ∷ ds) h = refl

-- When all nodes are passed, the lines are the report.
pub reported : (paths : List (List (List ℕ))) (ds left : List (ℕ × Reason)) (text : List ℕ) (steps : List (List ℕ)) (last : Lines) → left ≡ ds → text ≡ [] → steps ≡ [] → length paths < 2 ^ 32 → Ascends 0 (length paths) ds → 0 < length ds
    → last ≡ pass_all (record { place = 0; left = left; text = text }) (behind steps paths) → last.text ≡ report_text paths ds
reported paths ds left text steps last l t n few ascends some e =
    ap (λ x. x.text) (e ∙ (λ i. pass_all (record { place = 0; left = l i; text = t i }) (behind (n i) paths)) ∙ ap (pass_all (record { place = 0; left = ds; text = [] })) (behind-none paths))
    ∙ all-passed [] paths paths 0 ds [] refl refl few ascends ∙ some-reported paths ds some
