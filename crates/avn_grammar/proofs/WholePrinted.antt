-- Printed text, whole and before other text.
use Rattle.std.proofs.Common.{◌≡◌, ℕ, ◌≤◌, ◌<◌, [], true, ◌++◌, List, refl, inr, sym, ap, subst, ◌∙◌, inl}
use Rattle.std.proofs.lemmas.List.{append-nil}
use Rattle.std.proofs.lemmas.Str.{chars-nil}
use Rattle.std.proofs.lemmas.Bool.{cases_lt}
use Rattle.std.specs.Str.{chars}
use Rattle.avn_grammar.specs.Chars.{class_of_next, skip}
use Rattle.avn_grammar.proofs.DeepParses.{deep_parses}
use Rattle.avn_grammar.specs.Depth.{ExceedsDepth, deepest}
use Rattle.avn_grammar.specs.Grammar.{Parses, ParsesWhole, ComesAfterValue}
use Rattle.avn_grammar.specs.Normal.{normal}
use Rattle.avn_grammar.specs.Print.{print}
use Rattle.avn_grammar.specs.Tree.{Tree}
use Rattle.avn_grammar.specs.WellFormed.{is_well_formed}
use Rattle.avn_grammar.proofs.PrintedBefore.{chars-print, put, shown}
use Rattle.avn_grammar.proofs.ReadPrinted.{says, behind}
use Rattle.avn_grammar.proofs.DeepPrinted.{sinks}

whole : (d : ℕ) (t : Tree) → is_well_formed t ≡ true → put shown d t [] ≡ chars (print d t)
whole d t h = ap (put shown d t) (sym chars-nil) ∙ sym (chars-print d t [] h) ∙ ap chars (append-nil (print d t))

pub reads_whole : (limit d : ℕ) (t : Tree) → is_well_formed t ≡ true → deepest 0 t ≤ limit → ParsesWhole limit (chars (print d t)) (normal t)
reads_whole limit d t h l = ([], subst (λ x. Parses limit 0 x (normal t) []) (whole d t h) ((says limit t h).0 d 0 (put shown d t []) [] (behind d t [] h) l (inl refl)), refl)

pub sinks_whole : (limit d : ℕ) (t : Tree) → is_well_formed t ≡ true → limit < deepest 0 t → ExceedsDepth limit 0 (chars (print d t))
sinks_whole limit d t h l = subst (λ x. ExceedsDepth limit 0 x) (whole d t h) ((sinks limit t h).0 d 0 (put shown d t []) [] (behind d t [] h) l (inl refl))

pub reads_before : (limit level d : ℕ) (t : Tree) (rest : List ℕ) → is_well_formed t ≡ true → deepest level t ≤ limit → ComesAfterValue (class_of_next (skip (chars rest))) → Parses limit level (chars (print d t ++ rest)) (normal t) (chars rest)
reads_before limit level d t rest h l a =
    subst (λ x. Parses limit level x (normal t) (chars rest)) (sym (chars-print d t rest h)) ((says limit t h).0 d level (put shown d t (chars rest)) (chars rest) (behind d t (chars rest) h) l a)

pub deep_above : (limit level d : ℕ) (t : Tree) (rest : List ℕ) → is_well_formed t ≡ true → ComesAfterValue (class_of_next (skip (chars rest))) → limit < deepest level t → ExceedsDepth limit level (chars (print d t ++ rest))
deep_above limit level d t rest h a m =
    subst (λ x. ExceedsDepth limit level x) (sym (chars-print d t rest h)) ((sinks limit t h).0 d level (put shown d t (chars rest)) (chars rest) (behind d t (chars rest) h) m a)

pub deep_only_above : (limit level d : ℕ) (t : Tree) (rest : List ℕ) → is_well_formed t ≡ true → ComesAfterValue (class_of_next (skip (chars rest))) → ExceedsDepth limit level (chars (print d t ++ rest)) → limit < deepest level t
deep_only_above limit level d t rest h a k = elim (cases_lt limit (deepest level t)) [ inl m ↦ m | inr m ↦ absurd (deep_parses k (normal t) (chars rest) (reads_before limit level d t rest h m a)) ]
