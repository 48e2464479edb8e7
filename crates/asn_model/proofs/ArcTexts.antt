-- Object identifiers as the notations write them are read as those object identifiers.
use Rattle.std.proofs.Common.{◌≡◌, refl, ap, sym, ◌∙◌, arith, ℕ, List, [], ◌∷◌, ◌++◌, map, drop, Bool, true, false, cond, ◌==◌, if◌then◌else◌, Some, None, Ok}
use Rattle.std.specs.Fmt.{decimal}
use Rattle.std.specs.List.{slice_split, onto_first}
use Rattle.std.specs.Str.Parse.{without_leading_plus}
use Rattle.std.proofs.lemmas.Bool.{ne_eqb}
use Rattle.std.proofs.lemmas.List.{append-nil}
use Rattle.avn_grammar.specs.Chars.{is_digit, starts_with, all}
use Rattle.avn_grammar.specs.Normal.{arc_trees}
use Rattle.avn_grammar.specs.WellFormed.{is_digits, is_arc}
use Rattle.avn_grammar.proofs.Digits.{arc-lt, digits-arc}
use Rattle.asn_core.specs.ObjectIdentifiers.{is_object_identifier}
use Rattle.asn_model.specs.Arcs.{arc_number, arc_numbers, arc_before, arc_or, braced_arcs, dotted_text, if_arc, in_front}
use Rattle.asn_model.specs.Digits.{digits}
use Rattle.asn_model.proofs.Numerals.{digits-read}
use Rattle.asn_model.proofs.Readables.{and-left, and-right}

-- A digit is no other character.
no_digit : (c d : ℕ) → is_digit c ≡ true → is_digit d ≡ false → (c == d) ≡ false
no_digit c d h k = ne_eqb c d (λ e. let clash : true ≡ false = sym h ∙ ap is_digit e ∙ k in cc clash)

no_plus : (ds : List ℕ) → is_digits ds ≡ true → without_leading_plus ds ≡ ds
no_plus [] h = refl
no_plus (c ∷ cs) h = ap (λ b. drop (cond b 1 0) (c ∷ cs)) (no_digit c 43 (and-left (is_digit c) (all is_digit (c ∷ cs)) h) refl)

-- The decimal digits of an arc are that arc.
arc-read : (a : ℕ) → is_arc a ≡ true → arc_number (decimal a) ≡ Some a
arc-read a h =
    let small = arc-lt a h in
    ap (λ t. if_arc (digits t)) (no_plus (decimal a) (digits-arc a h)) ∙ ap if_arc (digits-read a (omega (arith, small))) ∙ ap (λ b. if b then Some a else None) h

arcs-read : (arcs : List ℕ) → all is_arc arcs ≡ true → arc_numbers (map decimal arcs) ≡ Some arcs
arcs-read [] h = refl
arcs-read (a ∷ arcs) h =
    ap (λ o. in_front o (arc_numbers (map decimal arcs))) (arc-read a (and-left (is_arc a) (all is_arc arcs) h))
    ∙ ap (in_front (Some a)) (arcs-read arcs (and-right (is_arc a) (all is_arc arcs) h))

abbrev is_dot : ℕ → Bool
is_dot c = c == 46

-- Digits that a dot follows are the first part.
split-dot : (ds cs : List ℕ) → all is_digit ds ≡ true → slice_split is_dot (ds ++ 46 ∷ cs) ≡ ds ∷ slice_split is_dot cs
split-dot [] cs h = refl
split-dot (d ∷ ds) cs h =
    let rest = slice_split is_dot (ds ++ 46 ∷ cs) in
    ap (λ b. cond b ([] ∷ rest) (onto_first d rest)) (no_digit d 46 (and-left (is_digit d) (all is_digit ds) h) refl)
    ∙ ap (onto_first d) (split-dot ds cs (and-right (is_digit d) (all is_digit ds) h))

-- Digits alone are the one part.
split-digits : (ds : List ℕ) → all is_digit ds ≡ true → slice_split is_dot ds ≡ ds ∷ []
split-digits [] h = refl
split-digits (d ∷ ds) h =
    let rest = slice_split is_dot ds in
    ap (λ b. cond b ([] ∷ rest) (onto_first d rest)) (no_digit d 46 (and-left (is_digit d) (all is_digit ds) h) refl)
    ∙ ap (onto_first d) (split-digits ds (and-right (is_digit d) (all is_digit ds) h))

arc-digits : (a : ℕ) → is_arc a ≡ true → all is_digit (decimal a) ≡ true
arc-digits a h = and-right (starts_with is_digit (decimal a)) (all is_digit (decimal a)) (digits-arc a h)

-- The parts of arcs with a dot between each two are those arcs.
split-arcs : (a : ℕ) (arcs : List ℕ) → all is_arc (a ∷ arcs) ≡ true → slice_split is_dot (dotted_text (a ∷ arcs)) ≡ map decimal (a ∷ arcs)
split-arcs a [] h = ap (slice_split is_dot) (append-nil (decimal a)) ∙ split-digits (decimal a) (arc-digits a (and-left (is_arc a) true h))
split-arcs a (b ∷ arcs) h =
    split-dot (decimal a) (dotted_text (b ∷ arcs)) (arc-digits a (and-left (is_arc a) (all is_arc (b ∷ arcs)) h))
    ∙ ap (λ l. decimal a ∷ l) (split-arcs b arcs (and-right (is_arc a) (all is_arc (b ∷ arcs)) h))

no_arcs : {P : Type 0} → false ≡ true → P
no_arcs e = cc e

-- The text of an object identifier in JER has its arcs.
pub dotted-read : (arcs : List ℕ) → all is_arc arcs ≡ true → is_object_identifier arcs ≡ true → arc_numbers (slice_split (λ c. c == 46) (dotted_text arcs)) ≡ Some arcs
dotted-read [] h k = no_arcs k
dotted-read (a ∷ arcs) h k = ap arc_numbers (split-arcs a arcs h) ∙ arcs-read (a ∷ arcs) h

-- The values in braces that the text of an object identifier in AVN is read as have its arcs.
pub braced-read : (arcs : List ℕ) → all is_arc arcs ≡ true → braced_arcs (arc_trees arcs) ≡ Ok arcs
braced-read [] h = refl
braced-read (a ∷ arcs) h =
    ap (λ o. arc_before (arc_or (decimal a) o) (braced_arcs (arc_trees arcs))) (arc-read a (and-left (is_arc a) (all is_arc arcs) h))
    ∙ ap (arc_before (Ok a)) (braced-read arcs (and-right (is_arc a) (all is_arc arcs) h))
