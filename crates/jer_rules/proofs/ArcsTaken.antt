-- Arcs that are read one by one.
use Rattle.std.proofs.Common.{◌≡◌, refl, ap, sym, ◌∙◌, ℕ, ◌+◌, ◌<◌, List, [], ◌∷◌, ◌++◌, map, drop, length, Option, Some, None, Bor, append_assoc, add-one, arith}
use Rattle.std.specs.Prelude.{slice_index_or}
use Rattle.std.proofs.lemmas.List.{length-map}
use Rattle.std.proofs.Math.ListN.{get_or-map}
use Rattle.std.proofs.Math.Seq.{drop-cons}
use Rattle.asn_traits.specs.Arcs.{arc_number, arc_numbers, in_front}

-- The arcs with these in front.
abbrev pub arcs_after : List ℕ → Option (List ℕ) → Option (List ℕ)
arcs_after front None = None
arcs_after front (Some arcs) = Some (front ++ arcs)

-- None are in front at first.
pub none_before : (o : Option (List ℕ)) → o ≡ arcs_after [] o
none_before None = refl
none_before (Some arcs) = refl

one_before : (front : List ℕ) (a : ℕ) (o : Option (List ℕ)) → arcs_after front (in_front (Some a) o) ≡ arcs_after (front ++ a ∷ []) o
one_before front a None = refl
one_before front a (Some arcs) = ap Some (sym (append_assoc front (a ∷ []) arcs))

-- A text that is borrowed.
abbrev Part : Type 0
Part = Bor (List ℕ)

abbrev texts : List Part → List (List ℕ)
texts parts = map (λ (x : Part). x.now) parts

next : (parts : List Part) (i : ℕ) (d : Part) → i < length parts → arc_numbers (drop i (texts parts)) ≡ in_front (arc_number (slice_index_or parts i d).now) (arc_numbers (drop (i + 1) (texts parts)))
next parts i d h =
    let within : i < length (texts parts) = omega (arith, h, length-map parts (λ (x : Part). x.now)) in
    ap arc_numbers (drop-cons (texts parts) i d.now within ∙ ap (λ k. slice_index_or (texts parts) i d.now ∷ drop k (texts parts)) (sym (add-one i)))
    ∙ ap (λ text. in_front (arc_number text) (arc_numbers (drop (i + 1) (texts parts)))) (get_or-map (λ (x : Part). x.now) parts i d)

-- One arc more.
pub arc_more : (front : List ℕ) (parts : List Part) (i a : ℕ) (d : Part) → i < length parts → Some a ≡ arc_number (slice_index_or parts i d).now
    → arcs_after front (arc_numbers (drop i (texts parts))) ≡ arcs_after (front ++ a ∷ []) (arc_numbers (drop (i + 1) (texts parts)))
arc_more front parts i a d h e =
    ap (arcs_after front) (next parts i d h ∙ ap (λ o. in_front o (arc_numbers (drop (i + 1) (texts parts)))) (sym e)) ∙ one_before front a (arc_numbers (drop (i + 1) (texts parts)))

-- A part that is no arc.
pub arc_none : (front : List ℕ) (parts : List Part) (i : ℕ) (d : Part) → i < length parts → None ≡ arc_number (slice_index_or parts i d).now → arcs_after front (arc_numbers (drop i (texts parts))) ≡ None
arc_none front parts i d h e = ap (arcs_after front) (next parts i d h ∙ ap (λ o. in_front o (arc_numbers (drop (i + 1) (texts parts)))) (sym e))
