-- Normal forms.
use Rattle.std.proofs.Common.{◌≡◌, ℕ, List, [], ◌∷◌, cond, refl, sym, ap, ◌∙◌, inl, inr}
use Rattle.std.proofs.lemmas.Bool.{cases_Bool, cond-true, cond-false}
use Rattle.std.proofs.Common.{◌%◌, ◌==◌, take}
use Rattle.avn_grammar.specs.Normal.{normal, normal_trees, normal_fields, braced, arc_trees}
use Rattle.avn_grammar.specs.Octets.{packed, bit_text}
use Rattle.avn_grammar.specs.Tree.{Tree, Trees, Fields, boolean, null, integer, real, octet_string, bit_string, oid, enumerated, char_string, sequence, sequence_of, choice, no_trees, tree, no_fields, field, absent}
use Rattle.avn_grammar.specs.WellFormed.{is_number}
use Rattle.avn_grammar.proofs.Packing.{kept}
use Rattle.std.specs.Fmt.{decimal}

normal-braced : (fs : Fields) → normal_fields fs ≡ fs → normal (braced fs) ≡ braced fs
unfolding normal
normal-braced no_fields e = refl
normal-braced (field id t fs) e = ap braced e
normal-braced (absent id fs) e = ap braced e ∙ refl

arcs-normal : (arcs : List ℕ) → normal_trees (arc_trees arcs) ≡ arc_trees arcs
unfolding normal
arcs-normal [] = refl
arcs-normal (a ∷ arcs) = ap (tree (integer (decimal a))) (arcs-normal arcs)

bits-normal : (octets : List ℕ) (n : ℕ) → normal (normal (bit_string octets n)) ≡ normal (bit_string octets n)
unfolding normal
bits-normal octets n =
    let b = take n (bit_text octets) in
    let p = bit_string (packed b) n in
    let x = cond (n % 8 == 0) (octet_string octets) p in
    elim (cases_Bool (n == 0)) [
      | inl k ↦ ap normal (cond-true (n == 0) (octet_string []) x k) ∙ sym (cond-true (n == 0) (octet_string []) x k)
      | inr k ↦ elim (cases_Bool (n % 8 == 0)) [
        | inl q ↦ let e = cond-false (n == 0) (octet_string []) x k ∙ cond-true (n % 8 == 0) (octet_string octets) p q in ap normal e ∙ sym e
        | inr q ↦
            let e = cond-false (n == 0) (octet_string []) x k ∙ cond-false (n % 8 == 0) (octet_string octets) p q in
            let c = bit_string (packed (take n (bit_text (packed b)))) n in
            let f : normal p ≡ c = cond-false (n == 0) (octet_string []) (cond (n % 8 == 0) (octet_string (packed b)) c) k ∙ cond-false (n % 8 == 0) (octet_string (packed b)) c q in
            ap normal e ∙ f ∙ ap (λ y. bit_string (packed y) n) (kept n octets) ∙ sym e
      ]
    ]

mutual
  unfolding normal

  pub normal-normal : (t : Tree) → normal (normal t) ≡ normal t
  normal-normal (boolean b) = refl
  normal-normal null = refl
  normal-normal (integer n) = refl
  normal-normal (real n) = elim (cases_Bool (is_number n)) [
    | inl h ↦ ap normal (cond-true (is_number n) (integer n) (real n) h) ∙ sym (cond-true (is_number n) (integer n) (real n) h)
    | inr h ↦ ap normal (cond-false (is_number n) (integer n) (real n) h)
  ]
  normal-normal (octet_string octets) = refl
  normal-normal (bit_string octets n) = bits-normal octets n
  normal-normal (oid arcs) = ap sequence_of (arcs-normal arcs)
  normal-normal (enumerated id) = refl
  normal-normal (char_string text) = refl
  normal-normal (sequence fs) = normal-braced (normal_fields fs) (fields-normal fs)
  normal-normal (sequence_of ts) = ap sequence_of (trees-normal ts)
  normal-normal (choice id t) = ap (choice id) (normal-normal t)

  pub trees-normal : (ts : Trees) → normal_trees (normal_trees ts) ≡ normal_trees ts
  trees-normal no_trees = refl
  trees-normal (tree t ts) = ap (λ x. tree x (normal_trees (normal_trees ts))) (normal-normal t) ∙ ap (tree (normal t)) (trees-normal ts)

  pub fields-normal : (fs : Fields) → normal_fields (normal_fields fs) ≡ normal_fields fs
  fields-normal no_fields = refl
  fields-normal (field id t fs) = ap (λ x. field id x (normal_fields (normal_fields fs))) (normal-normal t) ∙ ap (field id (normal t)) (fields-normal fs)
  fields-normal (absent id fs) = fields-normal fs
