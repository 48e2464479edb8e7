-- Differences come in order, each within the nodes of the shape.
use Rattle.std.proofs.Common.{◌≡◌, subst, arith, ℕ, zero, suc, length, get_or, ◌+◌, ◌<◌, ◌≤◌, List, [], ◌∷◌, ◌++◌, Option, Some, None}
use Rattle.std.specs.List.{slice_get}
use Rattle.asn_model.specs.Shape.{Shape, Fields, FieldAdditions, Alternatives, AlternativeAdditions}
use Rattle.asn_growth.specs.Differences.{Ascends, IsPlaceBelow, added_alternative_differences, added_field_differences, alternative_differences, differences_of, field_differences, growth_of, here_or}
use Rattle.asn_growth.specs.Parts.{added_alternative_nodes, added_alternatives, added_field_nodes, added_fields, alternative_nodes, content, field_nodes, node_count, root_alternatives, root_fields}
use Rattle.asn_growth.specs.Reasons.{reason_of}
use Rattle.asn_growth.specs.declared.reasons.Reason.{Reason}

wider : (ds : List (ℕ × Reason)) (a b c e : ℕ) → a ≤ b → c ≤ e → Ascends b c ds → Ascends a e ds
wider [] a b c e h k x = tt
wider (d ∷ ds) a b c e h k x = (omega (arith, h, x.0), omega (arith, k, x.1), wider ds (suc d.0) (suc d.0) c e (omega arith) k x.2)

pub ascends-append : (ds es : List (ℕ × Reason)) (a b c e : ℕ) → a ≤ b → b ≤ c → c ≤ e → Ascends a b ds → Ascends c e es → Ascends a e (ds ++ es)
ascends-append [] es a b c e h k l x y = wider es a c e e (omega (arith, h, k)) (omega arith) y
ascends-append (d ∷ ds) es a b c e h k l x y = (x.0, omega (arith, k, l, x.1), ascends-append ds es (suc d.0) b c e (omega (arith, x.1)) k l x.2 y)

ascends-here : (place end : ℕ) (r : Option Reason) (below : List (ℕ × Reason)) → place < end → Ascends (place + 1) end below → Ascends place end (here_or place r below)
ascends-here place end (Some r) below h x = (omega arith, h, tt)
ascends-here place end None below h x = wider below place (place + 1) end end (omega arith) (omega arith) x

one-more : (place n : ℕ) (ds : List (ℕ × Reason)) → Ascends (place + 1) (place + 1 + n) ds → Ascends (place + 1) (place + (1 + n)) ds
one-more place n ds x = wider ds (place + 1) (place + 1) (place + 1 + n) (place + (1 + n)) (omega arith) (omega arith) x

mutual
  pub ascends : (s t : Shape) (place : ℕ) → Ascends place (place + node_count s) (differences_of s t place)
  ascends (Shape.seq kind fs added) t place =
      ascends-here place _ (reason_of (Shape.seq kind fs added) t) _ (omega arith)
      (ascends-append (field_differences fs (root_fields t) (place + 1)) (added_field_differences added (added_fields t) (place + 1 + field_nodes fs)) (place + 1) (place + 1 + field_nodes fs) (place + 1 + field_nodes fs) (place + (1 + (field_nodes fs + added_field_nodes added)))
      (omega arith) (omega arith) (omega arith) (ascends-fields fs (root_fields t) (place + 1))
      (wider (added_field_differences added (added_fields t) (place + 1 + field_nodes fs)) (place + 1 + field_nodes fs) (place + 1 + field_nodes fs) (place + 1 + field_nodes fs + added_field_nodes added) (place + (1 + (field_nodes fs + added_field_nodes added))) (omega arith) (omega arith)
      (ascends-added_fields added (added_fields t) (place + 1 + field_nodes fs))))
  ascends (Shape.list_of s) t place = ascends-here place _ (reason_of (Shape.list_of s) t) _ (omega arith) (one-more place (node_count s) _ (ascends s (content t) (place + 1)))
  ascends (Shape.set_of s) t place = ascends-here place _ (reason_of (Shape.set_of s) t) _ (omega arith) (one-more place (node_count s) _ (ascends s (content t) (place + 1)))
  ascends (Shape.table s) t place = ascends-here place _ (reason_of (Shape.table s) t) _ (omega arith) (one-more place (node_count s) _ (ascends s (content t) (place + 1)))
  ascends (Shape.choice alts added) t place =
      ascends-here place _ (reason_of (Shape.choice alts added) t) _ (omega arith)
      (ascends-append (alternative_differences alts (root_alternatives t) (place + 1)) (added_alternative_differences added (added_alternatives t) (place + 1 + alternative_nodes alts)) (place + 1) (place + 1 + alternative_nodes alts) (place + 1 + alternative_nodes alts) (place + (1 + (alternative_nodes alts + added_alternative_nodes added)))
      (omega arith) (omega arith) (omega arith) (ascends-alternatives alts (root_alternatives t) (place + 1))
      (wider (added_alternative_differences added (added_alternatives t) (place + 1 + alternative_nodes alts)) (place + 1 + alternative_nodes alts) (place + 1 + alternative_nodes alts) (place + 1 + alternative_nodes alts + added_alternative_nodes added) (place + (1 + (alternative_nodes alts + added_alternative_nodes added))) (omega arith) (omega arith)
      (ascends-added_alternatives added (added_alternatives t) (place + 1 + alternative_nodes alts))))
  ascends (Shape.loop s) t place = ascends-here place _ (reason_of (Shape.loop s) t) _ (omega arith) (one-more place (node_count s) _ (ascends s (content t) (place + 1)))
  ascends s t place = ascends-here place (place + 1) (reason_of s t) [] (omega arith) tt

  ascends-fields : (fs gs : Fields) (place : ℕ) → Ascends place (place + field_nodes fs) (field_differences fs gs place)
  ascends-fields Fields.no_fields gs place = tt
  ascends-fields (Fields.field n t p s fs) Fields.no_fields place = tt
  ascends-fields (Fields.field n t p s fs) (Fields.field m u q r gs) place =
      ascends-append (differences_of s r place) (field_differences fs gs (place + node_count s)) place (place + node_count s) (place + node_count s) (place + (node_count s + field_nodes fs)) (omega arith) (omega arith) (omega arith) (ascends s r place)
      (wider (field_differences fs gs (place + node_count s)) (place + node_count s) (place + node_count s) (place + node_count s + field_nodes fs) (place + (node_count s + field_nodes fs)) (omega arith) (omega arith) (ascends-fields fs gs (place + node_count s)))

  ascends-added_fields : (added : FieldAdditions) (gs : Fields) (place : ℕ) → Ascends place (place + added_field_nodes added) (added_field_differences added gs place)
  ascends-added_fields FieldAdditions.closed_fields gs place = tt
  ascends-added_fields (FieldAdditions.extended_fields fs) gs place = ascends-fields fs gs place

  ascends-alternatives : (alts bs : Alternatives) (place : ℕ) → Ascends place (place + alternative_nodes alts) (alternative_differences alts bs place)
  ascends-alternatives Alternatives.no_alternatives bs place = tt
  ascends-alternatives (Alternatives.alternative i t s alts) Alternatives.no_alternatives place = tt
  ascends-alternatives (Alternatives.alternative i t s alts) (Alternatives.alternative j u r bs) place =
      ascends-append (differences_of s r place) (alternative_differences alts bs (place + node_count s)) place (place + node_count s) (place + node_count s) (place + (node_count s + alternative_nodes alts)) (omega arith) (omega arith) (omega arith) (ascends s r place)
      (wider (alternative_differences alts bs (place + node_count s)) (place + node_count s) (place + node_count s) (place + node_count s + alternative_nodes alts) (place + (node_count s + alternative_nodes alts)) (omega arith) (omega arith) (ascends-alternatives alts bs (place + node_count s)))

  ascends-added_alternatives : (added : AlternativeAdditions) (bs : Alternatives) (place : ℕ) → Ascends place (place + added_alternative_nodes added) (added_alternative_differences added bs place)
  ascends-added_alternatives AlternativeAdditions.closed_alternatives bs place = tt
  ascends-added_alternatives (AlternativeAdditions.extended_alternatives alts) bs place = ascends-alternatives alts bs place

-- The place that is answered is one of the shape.
first-below : (ds : List (ℕ × Reason)) (least end : ℕ) → Ascends least end ds → IsPlaceBelow end (growth_of ds)
first-below [] least end h = tt
first-below (d ∷ ds) least end h = h.1

-- All differences come in order.
pub in-order : (s t : Shape) → Ascends 0 (node_count s) (differences_of s t 0)
in-order s t = wider (differences_of s t 0) 0 0 (0 + node_count s) (node_count s) (omega arith) (omega arith) (ascends s t 0)

pub answer-below : (s t : Shape) → IsPlaceBelow (node_count s) (growth_of (differences_of s t 0))
answer-below s t = first-below (differences_of s t 0) 0 (node_count s) (in-order s t)

pub below-of : (end : ℕ) (ds : List (ℕ × Reason)) (first : ℕ × Reason) → IsPlaceBelow end (growth_of ds) → slice_get ds 0 ≡ Some first → first.0 < end
below-of end [] first h f = cc f
below-of end (d ∷ ds) first h f = let same : d ≡ first = cc f in subst (λ (x : ℕ × Reason). x.0 < end) same h

pub all-below : (ds : List (ℕ × Reason)) (least end : ℕ) → Ascends least end ds → (k : ℕ) (d : ℕ × Reason) → k < length ds → (get_or ds k d).0 < end
all-below [] least end h k d l = absurd (omega (arith, l))
all-below (x ∷ xs) least end h zero d l = h.1
all-below (x ∷ xs) least end h (suc k) d l = all-below xs (suc x.0) end h.2 k d (omega (arith, l))
