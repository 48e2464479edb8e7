-- The types of a list.
use Rattle.std.proofs.Common.{◌≡◌, refl, ap, sym, ◌∙◌, arith, ℕ, suc, zero, ◌+◌, ◌<◌, List, [], ◌∷◌, ◌++◌, map, take, get_or, length, Bool, true, false, ◌&&◌, nat_lt, Option, String, option_map, string_bytes}
use Rattle.std.proofs.lemmas.Bool.{lt-ltb}
use Rattle.std.proofs.lemmas.List.{take_more}
use Rattle.std.specs.Global.{Global, Vec}
use Rattle.asn_linked_types.specs.Linked.{are_linked, are_readable_among}
use Rattle.asn_linked_types.specs.declared.limits.TheConstants.{TYPE_LIMIT}
use Rattle.asn_model.specs.Readable.{is_readable_in}
use Rattle.asn_model.specs.Shape as spec
use Rattle.asn_model.specs.ShapeView.{alternative_step, field_step, shape_step, shape_view}
use Rattle.asn_model.specs.declared.shape_type.Shape.{Shape}
use Rattle.asn_model.specs.declared.shape_type.Shape.TheFolds.{fold-roll-Shape}
use Rattle.asn_model.specs.declared.shape_type.Shape.TheOpen as layer
use Rattle.asn_model.specs.declared.shape_type.Shape.TheVariants.{Enum, rolls-Enum}
use Rattle.asn_model.proofs.Readables.{and-both, and-left, and-right}
use Rattle.asn_model.proofs.ShapeNames.{and-false}

among-push : (count : ℕ) (ss : List Shape) (s : Shape) → are_readable_among count (map shape_view ss) ≡ true → is_readable_in count count (shape_view s) ≡ true → are_readable_among count (map shape_view (ss ++ s ∷ [])) ≡ true
among-push count [] s e h = and-both _ _ h refl
among-push count (t ∷ ss) s e h =
    let first = is_readable_in count count (shape_view t) in
    and-both _ _ (and-left first (are_readable_among count (map shape_view ss)) e) (among-push count ss s (and-right first (are_readable_among count (map shape_view ss)) e) h)

-- An ENUMERATED, by its items.
pub enum-viewed : (items : Vec (String Global)) (added : Option (Vec (String Global))) → shape_view (Enum items added) ≡ spec.Shape.enum (map string_bytes items.items) (option_map (λ v. map string_bytes v.items) added)
enum-viewed items added =
    ap shape_view (sym (rolls-Enum items added)) ∙ fold-roll-Shape spec.Shape (spec.Alternatives → spec.Alternatives) (spec.Fields → spec.Fields) shape_step alternative_step field_step (layer.Enum items added)

-- One more type.
pub among-more : (count : ℕ) (ss : List Shape) (i : ℕ) (s : Shape) → i < length ss → are_readable_among count (map shape_view (take i ss)) ≡ true → is_readable_in count count (shape_view (get_or ss i s)) ≡ true
    → are_readable_among count (map shape_view (take (i + 1) ss)) ≡ true
among-more count ss i s l e h = ap (λ x. are_readable_among count (map shape_view x)) (take_more ss i s l) ∙ among-push count (take i ss) (get_or ss i s) e h

-- One type that can't be read.
pub among-other : (count : ℕ) (ss : List Shape) (i : ℕ) (s : Shape) → i < length ss → is_readable_in count count (shape_view (get_or ss i s)) ≡ false → are_readable_among count (map shape_view ss) ≡ false
among-other count [] i s l h = absurd (omega (arith, l))
among-other count (t ∷ ss) zero s l h = ap (λ b. b && are_readable_among count (map shape_view ss)) h
among-other count (t ∷ ss) (suc i) s l h = and-false (is_readable_in count count (shape_view t)) (are_readable_among count (map shape_view ss)) (among-other count ss i s (omega (arith, l)) h)

-- Few types that can be read are linked.
pub linked-is : (types : List spec.Shape) (count : ℕ) → count ≡ length types → count < TYPE_LIMIT → are_readable_among count types ≡ are_linked types
linked-is types count e h =
    let few : nat_lt (length types) TYPE_LIMIT ≡ true = lt-ltb (length types) TYPE_LIMIT (omega (arith, e, h)) in
    ap (λ n. are_readable_among n types) e ∙ ap (λ b. b && are_readable_among (length types) types) (sym few)
