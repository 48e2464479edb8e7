-- What is seen of shapes.
use Rattle.std.proofs.Common.{◌≡◌, refl, ap, sym, ◌∙◌, arith, ◌==◌, ℕ, suc, false, List, [], ◌∷◌, length, Option, Some, None}
use Rattle.std.proofs.lemmas.Bool.{eqb-true}
use Rattle.std.proofs.lemmas.Bool.{false_from_ne_true}
use Rattle.std.specs.Global.{Box, Vec}
use Rattle.asn_model.specs.Shape.{Shape, Fields, Alternatives}
use Rattle.asn_model.specs.ShapeView.{alternative_step, alternative_views, field_step, field_views, shape_step, shape_view}
use Rattle.asn_model.specs.declared.shape_type.AlternativeShape.{AlternativeShape}
use Rattle.asn_model.specs.declared.shape_type.FieldShape.{FieldShape}
use Rattle.asn_model.specs.declared.shape_type.Shape as code
use Rattle.asn_model.specs.declared.shape_type.Shape.TheOpen as layer
use Rattle.asn_model.specs.declared.shape_type.Shape.TheVariants.{rolls-ListOf, rolls-SetOf, rolls-Table}
use Rattle.asn_model.specs.declared.shape_type.Shape.TheFolds.{fold-roll-Shape}
use Rattle.asn_model.proofs.Viewing.{added_alternative_views, choice_viewed}
use Rattle.asn_type_printing.specs.Names.{additions_view}
use Rattle.asn_type_printing.specs.Printed.{has_no_alternatives, has_no_fields}

same_additions : (added : Option (Vec AlternativeShape)) → added_alternative_views added ≡ additions_view added
same_additions None = refl
same_additions (Some alts) = refl

pub choice_seen : (alts : Vec AlternativeShape) (added : Option (Vec AlternativeShape)) → shape_view (code.Choice alts added) ≡ Shape.choice (alternative_views alts.items) (additions_view added)
choice_seen alts added = choice_viewed alts added ∙ ap (λ ad. Shape.choice (alternative_views alts.items) ad) (same_additions added)

-- A list is one of its elements.
pub list_seen : (b : Box code.Shape) → shape_view (code.ListOf b) ≡ Shape.list_of (shape_view b.value)
list_seen b = ap shape_view (sym (rolls-ListOf b)) ∙ fold-roll-Shape Shape (Alternatives → Alternatives) (Fields → Fields) shape_step alternative_step field_step (layer.ListOf b)

pub set_seen : (b : Box code.Shape) → shape_view (code.SetOf b) ≡ Shape.set_of (shape_view b.value)
set_seen b = ap shape_view (sym (rolls-SetOf b)) ∙ fold-roll-Shape Shape (Alternatives → Alternatives) (Fields → Fields) shape_step alternative_step field_step (layer.SetOf b)

pub table_seen : (b : Box code.Shape) → shape_view (code.Table b) ≡ Shape.table (shape_view b.value)
table_seen b = ap shape_view (sym (rolls-Table b)) ∙ fold-roll-Shape Shape (Alternatives → Alternatives) (Fields → Fields) shape_step alternative_step field_step (layer.Table b)

some_length : (n : ℕ) → false ≡ (suc n == 0)
some_length n = sym (false_from_ne_true (suc n == 0) (λ e. let z = eqb-true (suc n) 0 e in absurd (omega (arith, z))))

-- There are none in an empty list.
pub no_fields_seen : (fs : List FieldShape) → has_no_fields (field_views fs) ≡ (length fs == 0)
no_fields_seen [] = refl
no_fields_seen (f ∷ fs) = some_length (length fs)

pub no_alternatives_seen : (alts : List AlternativeShape) → has_no_alternatives (alternative_views alts) ≡ (length alts == 0)
no_alternatives_seen [] = refl
no_alternatives_seen (a ∷ alts) = some_length (length alts)
