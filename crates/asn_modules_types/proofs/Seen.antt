-- Types as they are held, by their parts.
use Rattle.std.proofs.Common.{◌≡◌, refl, sym, ap, ◌∙◌, ℕ, List, [], ◌∷◌, ◌++◌, map, false, Option, Some, None, option_map}
use Rattle.asn_expansion.specs.Expansion.{of_both}
use Rattle.asn_lexer.specs.declared.token.Token.{Token}
use Rattle.asn_model.specs.Shape.{Alternatives, Fields, Presence, SeqKind, Shape}
use Rattle.asn_model.specs.ShapeView.{alternative_step, field_step, shape_step, shape_view}
use Rattle.asn_model.specs.declared.shape_type.Shape.TheFolds.{fold-roll-Shape}
use Rattle.asn_model.specs.declared.shape_type.Shape.TheOpen as layer
use Rattle.asn_model.specs.declared.shape_type.Shape.TheVariants.{Back, rolls-Back}
use Rattle.asn_modules_grammar.specs.notation.Notation as spec
use Rattle.asn_modules_grammar.specs.notation.View.{base_step, component_step, extension_step, member_step, members_step, notation_step, notation_view}
use Rattle.asn_modules_grammar.specs.declared.notation.notation.Base.TheFolds.{fold_out-Notation}
use Rattle.asn_modules_grammar.specs.declared.notation.notation.Notation.{Notation, out-Notation}
use Rattle.asn_modules_grammar.specs.declared.notation.notation.Presence as stated
use Rattle.asn_modules_reader.specs.Views.{base_view}
use Rattle.asn_modules_types.specs.Scopes.{Scope, name_in}
use Rattle.asn_modules_types.specs.Sizes.{sized}
use Rattle.asn_modules_types.specs.Known.{known_parts}
use Rattle.asn_modules_types.specs.Linked.{is_numbered, no_roots}
use Rattle.asn_modules_types.specs.Lists.{all_known, front}
use Rattle.asn_modules_types.specs.Types.{Part, Place, Roots, base_roots, base_shape, component_shape, included, notation_roots, notation_shape, of_kind, part_of, presence_of}

-- The shape of a number.
pub back_viewed : (n : ℕ) → shape_view (Back n) ≡ Shape.back n
back_viewed n = ap shape_view (sym (rolls-Back n)) ∙ fold-roll-Shape Shape (Alternatives → Alternatives) (Fields → Fields) shape_step alternative_step field_step (layer.Back n)

-- A type, by what it holds.
pub notation_out : (n : Notation) → notation_view n ≡ spec.notation (out-Notation n).tags.items (base_view (out-Notation n).base) (out-Notation n).sizes.items
notation_out n = fold_out-Notation spec.Base spec.Member spec.Member (List spec.Member) (List spec.Member) spec.Notation base_step component_step member_step extension_step members_step notation_step n

-- The shape of a type, by that of what its sizes constrain.
pub notation_made : (roots : Roots) (s : Scope) (n : Notation) (inner r : Shape) → inner ≡ base_shape roots s (base_view (out-Notation n).base) → r ≡ sized s (out-Notation n).sizes.items inner → r ≡ notation_shape roots s (notation_view n)
notation_made roots s n inner r b e = e ∙ ap (sized s (out-Notation n).sizes.items) b ∙ ap (notation_shape roots s) (sym (notation_out n))

-- What COMPONENTS OF stands for doesn't matter for a type without parts and items.
pub unit_same : (roots : Roots) (s : Scope) (b : spec.Base) → is_numbered b ≡ false → base_shape no_roots s b ≡ base_shape roots s b
unit_same roots s (spec.leaf l) e = refl
unit_same roots s (spec.integer ns) e = refl
unit_same roots s (spec.bit_string ns) e = refl
unit_same roots s (spec.enumerated items) e = cc e
unit_same roots s (spec.members kind ms) e = cc e
unit_same roots s (spec.list_of kind n) e = cc e
unit_same roots s (spec.choice ms) e = cc e
unit_same roots s (spec.instance_of home name ns) e = cc
unit_same roots s (spec.reference home name) e = refl

-- What COMPONENTS OF a type is, by what the type holds.
pub roots_made : (roots : Roots) (s : Scope) (place : Place) (n : Notation) (o : Option (List Part)) → o ≡ base_roots roots s place (base_view (out-Notation n).base) → o ≡ notation_roots roots s place (notation_view n)
roots_made roots s place n o e = e ∙ ap (notation_roots roots s place) (sym (notation_out n))

-- A type of the kind of the one around it is included, and no other one.
pub kind_included : (outer inner : SeqKind) (ps : Option (List Part)) → outer ≡ inner → ps ≡ of_kind outer inner ps
kind_included SeqKind.sequence SeqKind.sequence ps e = refl
kind_included SeqKind.set SeqKind.set ps e = refl
kind_included SeqKind.sequence SeqKind.set ps e = cc e
kind_included SeqKind.set SeqKind.sequence ps e = cc e

-- The part that a component is.
module _ (roots : Roots) (s : Scope) (place : Place) (t : Token) (n : spec.Notation) (p : stated.Presence) (whole shape : Shape) (known : whole ≡ notation_shape roots s n) (is : shape ≡ component_shape s.copied p whole) where
  part_known : (o : Option Part) → o ≡ part_of s place.grouped t n p shape → of_both (λ x xs. x ∷ xs) o (Some []) ≡ known_parts roots s place (spec.component t n p ∷ [])
  part_known o e = ap (λ x. of_both (λ y ys. y ∷ ys) x (Some [])) (e ∙ ap (part_of s place.grouped t n p) (is ∙ ap (component_shape s.copied p) known))

  pub part_made : (name : List ℕ) (presence : Presence) → Some presence ≡ presence_of s place.grouped n shape p → name ≡ name_in s.text t → Some (record { name = name; presence = presence; shape = shape } ∷ []) ≡ known_parts roots s place (spec.component t n p ∷ [])
  part_made name presence there named =
      part_known (Some (record { name = name; presence = presence; shape = shape }))
      (ap (option_map (λ q. record { name = name; presence = q; shape = shape })) there ∙ ap (λ x. option_map (λ q. record { name = x; presence = q; shape = shape }) (presence_of s place.grouped n shape p)) named)

  -- One whose DEFAULT isn't understood is none.
  pub part_missed : None ≡ presence_of s place.grouped n shape p → None ≡ known_parts roots s place (spec.component t n p ∷ [])
  part_missed none = part_known None (ap (option_map (λ q. record { name = name_in s.text t; presence = q; shape = shape })) none)

-- What COMPONENTS OF is.
pub included_known : (roots : Roots) (s : Scope) (place : Place) (n : spec.Notation) → notation_roots roots s place n ≡ known_parts roots s place (spec.components_of n ∷ [])
included_known roots s place n = by (notation_roots roots s place n)
  where
    all_of : (ps : List Part) → Some ps ≡ all_known (front (map (λ p. Some (Some p)) ps ++ []))
    all_of [] = refl
    all_of (p ∷ ps) = ap (option_map (λ qs. p ∷ qs)) (all_of ps)

    by : (o : Option (List Part)) → o ≡ all_known (front (included o ++ []))
    by None = refl
    by (Some ps) = all_of ps
