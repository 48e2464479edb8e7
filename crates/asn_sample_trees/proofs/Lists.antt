-- A nest is what its list is.
use Rattle.std.proofs.Common.{◌≡◌, List, ◌∷◌, sym, ◌∙◌, ap, subst}
use Rattle.asn_fault.specs.declared.encode.EncodeError.{EncodeError}
use Rattle.asn_traits.specs.Notation.{Notation}
use Rattle.asn_traits.specs.Shape.{Shape}
use Rattle.asn_traits.specs.Tree.{Slot}
use Rattle.asn_traits.specs.Value.{Value, values, Fits}
use Rattle.asn_traits.specs.DecodesTo.{DecodesTo}
use Rattle.asn_coding.proofs.Steps.{loop_decodes}
use Rattle.asn_coding.specs.Writing.{Frame, Written, FailsToEncode}
use Rattle.asn_sample_trees.specs.Nest.{nest_shape, nest_step, nest_value}
use Rattle.asn_sample_trees.specs.declared.nest.Nest.{Nest}
use Rattle.asn_sample_trees.specs.declared.nest.Nest.TheOpen.{Nest-F}
use Rattle.asn_sample_trees.specs.declared.nest.Nest.TheViews.{out-Nest, roll-Nest}
use Rattle.asn_sample_trees.specs.declared.nest.Nest.TheFolds.{fold_out-Nest, fold-roll-Nest}
use Rattle.asn_coding.proofs.Collecting.{values-map}

value_out : (n : Nest) → nest_value n ≡ Value.list (values nest_value (out-Nest n).0.items)
value_out n = fold_out-Nest Value nest_step n ∙ ap Value.list (values-map (λ v. v) nest_value (out-Nest n).0.items)

value_roll : (layer : Nest-F Nest) → nest_value (roll-Nest layer) ≡ Value.list (values nest_value layer.0.items)
value_roll layer = fold-roll-Nest Value nest_step layer ∙ ap Value.list (values-map (λ v. v) nest_value layer.0.items)

-- What was written as a list of the nests in it is a nest.
pub nest_written : {S : Type 0} {holds : S → List Frame → Type 0} {n : Notation} {old new : S} (x : Nest) (xs : List Nest) → xs ≡ (out-Nest x).0.items → Written holds n (Shape.list_of nest_shape) (Value.list (values nest_value xs)) old new → Written holds n nest_shape (nest_value x) old new
nest_written {holds = holds} {n = n} {old = old} {new = new} x xs e w =
    subst (λ v. Written holds n nest_shape v old new) (ap (λ l. Value.list (values nest_value l)) e ∙ sym (value_out x)) (record { added = w.added; fit = Fits.fits_loop w.fit; writable = w.writable })

-- What cannot be written as that list cannot be written as a nest.
pub nest_refused : {n : Notation} {e : EncodeError} (x : Nest) (xs : List Nest) → xs ≡ (out-Nest x).0.items → FailsToEncode n (Value.list (values nest_value xs)) e → FailsToEncode n (nest_value x) e
nest_refused {n} {e} x xs is h = subst (λ v. FailsToEncode n v e) (ap (λ l. Value.list (values nest_value l)) is ∙ sym (value_out x)) h

-- What is read as a list of nests is a nest.
pub nest_answer : {n : Notation} {before after : List Slot} (layer : Nest-F Nest) → ((t : Slot) × (before ≡ t ∷ after) × DecodesTo n (Shape.list_of nest_shape) t (Value.list (values nest_value layer.0.items)))
    → (t : Slot) × (before ≡ t ∷ after) × DecodesTo n nest_shape t (nest_value (roll-Nest layer))
nest_answer {n} layer (t, was, says) = (t, was, subst (DecodesTo n nest_shape t) (sym (value_roll layer)) (loop_decodes (Shape.list_of (Shape.back 0)) t says))
