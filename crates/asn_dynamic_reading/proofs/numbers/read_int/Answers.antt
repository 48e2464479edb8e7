use Rattle.std.proofs.Common.{rules, arith, ap, refl, sym, ◌∙◌, subst, pos, inl, Ok, Err, Bool, if◌then◌else◌, ◌^◌}
use Rattle.std.proofs.lemmas.Int.{to_z-of_z}
use Rattle.std.specs.Int.{w128}
use Rattle.asn_core.specs.Numbers.{signed}
use Rattle.asn_model.specs.Range.{is_between}
use Rattle.asn_fault.specs.Failure.{Cause}
use Rattle.asn_dynamic_reading.specs.fitting.HeldValue.{IsHeldValue}
use Rattle.asn_model.specs.DecodesTo.{DecodesTo}
use Rattle.asn_model.specs.Leaf.{LeafFailure, codec_of}
use Rattle.asn_model.specs.Shape.{Shape}
use Rattle.asn_model.specs.Value.{Value}
use Rattle.asn_model.specs.declared.leaves.LeafKind.TheVariants.{Number}
use Rattle.asn_model.specs.declared.leaves.OwnedLeaf.TheVariants as got
use Rattle.asn_coding.proofs.LeafValues.{leaf_decodes, leaf_refused}
use Rattle.asn_dynamic_values.proofs.Views.{view-Int}
use Rattle.asn_dynamic_reading.proofs.IntLeaves.{int-said, int-refused, int-beyond}
use Rattle.asn_dynamic_reading.proofs.numbers.read_int.Goals as goal

pub returns-then-is_between-clause-answer : goal.returns-then-is_between-clause-answer
returns-then-is_between-clause-answer g c =
    let h = c.in_ok-number.ensures in
    let n = c.in-Number-Some in
    let s = Shape.int c.args.least (pos c.args.greatest) c.args.width in
    let k = signed n.number.negative n.number.magnitude in
    (h.0, h.1, subst (DecodesTo g.D.Decoder.notation s h.0) (sym (view-Int n.number)) (leaf_decodes s Number (Value.int k) h.0 _ _ refl (n.is ∙ ap got.Number n.field-0-is) h.3 (λ v e. int-said (codec_of g.D.Decoder.notation) c.args.least (pos c.args.greatest) k c.args.width v e (ap (λ z. is_between z (pos c.args.greatest) k) (sym (to_z-of_z w128 c.args.least (search (rules, arith)))) ∙ sym c.is_between.ensures ∙ c.if-is_between.true))))

pub returns-else-is_between-clause-answer : goal.returns-else-is_between-clause-answer
returns-else-is_between-clause-answer g c =
    let h = c.in_ok-number.ensures in
    let n = c.in-Number-Some in
    leaf_refused (Shape.int c.args.least (pos c.args.greatest) c.args.width) Number (Cause.integer_overflow c.args.width) _ h.0 _ _ _ _ _ refl (n.is ∙ ap got.Number n.field-0-is) h.1 h.3
    (λ v e. int-refused (codec_of g.D.Decoder.notation) c.args.least (pos c.args.greatest) (signed n.number.negative n.number.magnitude) c.args.width v e (ap (λ z. is_between z (pos c.args.greatest) (signed n.number.negative n.number.magnitude)) (sym (to_z-of_z w128 c.args.least (search (rules, arith)))) ∙ sym c.is_between.ensures ∙ c.if-is_between.false)) c.integer_overflow.ensures (inl c.codec.ensures)

pub returns-in-Number-None-clause-answer : goal.returns-in-Number-None-clause-answer
returns-in-Number-None-clause-answer g c =
    let h = c.in_ok-number.ensures in
    let n = c.in-Number-None in
    leaf_refused (Shape.int c.args.least (pos c.args.greatest) c.args.width) Number (Cause.integer_overflow c.args.width) _ h.0 _ _ _ _ _ refl (n.is ∙ ap got.Number n.field-0-is) h.1 h.3
    (λ v e. int-refused (codec_of g.D.Decoder.notation) c.args.least (pos c.args.greatest) (signed e.0 e.1) c.args.width v e.2 (int-beyond c.args.least c.args.greatest e.0 e.1 (search (rules, arith)) (search (rules, arith)) e.3)) c.integer_overflow-in-Number-None.ensures (inl c.codec-in-Number-None.ensures)

pub returns-then-is_between-clause-held : goal.returns-then-is_between-clause-held
returns-then-is_between-clause-held g c = subst IsHeldValue (sym (view-Int c.in-Number-Some.number)) tt
