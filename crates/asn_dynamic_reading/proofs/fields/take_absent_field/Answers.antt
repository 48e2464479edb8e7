use Rattle.std.proofs.Common.{sym, ap, refl, subst}
use Rattle.asn_dynamic_reading.specs.Fields.{AbsenceAnswer}
use Rattle.asn_model.specs.Shape.{Presence}
use Rattle.asn_model.specs.ShapeView.{plain_view, presence_view}
use Rattle.asn_parts.specs.Parts.{standing_of}
use Rattle.asn_dynamic_reading.proofs.fields.take_absent_field.Goals as goal

pub returns-in-Required : goal.returns-in-Required
returns-in-Required g c =
    subst (λ p. AbsenceAnswer g.D.Decoder.notation p (standing_of c.args.is_addition) c.args.name.now (g.D.Decoder.pending c.args.decoder.now) c.take_absent_required.result (g.D.Decoder.pending c.take_absent_required.new.decoder)) (sym (ap presence_view c.in-Required.is)) c.take_absent_required.ensures

pub returns-in-Optional : goal.returns-in-Optional
returns-in-Optional g c =
    subst (λ p. AbsenceAnswer g.D.Decoder.notation p (standing_of c.args.is_addition) c.args.name.now (g.D.Decoder.pending c.args.decoder.now) c.take_absent_optional.result (g.D.Decoder.pending c.take_absent_optional.new.decoder)) (sym (ap presence_view c.in-Optional.is))
    (c.take_absent_optional.ensures Presence.optional (standing_of c.args.is_addition) refl)

pub returns-in-Default : goal.returns-in-Default
returns-in-Default g c =
    subst (λ p. AbsenceAnswer g.D.Decoder.notation p (standing_of c.args.is_addition) c.args.name.now (g.D.Decoder.pending c.args.decoder.now) c.take_absent_optional-in-Default.result (g.D.Decoder.pending c.take_absent_optional-in-Default.new.decoder)) (sym (ap presence_view c.in-Default.is))
    (c.take_absent_optional-in-Default.ensures (Presence.default (plain_view c.in-Default.field-0)) (standing_of c.args.is_addition) refl)
