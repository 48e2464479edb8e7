use Rattle.std.proofs.Common.{subst}
use Rattle.std.proofs.lemmas.Result.{err_from_is_err_and, on_ok_weaker}
use Rattle.asn_model.specs.Shape.{all_fields, field_names}
use Rattle.asn_coding.specs.Writing.{Maps, as_members, close}
use Rattle.asn_coding.proofs.Filling.{refuse_members}
use Rattle.asn_coding.proofs.Passing.{adds_fields, refuses_adding}
use Rattle.asn_coding.proofs.Scopes.{all_table_names}
use Rattle.asn_traits.proofs.Framed.{framed_fields}
use Rattle.asn_traits.proofs.sequence.write_sequence.Goals as goal

pub returns-in_err-write_fields-clause-refused : goal.returns-in_err-write_fields-clause-refused
returns-in_err-write_fields-clause-refused g c =
    let t = g.T.SequenceFields in
    let p = err_from_is_err_and c.from_residual-in_err-write_fields.result c.from_residual-in_err-write_fields.ensures.1 in
    rw (p.1, p.2) (refuse_members (field_names (all_fields t.fields t.added)) (refuses_adding c.in_err-write_fields.ensures.refused))

pub returns-clause-written : goal.returns-clause-written
returns-clause-written g c =
    let t = g.T.SequenceFields in
    let names = all_table_names (λ t. t.now) _ _ _ t.fields t.added c.listed.ensures c.listed_added.ensures c.listed-additions.ensures in
    on_ok_weaker c.close_fields.result
    (λ e. framed_fields _ g.T.Kind.FieldsKind.seq_kind t.fields t.added (t.slots c.args.value.now) c.in_ok-open_frame.ensures.opened (adds_fields c.in_ok-write_fields.ensures.written)
    (subst (λ ns. Maps g.E.Encoder.holds (close (as_members ns)) c.write_fields.new.encoder c.close_fields.new.self) names e)) c.close_fields.ensures.closed
