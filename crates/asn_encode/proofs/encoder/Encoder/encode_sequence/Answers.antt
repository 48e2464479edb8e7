use Rattle.std.proofs.Common.{inr, refl, subst}
use Rattle.std.proofs.lemmas.Result.{err_from_is_err_and, on_ok_weaker}
use Rattle.asn_coding.proofs.Scopes.{all_table_names}
use Rattle.asn_coding.specs.Writing.{close, as_members, Maps}
use Rattle.asn_encode.proofs.encoder.Encoder.encode_sequence.Goals as goal

pub returns-in_err-encoder_scope-clause-refused : goal.returns-in_err-encoder_scope-clause-refused
returns-in_err-encoder_scope-clause-refused g c =
    let p = err_from_is_err_and c.from_residual-in_err-encoder_scope.result c.from_residual-in_err-encoder_scope.ensures.1 in
    rw (p.1, p.2) (inr (record { start = c.open_frame.new.self; end = c.encoder_scope.new.arg2; opened = c.in_ok-open_frame.ensures.opened; answered = record { shown = _; shows = refl; left = _; met = c.in_err-encoder_scope.ensures; leaves = refl }; left = tt }))

pub returns-clause-written : goal.returns-clause-written
returns-clause-written g c =
    let t = g.C.Constructed in
    let names = all_table_names (λ t. t.items.now) _ _ _ t.fields t.added c.field_table.ensures c.extended_field_table.ensures c.listed_fields.ensures in
    on_ok_weaker c.close_fields.result (λ e. record { start = c.open_frame.new.self; end = c.encoder_scope.new.arg2; opened = c.in_ok-open_frame.ensures.opened; answered = record { shown = _; shows = refl; left = _; met = c.in_ok-encoder_scope.ensures; leaves = refl }; left = subst (λ ns. Maps g.Self.Encoder.holds (close (as_members ns)) c.encoder_scope.new.arg2 c.close_fields.new.self) names e }) c.close_fields.ensures.closed
