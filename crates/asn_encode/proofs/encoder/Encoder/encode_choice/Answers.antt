use Rattle.std.proofs.Common.{inr, inl, refl, subst, ap}
use Rattle.std.proofs.lemmas.Result.{err_from_is_err_and, on_ok_weaker}
use Rattle.asn_coding.specs.Writing.{close, as_choice, Maps}
use Rattle.asn_model.specs.Shape.{all_alternatives}
use Rattle.asn_coding.proofs.Choices.{all_tags, name_found, known, known_apart, known_some, unknown_none}
use Rattle.asn_encode.proofs.encoder.Encoder.encode_choice.Goals as goal

pub returns-in_default-clause-refused : goal.returns-in_default-clause-refused
returns-in_default-clause-refused g c =
    let both = all_tags _ _ _ g.C.Choice.alternatives g.C.Choice.added c.variant_table.ensures c.extended_variant_table.ensures c.listed-added.ensures in
    let f = name_found (all_alternatives g.C.Choice.alternatives g.C.Choice.added) c.args.tag _ _ _ both c.identifier_table.ensures c.in_default.ensures in
    inr (inl (ap (λ e. e.kind) c.variant_not_in_choice.ensures, unknown_none _ f))

pub returns-in_err-_answer-clause-refused : goal.returns-in_err-_answer-clause-refused
returns-in_err-_answer-clause-refused g c =
    let p = err_from_is_err_and c.from_residual-in_err-_answer.result c.from_residual-in_err-_answer.ensures.1 in
    rw (p.1, p.2) (inr (inr (record { start = c.open_frame.new.self; end = c.encode_fn.new.arg2; opened = c.in_ok-open_frame.ensures.opened; answered = record { shown = _; shows = refl; left = _; met = c.in_err-_answer.ensures; leaves = refl }; left = tt })))

pub returns-clause-written : goal.returns-clause-written
returns-clause-written g c =
    let both = all_tags _ _ _ g.C.Choice.alternatives g.C.Choice.added c.variant_table.ensures c.extended_variant_table.ensures c.listed-added.ensures in
    let f = name_found (all_alternatives g.C.Choice.alternatives g.C.Choice.added) c.args.tag _ _ _ both c.identifier_table.ensures c.in-Some.ensures in
    let returned = c.requires.returns_tag _ _ _ c.in_ok-_answer.ensures in
    on_ok_weaker c.close_choice.result (λ e. known c.in-Some.name.now _ f (λ a is. rw (← returned) (record {
      start = c.open_frame.new.self;
      end = c.encode_fn.new.arg2;
      opened = c.in_ok-open_frame.ensures.opened;
      answered = record { shown = _; shows = refl; left = _; met = c.in_ok-_answer.ensures; leaves = refl };
      left = subst (λ i. Maps g.Self.Encoder.holds (close (as_choice i)) c.encode_fn.new.arg2 c.close_choice.new.self) is e;
    }))) c.close_choice.ensures.closed

pub returns-clause-listed : goal.returns-clause-listed
returns-clause-listed g c =
    let both = all_tags _ _ _ g.C.Choice.alternatives g.C.Choice.added c.variant_table.ensures c.extended_variant_table.ensures c.listed-added.ensures in
    let f = name_found (all_alternatives g.C.Choice.alternatives g.C.Choice.added) c.args.tag _ _ _ both c.identifier_table.ensures c.in-Some.ensures in
    λ h. known_some c.in-Some.name.now _ f

pub returns-in_err-open_frame-clause-unlisted : goal.returns-in_err-open_frame-clause-unlisted
returns-in_err-open_frame-clause-unlisted g c =
    let both = all_tags _ _ _ g.C.Choice.alternatives g.C.Choice.added c.variant_table.ensures c.extended_variant_table.ensures c.listed-added.ensures in
    known_apart c.in-Some.name.now _ (name_found (all_alternatives g.C.Choice.alternatives g.C.Choice.added) c.args.tag _ _ _ both c.identifier_table.ensures c.in-Some.ensures)

pub returns-in_err-_answer-clause-unlisted : goal.returns-in_err-_answer-clause-unlisted
returns-in_err-_answer-clause-unlisted g c =
    let both = all_tags _ _ _ g.C.Choice.alternatives g.C.Choice.added c.variant_table.ensures c.extended_variant_table.ensures c.listed-added.ensures in
    known_apart c.in-Some.name.now _ (name_found (all_alternatives g.C.Choice.alternatives g.C.Choice.added) c.args.tag _ _ _ both c.identifier_table.ensures c.in-Some.ensures)

pub returns-clause-unlisted : goal.returns-clause-unlisted
returns-clause-unlisted g c =
    let both = all_tags _ _ _ g.C.Choice.alternatives g.C.Choice.added c.variant_table.ensures c.extended_variant_table.ensures c.listed-added.ensures in
    known_apart c.in-Some.name.now _ (name_found (all_alternatives g.C.Choice.alternatives g.C.Choice.added) c.args.tag _ _ _ both c.identifier_table.ensures c.in-Some.ensures)
