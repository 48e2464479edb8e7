use Rattle.std.proofs.Common.{◌≡◌, Some, [], ◌∷◌, sym, string_bytes}
use Rattle.std.proofs.lemmas.Result.{err_from_is_err_and, IfOk-weaker, IfErr-weaker}
use Rattle.asn_slots.proofs.Trees.{value_kept}
use Rattle.asn_coding.specs.Writing.{FailsToEncode}
use Rattle.asn_coding.proofs.Whole.{write_complete}
use Rattle.asn_dynamic_values.specs.DynView.{dyn_value}
use Rattle.asn_model.specs.Canonical.{canonical_text}
use Rattle.asn_model.specs.Notation.{Notation}
use Rattle.jer_rules.specs.Holding.{Holds}
use Rattle.asn_dynamic.proofs.writing.write_jer.Goals as goal

pub returns-in_err-write_value-clause-complete : goal.returns-in_err-write_value-clause-complete
returns-in_err-write_value-clause-complete c =
    let p = err_from_is_err_and c.from_residual.result c.from_residual.ensures.1 in
    λ w. rw (p.1, p.2) (write_complete tt c.in_err-write_value.ensures.refused w)

pub returns-clause-text : goal.returns-clause-text
returns-clause-text c =
    let held = c.in_ok-write_value.ensures.written.added ([] ∷ []) c.new-encoder.ensures in
    let v = dyn_value c.args.value.now in
    IfOk-weaker c.to_string.result _ _ (λ s text. let same : Some (canonical_text Notation.jer v) ≡ Some (string_bytes s) = text (Some v ∷ []) [] held in sym (cc same)) c.to_string.ensures.text

pub returns-clause-reads_back : goal.returns-clause-reads_back
returns-clause-reads_back c =
    let held = c.in_ok-write_value.ensures.written.added ([] ∷ []) c.new-encoder.ensures in
    IfOk-weaker c.to_string.result _ _ (λ s back. back (Some (dyn_value c.args.value.now) ∷ []) [] held) c.to_string.ensures.reads_back

pub returns-clause-refused : goal.returns-clause-refused
returns-clause-refused c =
    let held = c.in_ok-write_value.ensures.written.added ([] ∷ []) c.new-encoder.ensures in
    IfErr-weaker c.to_string.result _ _ (λ e cause. FailsToEncode.no_memory (value_kept (Holds c.write_value.new.encoder) _ held cause)) c.to_string.ensures.refused

pub returns-clause-complete : goal.returns-clause-complete
returns-clause-complete c =
    let held = c.in_ok-write_value.ensures.written.added ([] ∷ []) c.new-encoder.ensures in
    λ w. IfErr-weaker c.to_string.result _ _ (λ e cause. value_kept (Holds c.write_value.new.encoder) _ held cause) c.to_string.ensures.refused
