use Rattle.std.proofs.Common.{◌≡◌, Some, [], ◌∷◌, sym, string_bytes}
use Rattle.std.proofs.lemmas.Result.{err_from_is_err_and, IfOk-weaker, IfErr-weaker}
use Rattle.asn_slots.proofs.Trees.{value_kept}
use Rattle.asn_traits.specs.Canonical.{canonical_text}
use Rattle.asn_traits.specs.Notation.{Notation}
use Rattle.asn_coding.specs.Writing.{FailsToEncode}
use Rattle.asn_coding.proofs.Whole.{write_complete}
use Rattle.avn_rules.specs.Holding.{Holds}
use Rattle.avn_rules.proofs.ReadBack.{read_back}
use Rattle.avn_rules.proofs.avn.encode.Goals as goal

pub returns-in_err-encode-clause-complete : goal.returns-in_err-encode-clause-complete
returns-in_err-encode-clause-complete g c =
    let p = err_from_is_err_and c.from_residual.result c.from_residual.ensures.1 in
    λ w. rw (p.1, p.2) (write_complete tt c.in_err-encode.ensures.refused w)

pub returns-clause-text : goal.returns-clause-text
returns-clause-text g c =
    let held = c.in_ok-encode.ensures.written.added ([] ∷ []) c.new-encoder.ensures in
    let v = g.T.AsnType.value_of c.args.value.now in
    IfOk-weaker c.to_string.result _ _ (λ s text. let same : Some (canonical_text Notation.avn v) ≡ Some (string_bytes s) = text (Some v ∷ []) [] held in sym (cc same)) c.to_string.ensures.text

pub returns-clause-reads_back : goal.returns-clause-reads_back
returns-clause-reads_back g c = read_back g.T.AsnType.shape_of _ c.to_string.result g.met.T.AsnType.readable c.in_ok-encode.ensures.written.fit c.in_ok-encode.ensures.written.writable (returns-clause-text g c)

pub returns-clause-refused : goal.returns-clause-refused
returns-clause-refused g c =
    let held = c.in_ok-encode.ensures.written.added ([] ∷ []) c.new-encoder.ensures in
    IfErr-weaker c.to_string.result _ _ (λ e cause. FailsToEncode.no_memory (value_kept (Holds c.encode.new.encoder) _ held cause)) c.to_string.ensures.refused

pub returns-clause-complete : goal.returns-clause-complete
returns-clause-complete g c =
    let held = c.in_ok-encode.ensures.written.added ([] ∷ []) c.new-encoder.ensures in
    λ w. IfErr-weaker c.to_string.result _ _ (λ e cause. value_kept (Holds c.encode.new.encoder) _ held cause) c.to_string.ensures.refused
