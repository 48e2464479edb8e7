use Rattle.std.proofs.lemmas.Result.{err_from_is_err_and}
use Rattle.asn_traits.specs.Notation.{Notation}
use Rattle.asn_traits.specs.Tree.{Tree}
use Rattle.asn_fault.specs.Failure.{failure_of}
use Rattle.asn_coding.proofs.Whole.{root_answer}
use Rattle.avn_rules.specs.Text.{RefusesText}
use Rattle.avn_rules.proofs.Roots.{text_refused, text_complete, explained_memory}
use Rattle.avn_rules.proofs.avn.decode_within.Goals as goal

pub returns-in_err-decoder-clause-refused : goal.returns-in_err-decoder-clause-refused
returns-in_err-decoder-clause-refused g c =
    let p = err_from_is_err_and c.from_residual.result c.from_residual.ensures.1 in
    rw (p.1, p.2) (RefusesText.no_tree c.in_err-decoder.ensures.refused)

pub returns-clause-refused : goal.returns-clause-refused
returns-clause-refused g c =
    let t = c.in_ok-decoder.ensures.tree in
    text_refused failure_of c.args.limit g.T.AsnType.shape_of g.T.AsnType.value_of c.args.input.now t.0 c.decode.result t.1 (root_answer failure_of Notation.avn g.T.AsnType.shape_of g.T.AsnType.value_of (Tree.avn t.0) _ _ _ _ t.2 c.decode.ensures)

pub returns-clause-complete : goal.returns-clause-complete
returns-clause-complete g c =
    let t = c.in_ok-decoder.ensures.tree in
    text_complete failure_of c.args.limit g.T.AsnType.shape_of g.T.AsnType.value_of c.args.input.now t.0 c.decode.result t.1 (root_answer failure_of Notation.avn g.T.AsnType.shape_of g.T.AsnType.value_of (Tree.avn t.0) _ _ _ _ t.2 c.decode.ensures)

pub returns-in_err-decoder-clause-complete : goal.returns-in_err-decoder-clause-complete
returns-in_err-decoder-clause-complete g c =
    let p = err_from_is_err_and c.from_residual.result c.from_residual.ensures.1 in
    λ t v is says. rw (p.1, p.2) (explained_memory c.args.limit c.args.input.now c.in_err-decoder.ensures.refused is)
