use Rattle.std.proofs.Common.{subst, ◌<◌}
use Rattle.asn_traits.specs.Tree.{head_nodes}
use Rattle.std.proofs.lemmas.Result.{err_from_is_err_and}
use Rattle.asn_traits.specs.Shape.{Shape, SeqKind}
use Rattle.asn_coding.proofs.Steps.{loop_refuses}
use Rattle.asn_coding.proofs.Reading as list
use Rattle.asn_sample_trees.specs.Nest.{nest_shape}
use Rattle.asn_sample_trees.proofs.Lists.{nest_answer}
use Rattle.asn_sample_trees.proofs.nest.NestDecode.+nest_decode.Goals as goal

pub returns-in_err-count : goal.returns-in_err-count
returns-in_err-count g t c =
    let p = err_from_is_err_and c.from_residual.result c.from_residual.ensures.1 in
    rw (p.1, p.2) (loop_refuses (Shape.list_of (Shape.back 0)) _ _ (c.in_err-count.ensures nest_shape))

pub decode_with_tag_and_constraints-requires : goal.decode_with_tag_and_constraints-requires
decode_with_tag_and_constraints-requires g t c κs within =
    let h = list.head_below _ SeqKind.sequence _ _ _ _ _ _ _ c.loop-i.invariant c.loop-i-test.true in (subst (λ m. head_nodes (g.D.Decoder.pending c.loop-i.decoder) < m) c.decreases h, within)

pub returns-in_err-item : goal.returns-in_err-item
returns-in_err-item g t c =
    let p = err_from_is_err_and c.from_residual-in_err-item.result c.from_residual-in_err-item.ensures.1 in
    rw (p.1, p.2) (loop_refuses (Shape.list_of (Shape.back 0)) _ _ (list.refuse _ SeqKind.sequence _ _ _ _ _ _ _ _ c.loop-i.invariant c.loop-i-test.true c.in_err-item.ensures))

pub loop-i-preserved : goal.loop-i-preserved
loop-i-preserved g t c = rw c.in-Ok-push.ensures.items (list.step _ SeqKind.sequence _ _ _ _ _ _ _ _ _ c.loop-i.invariant c.loop-i-test.true c.in_ok-item.ensures)

pub returns : goal.returns
returns g t c = nest_answer _ (list.finish _ SeqKind.sequence _ _ _ _ _ _ _ c.loop-i.invariant c.loop-i-test.false)
