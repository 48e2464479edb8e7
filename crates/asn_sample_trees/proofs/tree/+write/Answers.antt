use Rattle.std.proofs.Common.{arith}
use Rattle.std.proofs.lemmas.Result.{err_from_is_err_and, on_ok_weaker}
use Rattle.asn_coding.proofs.Collecting.{collected-none, collected-more, collected-all, collected-blocks}
use Rattle.asn_sample_trees.proofs.Trees.{names_told, tree_written, kids_unwritten, additions_unwritten}
use Rattle.asn_sample_trees.proofs.tree.+write.Goals as goal

pub write_kids-loop-kid-init : goal.write_kids-loop-kid-init
write_kids-loop-kid-init g t c = collected-none _ _ _ _ _ _ c.in_ok-open_frame.ensures.opened

pub write_kids-returns-in_err-write_tree-clause-refused : goal.write_kids-returns-in_err-write_tree-clause-refused
write_kids-returns-in_err-write_tree-clause-refused g t c =
    let p = err_from_is_err_and c.from_residual-in_err-write_tree.result c.from_residual-in_err-write_tree.ensures.1 in
    rw (p.1, p.2, ← c.deref-kid-items.ensures.value)
    (collected-blocks c.deref-kid-items.result.now c.loop-kid.kid-index c.kid-item.result _ (omega arith) c.kid-item.is c.loop-kid.invariant c.in_err-write_tree.ensures.refused)

pub write_kids-loop-kid-preserved : goal.write_kids-loop-kid-preserved
write_kids-loop-kid-preserved g t c =
    collected-more c.deref-kid-items.result.now c.loop-kid.kid-index c.kid-item.result (omega arith) c.kid-item.is c.loop-kid.invariant c.in_ok-write_tree.ensures.written

pub write_kids-returns-clause-written : goal.write_kids-returns-clause-written
write_kids-returns-clause-written g t c =
    rw (← c.deref-kid-items.ensures.value) (on_ok_weaker c.close_list.result (λ e. collected-all c.deref-kid-items.result.now c.loop-kid.kid-index (omega arith) c.loop-kid.invariant e) c.close_list.ensures.closed)

pub write_tree-returns-in_err-write_kids-clause-refused : goal.write_tree-returns-in_err-write_kids-clause-refused
write_tree-returns-in_err-write_kids-clause-refused g t c =
    let p = err_from_is_err_and c.from_residual-in_err-write_kids.result c.from_residual-in_err-write_kids.ensures.1 in
    rw (p.1, p.2) (kids_unwritten g.A.TreeAdditions.fields g.A.TreeAdditions.slots c.args.tree.now c.in_err-write_kids.ensures.refused)

pub write_tree-returns-in_err-write-clause-refused : goal.write_tree-returns-in_err-write-clause-refused
write_tree-returns-in_err-write-clause-refused g t c =
    let p = err_from_is_err_and c.from_residual-in_err-write.result c.from_residual-in_err-write.ensures.1 in
    rw (p.1, p.2) (additions_unwritten g.A.TreeAdditions.fields g.A.TreeAdditions.slots c.args.tree.now c.in_ok-write_kids.ensures.written c.in_err-write.ensures.refused)

pub write_tree-returns-clause-written : goal.write_tree-returns-clause-written
write_tree-returns-clause-written g t c =
    let added = g.A.TreeAdditions.fields in
    let names = names_told added c.tree_table.result.now c.listed.result.now c.tree_table.ensures c.listed.ensures in
    on_ok_weaker c.close_fields.result
    (λ e. tree_written added g.A.TreeAdditions.slots g.met.A.TreeAdditions.fixed c.args.tree.now _ names c.in_ok-open_frame.ensures.opened c.in_ok-write_kids.ensures.written c.in_ok-write.ensures.written e)
    c.close_fields.ensures.closed
