use Rattle.std.proofs.Common.{◌<◌, ap, ◌∙◌, subst}
use Rattle.std.proofs.lemmas.Result.{err_from_is_err_and}
use Rattle.asn_fault.specs.Failure.{failure_of}
use Rattle.asn_coding.proofs.Reading as list
use Rattle.asn_coding.proofs.Scopes.{table_names}
use Rattle.asn_model.specs.Shape.{SeqKind, FieldAdditions, are_distinct}
use Rattle.asn_model.specs.Tree.{head_nodes}
use Rattle.asn_model.specs.Value.{values}
use Rattle.asn_sample_trees.proofs.Trees.{names_told, rows_told, tables_told, names_distinct, kids_below, tree_read, turn_refused, kids_refused, additions_refused}
use Rattle.asn_sample_trees.specs.Tree.{tree_value}
use Rattle.asn_sample_trees.specs.TreeShape.{tree_fields, tree_shape}
use Rattle.asn_sample_trees.proofs.tree.+read.Goals as goal

pub read_tree-open_fields-requires : goal.read_tree-open_fields-requires
read_tree-open_fields-requires g t c =
    ap are_distinct (names_told g.A.TreeAdditions.fields c.tree_table.result.now c.listed-additions.result.now c.tree_table.ensures c.listed-additions.ensures) ∙ names_distinct g.A.TreeAdditions.fields g.met.A.TreeAdditions.readable

pub read_tree-read_kids-requires : goal.read_tree-read_kids-requires
read_tree-read_kids-requires g t c κs within =
    let names = rows_told g.A.TreeAdditions.fields c.tree_table.result.now c.listed-additions.result.now c.tree_table.ensures c.listed-additions.ensures in
    let h = kids_below _ g.A.TreeAdditions.fields names c.in-Ok.ensures in
    (subst (λ m. head_nodes (g.D.Decoder.pending c.open_fields.new.self) < m) c.decreases h, within)

pub read_tree-returns-in-Err : goal.read_tree-returns-in-Err
read_tree-returns-in-Err g t c =
    let added = g.A.TreeAdditions.fields in
    turn_refused added g.met.A.TreeAdditions.fixed (failure_of c.in-Err.error) (c.in-Err.ensures (tree_fields (tree_shape added)) (FieldAdditions.extended_fields added)
    (tables_told added c.tree_table.result.now c.listed-additions.result.now c.tree_table.ensures c.listed-additions.ensures))

pub read_tree-returns-in-Err-read_kids : goal.read_tree-returns-in-Err-read_kids
read_tree-returns-in-Err-read_kids g t c =
    let names = rows_told g.A.TreeAdditions.fields c.tree_table.result.now c.listed-additions.result.now c.tree_table.ensures c.listed-additions.ensures in
    let w = c.within_field.ensures in
    kids_refused g.A.TreeAdditions.fields g.met.A.TreeAdditions.fixed _ names c.in-Ok.ensures w.0 (failure_of c.in-Err-read_kids.error) (failure_of c.within_field.result) w.1 w.2 c.in-Err-read_kids.ensures

pub read_tree-returns-in-Ok-read : goal.read_tree-returns-in-Ok-read
read_tree-returns-in-Ok-read g t c =
    let names = rows_told g.A.TreeAdditions.fields c.tree_table.result.now c.listed-additions.result.now c.tree_table.ensures c.listed-additions.ensures in
    tree_read g.A.TreeAdditions.fields g.met.A.TreeAdditions.fixed _ names c.in-Ok.ensures g.A.TreeAdditions.slots _ c.in-Ok-read_kids.ensures c.in-Ok-read.ensures.read

pub read_tree-returns-in-Err-read : goal.read_tree-returns-in-Err-read
read_tree-returns-in-Err-read g t c =
    let added = g.A.TreeAdditions.fields in
    let names = rows_told added c.tree_table.result.now c.listed-additions.result.now c.tree_table.ensures c.listed-additions.ensures in
    let along = c.new-names.ensures ∙ table_names 1 c.listed-additions.result.now added c.listed-additions.ensures in
    additions_refused added g.met.A.TreeAdditions.fixed _ names c.in-Ok.ensures (values (tree_value added g.A.TreeAdditions.slots) c.in-Ok-read_kids.kids.items) (failure_of c.in-Err-read.error) along c.in-Ok-read_kids.ensures c.in-Err-read.ensures.refused

pub read_kids-read_tree-requires : goal.read_kids-read_tree-requires
read_kids-read_tree-requires g t c κs within =
    let h = list.head_below _ SeqKind.sequence _ _ _ _ _ _ _ c.loop-i.invariant c.loop-i-test.true in (subst (λ m. head_nodes (g.D.Decoder.pending c.loop-i.decoder) < m) c.decreases h, within)

pub read_kids-returns-in_err-kid : goal.read_kids-returns-in_err-kid
read_kids-returns-in_err-kid g t c =
    let p = err_from_is_err_and c.from_residual-in_err-kid.result c.from_residual-in_err-kid.ensures.1 in
    rw (p.1, p.2) (list.refuse _ SeqKind.sequence _ _ _ _ _ _ _ _ c.loop-i.invariant c.loop-i-test.true c.in_err-kid.ensures)

pub read_kids-loop-i-preserved : goal.read_kids-loop-i-preserved
read_kids-loop-i-preserved g t c = rw c.in-Ok-push.ensures.items (list.step _ SeqKind.sequence _ _ _ _ _ _ _ _ _ c.loop-i.invariant c.loop-i-test.true c.in_ok-kid.ensures)

pub read_kids-returns : goal.read_kids-returns
read_kids-returns g t c = list.finish _ SeqKind.sequence _ _ _ _ _ _ _ c.loop-i.invariant c.loop-i-test.false
