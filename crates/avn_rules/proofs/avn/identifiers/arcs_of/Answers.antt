use Rattle.std.proofs.lemmas.Result.{err_from_is_err_and}
use Rattle.avn_rules.proofs.ArcsTaken.{arcs_begun, arcs_more, arcs_stopped, arcs_done}
use Rattle.avn_rules.proofs.Walks.{item_present, left_first}
use Rattle.avn_rules.proofs.avn.identifiers.arcs_of.Goals as goal

pub items-init : goal.items-init
items-init c = arcs_begun c.args.table.now c.args.node c.end-end.result c.new-arcs.result.items c.requires.present c.requires.list c.end-end.ensures c.new-arcs.ensures.items

pub items-preserved : goal.items-preserved
items-preserved c = arcs_more c.args.table.now c.args.node c.items.item c.end-end.result c.end-item.result c.in_ok-arc.arc c.items.arcs.items c.push.new.self.items c.items.invariant c.items-test.true c.in_ok-arc.ensures c.end-item.ensures c.in-Ok.ensures.items

pub returns : goal.returns
returns c = arcs_done c.args.table.now c.args.node c.items.item c.end-end.result c.items.arcs.items c.items.invariant c.items-test.false

pub returns-in_err-arc : goal.returns-in_err-arc
returns-in_err-arc c =
    let p = err_from_is_err_and c.from_residual.result c.from_residual.ensures.1 in
    rw (p.1, p.2) (arcs_stopped c.args.table.now c.args.node c.items.item c.end-end.result c.items.arcs.items _ c.items.invariant c.items-test.true c.in_err-arc.ensures)

pub arc_at-requires : goal.arc_at-requires
arc_at-requires c = item_present _ _ _ (left_first _ _ _ c.items.invariant.left c.items-test.true)
