use Rattle.avn_rules.proofs.Walks.{items_begun, items_more, items_done}
use Rattle.avn_rules.proofs.avn.take_apart.items_of.Goals as goal

pub items-init : goal.items-init
items-init c = items_begun c.args.table.now c.args.node c.end-end.result c.new-items.result.items c.requires.present c.requires.list c.end-end.ensures c.new-items.ensures.items

pub items-preserved : goal.items-preserved
items-preserved c = items_more c.args.table.now c.args.node c.items.item c.end-end.result c.end-item.result c.items.items.items c.push.new.self.items c.items.invariant c.items-test.true c.end-item.ensures c.in_ok-push.ensures.items

pub returns-clause-items : goal.returns-clause-items
returns-clause-items c = items_done c.args.table.now c.args.node c.items.item c.end-end.result c.items.items.items c.items.invariant c.items-test.false
