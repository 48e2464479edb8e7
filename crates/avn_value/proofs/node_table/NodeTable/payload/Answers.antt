use Rattle.std.proofs.Common.{ap, sym, ◌∙◌}
use Rattle.avn_nodes.proofs.Walks.{payload_at, kind_present}
use Rattle.avn_nodes.specs.NodeViews.{kind_of}
use Rattle.avn_nodes.specs.Preorder.{choice_with, NamedSlot}
use Rattle.avn_value.proofs.node_table.NodeTable.payload.Goals as goal

pub returns-clause-below : goal.returns-clause-below
returns-clause-below c = (payload_at c.args.self.now c.args.node c.requires.below c.requires.choice).3

pub returns-clause-choice : goal.returns-clause-choice
returns-clause-choice c = let p = payload_at c.args.self.now c.args.node c.requires.below c.requires.choice in p.2 ∙ sym (ap choice_with p.4)

pub returns-clause-present : goal.returns-clause-present
returns-clause-present c = λ e. let p = payload_at c.args.self.now c.args.node c.requires.below c.requires.choice in kind_present p.1 (sym (ap (λ (s : NamedSlot). kind_of s.1) p.4) ∙ e)
