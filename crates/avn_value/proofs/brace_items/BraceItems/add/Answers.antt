use Rattle.std.proofs.Common.{sym, ◌∙◌}
use Rattle.avn_value.proofs.ItemFlags.{named_added, integer_added, value_added}
use Rattle.avn_value.proofs.brace_items.BraceItems.add.Goals as goal

pub returns-in-Named : goal.returns-in-Named
returns-in-Named c = λ before x e k. named_added c.args.self.now before x (sym c.in-Named.is ∙ e) k

pub returns-in-Integer : goal.returns-in-Integer
returns-in-Integer c = λ before x e k. integer_added c.args.self.now before x (sym c.in-Integer.is ∙ e) k

pub returns-in-Value : goal.returns-in-Value
returns-in-Value c = λ before x e k. value_added c.args.self.now before x (sym c.in-Value.is ∙ e) k
