use Rattle.avn_value.proofs.ItemFlags.{list_kind, fields_kind}
use Rattle.avn_value.proofs.brace_items.BraceItems.kind.Goals as goal

pub returns-then-not-self-clause-some : goal.returns-then-not-self-clause-some
returns-then-not-self-clause-some c = λ items k. list_kind c.args.self.now items c.if-not-self.true k

pub returns-then-not-self-2-clause-some : goal.returns-then-not-self-2-clause-some
returns-then-not-self-2-clause-some c = λ items k. fields_kind c.args.self.now items c.if-not-self-2.true k
