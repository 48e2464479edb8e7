use Rattle.std.proofs.Common.{sym, ◌∙◌}
use Rattle.jer_rules.specs.Text.{NoTree}
use Rattle.jer_rules.proofs.jer.de.Decoder.new.Goals as goal

pub returns-then-holds_float-clause-refused : goal.returns-then-holds_float-clause-refused
returns-then-holds_float-clause-refused c = NoTree.has_real _ c.in-Ok.ensures.ok (sym c.holds_float.ensures ∙ c.if-holds_float.true) c.real_not_supported.ensures
