use Rattle.std.proofs.Common.{◌∙◌}
use Rattle.asn_modules_rules.proofs.numbers.Marked.{added_are, no_added}
use Rattle.asn_modules_rules.proofs.numbers.check.added_items.Goals as goal

pub returns-in-Some : goal.returns-in-Some
returns-in-Some c = λ items. c.as_slice.ensures.value ∙ added_are items c.args.added.now c.in-Some.added c.in-Some.is

pub returns-in-None : goal.returns-in-None
returns-in-None c = λ items. no_added items c.args.added.now c.in-None.is
