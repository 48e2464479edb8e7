use Rattle.std.proofs.Common.{ap, ◌∙◌}
use Rattle.std.proofs.lemmas.Result.{IfOk-weaker}
use Rattle.asn_modules_rules.specs.numbers.Faults.{enumerated_fault}
use Rattle.asn_modules_rules.proofs.numbers.Marked.{enumerated_is}
use Rattle.asn_modules_rules.proofs.numbers.check.number_fault.Goals as goal

pub returns-in-Enumerated : goal.returns-in-Enumerated
returns-in-Enumerated c =
    let items = c.in-Enumerated.items in
    let text = c.args.text.now in
    IfOk-weaker c.enumerated_fault.result _ _ (λ found e.
    e ∙ ap (λ l. enumerated_fault text l c.added_items.result.now) c.as_slice-in-Enumerated.ensures.value
    ∙ ap (enumerated_fault text items.items) (c.added_items.ensures items)
    ∙ enumerated_is text c.args.base.now items c.in-Enumerated.added c.in-Enumerated.is) c.enumerated_fault.ensures
