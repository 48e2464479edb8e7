use Rattle.std.proofs.Common.{ap, ◌∙◌, ◌++◌}
use Rattle.std.proofs.lemmas.Result.{on_ok_weaker}
use Rattle.asn_modules_rules.proofs.lists.Collecting.{enumerated_added, names_of_items}
use Rattle.asn_modules_rules.proofs.lists.listed.add_enumerated.Goals as goal

pub returns-in-Some : goal.returns-in-Some
returns-in-Some c =
    on_ok_weaker c.add_items-in-Some.result (λ e.
    enumerated_added c.args.items.now c.in-Some.added c.args.added.now c.args.names.now.items c.add_items.new.names.items c.add_items-in-Some.new.names.items
    (c.in_ok-add_items.ensures ∙ ap (λ l. c.args.names.now.items ++ names_of_items l) c.as_slice.ensures.value) c.in-Some.is
    (e ∙ ap (λ l. c.add_items.new.names.items ++ names_of_items l) c.as_slice-in-Some.ensures.value)) c.add_items-in-Some.ensures
