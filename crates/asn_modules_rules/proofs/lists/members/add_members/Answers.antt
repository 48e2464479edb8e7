use Rattle.std.proofs.Common.{refl, ap, ◌∙◌, ◌++◌}
use Rattle.std.proofs.lemmas.Result.{on_ok_weaker}
use Rattle.asn_modules_rules.specs.lists.Extensions.{entries_names}
use Rattle.asn_modules_rules.specs.lists.Listed.{member_names, members_names}
use Rattle.asn_modules_rules.proofs.lists.Walking.{both_added}
use Rattle.asn_modules_rules.proofs.lists.members.add_members.Goals as goal

pub returns-in-Some : goal.returns-in-Some
returns-in-Some c =
    on_ok_weaker c.add_extension.result (λ e.
    both_added member_names members_names refl (λ m ms. refl) refl c.args.members.now c.args.names.now.items c.add_entries.new.names.items c.add_extension.new.names.items c.in-Some.extension
    (c.in_ok-add_entries.ensures ∙ ap (λ l. c.args.names.now.items ++ entries_names l) c.deref.ensures.value) c.in-Some.is e) c.add_extension.ensures
