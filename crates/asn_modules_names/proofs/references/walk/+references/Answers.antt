use Rattle.std.proofs.Common.{◌≡◌, ap, sym, ◌∙◌, ◌++◌, Some}
use Rattle.std.proofs.lemmas.Result.{on_ok_weaker}
use Rattle.asn_modules_names.specs.references.Extensions.{entries_references, extension_references}
use Rattle.asn_modules_names.proofs.references.Referring.{both_added}
use Rattle.asn_modules_names.proofs.references.walk.+references.Goals as goal

pub add_members-returns-in-Some : goal.add_members-returns-in-Some
add_members-returns-in-Some t c =
    on_ok_weaker c.add_extension.result (λ e.
    both_added c.args.members.now c.args.names.now.items c.add_entries.new.names.items c.add_extension.new.names.items c.in-Some.extension
    (c.in_ok-add_entries.ensures ∙ ap (λ l. c.args.names.now.items ++ entries_references l) c.deref.ensures.value) c.in-Some.is e) c.add_extension.ensures
