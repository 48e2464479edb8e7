use Rattle.std.proofs.Common.{refl, ap, ◌∙◌, ◌++◌, map}
use Rattle.std.proofs.lemmas.Result.{on_ok_weaker}
use Rattle.asn_modules_rules.specs.lists.Extensions.{entries_written}
use Rattle.asn_modules_rules.specs.lists.Written.{written_view}
use Rattle.asn_modules_rules.proofs.lists.Collecting.{member_written, members_written, written_more}
use Rattle.asn_modules_rules.proofs.lists.Walking.{both_added}
use Rattle.asn_modules_rules.proofs.lists.within.+types.Goals as goal
use Rattle.asn_modules_names.specs.Mentions.{source_view}

pub add_members-returns-in-Some : goal.add_members-returns-in-Some
add_members-returns-in-Some t c =
    let s = source_view c.args.source.now in
    let found = map written_view c.args.found.now.items in
    on_ok_weaker c.add_extension.result (λ e.
    both_added (member_written s) (members_written s) refl (written_more s) refl c.args.members.now found (map written_view c.add_entries.new.found.items) (map written_view c.add_extension.new.found.items) c.in-Some.extension
    (c.in_ok-add_entries.ensures ∙ ap (λ l. found ++ entries_written s l) c.deref.ensures.value) c.in-Some.is e) c.add_extension.ensures
