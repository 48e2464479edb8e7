use Rattle.std.proofs.Common.{refl, ap, ◌∙◌, ◌++◌}
use Rattle.std.proofs.lemmas.Result.{on_ok_weaker}
use Rattle.asn_modules_rules.specs.included.Behind.{entries_behind, member_behind, members_behind}
use Rattle.asn_modules_rules.proofs.included.Behinds.{included_added}
use Rattle.asn_modules_rules.proofs.lists.Walking.{both_added}
use Rattle.asn_modules_grammar.specs.notation.View.{notation_view}
use Rattle.asn_modules_rules.proofs.included.names.+behind.Goals as goal

pub add_members-returns-in-Some : goal.add_members-returns-in-Some
add_members-returns-in-Some t c =
    on_ok_weaker c.add_extension.result (λ e.
    both_added member_behind members_behind refl (λ m ms. refl) refl c.args.members.now c.args.names.now.items c.add_entries.new.names.items c.add_extension.new.names.items c.in-Some.extension
    (c.in_ok-add_entries.ensures ∙ ap (λ l. c.args.names.now.items ++ entries_behind l) c.deref.ensures.value) c.in-Some.is e) c.add_extension.ensures

pub add_included-returns : goal.add_included-returns
add_included-returns t c =
    on_ok_weaker c.add_behind.result (λ e.
    included_added c.args.names.now.items c.add_name.new.names.items c.add_behind.new.names.items c.name_of.result (notation_view c.args.notation.now) c.name_of.ensures c.in_ok-add_name.ensures e) c.add_behind.ensures
