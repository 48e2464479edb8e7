use Rattle.std.proofs.Common.{◌+◌, Some, refl, sym, ap, subst, ◌∙◌, map, nat_le, add-one, arith}
use Rattle.std.proofs.lemmas.Result.{err_from_is_err_and}
use Rattle.std.specs.List.{count_by}
use Rattle.asn_lexer.specs.declared.kind.Kind.TheVariants as kind
use Rattle.asn_model.specs.ShapeView.{kind_view}
use Rattle.asn_modules_grammar.specs.notation.Grammar.{NotationParses, ArgumentsParse, BaseParses, MemberParses, MembersParse}
use Rattle.asn_modules_grammar.specs.notation.Starts as starts
use Rattle.asn_modules_grammar.specs.notation.View.{component_view, members_view, notation_view}
use Rattle.asn_modules_reader.specs.parts.EntryLists.{entries_of, is_marker}
use Rattle.asn_modules_reader.specs.parts.Starts.{start_view}
use Rattle.asn_modules_reader.proofs.parts.EntriesSeen.{map_join}
use Rattle.asn_modules_reader.proofs.parts.Runs.{going_start, going_next, going_last, going_none}
use Rattle.asn_modules_reader.specs.Views.{base_view, member_seen}
use Rattle.asn_modules_reader.proofs.ArgumentsRead.{given, more_given, arguments_step, arguments_untyped, arguments_open, unlike_open, none_are, all_are, others_are, unlike_are, reference_read, instance_read, instance_none}
use Rattle.asn_modules_reader.proofs.BasesRead.{leaf_base, base_as, none_as, reads_as, enumerated_reads}
use Rattle.asn_modules_reader.proofs.BracesRead.{more_seen, braces_empty, braces_all, braces_none, braces_over}
use Rattle.asn_modules_reader.proofs.MembersRead.{component_read, component_untyped, component_unstated, components_of_read, alternative_unnamed, components_unnamed, components_without_of, components_untyped, components_without_any, marker_read, group_read, group_none, one_read, one_none, members_step, members_last, members_none, members_unended, version_no_comma, brace_no_comma}
use Rattle.asn_modules_reader.proofs.Notations.{notation_read, notation_untagged, notation_unstarted, notation_unbased, notation_unsized, integer_read, integer_none, bit_string_read, bit_string_none, fields_read, fields_none, list_read, list_unopened, list_none, choice_read, choice_unopened, choice_none}
use Rattle.asn_modules_reader.proofs.Viewing.{leaf_viewed, integer_viewed, bit_string_viewed, choice_viewed, reference_viewed, named_viewed, components_of_viewed, one_viewed, group_viewed, notation_viewed}
use Rattle.asn_modules_reader.proofs.notation.+read.Goals as goal

pub read_components_of-returns-then-not-fields-clause-found : goal.read_components_of-returns-then-not-fields-clause-found
read_components_of-returns-then-not-fields-clause-found t c = λ syntax m rest q.
    alternative_unnamed 64 c.args.level c.args.fields c.args.tokens.now c.if-not-fields.true c.requires.other m rest q

pub read_components_of-returns-in_default-clause-found : goal.read_components_of-returns-in_default-clause-found
read_components_of-returns-in_default-clause-found t c = λ syntax m rest q.
    components_unnamed 64 c.args.level c.args.fields c.args.tokens.now c.requires.other c.in_default.ensures m rest q

pub read_components_of-returns-in_default-take_sign-clause-found : goal.read_components_of-returns-in_default-take_sign-clause-found
read_components_of-returns-in_default-take_sign-clause-found t c = λ syntax m rest q.
    components_without_of 64 c.args.level c.args.fields c.args.tokens.now c.in-Some.behind.now c.requires.other c.in-Some.ensures.1 c.in_default-take_sign.ensures m rest q

pub read_components_of-returns-in_err-notation-clause-found : goal.read_components_of-returns-in_err-notation-clause-found
read_components_of-returns-in_err-notation-clause-found t c =
    let p = err_from_is_err_and c.from_residual.result c.from_residual.ensures.1 in
    rw (p.1, p.2) (λ syntax m rest q.
    components_untyped 64 c.args.level c.args.fields c.args.tokens.now c.in-Some.behind.now c.in-Some-take_sign.inner.now c.requires.other c.in-Some.ensures.1 c.in-Some-take_sign.ensures.1
    (c.in_err-notation.ensures.found syntax) m rest q)

pub read_components_of-returns-then-not-may_have_components-clause-found : goal.read_components_of-returns-then-not-may_have_components-clause-found
read_components_of-returns-then-not-may_have_components-clause-found t c = λ syntax m rest q.
    components_without_any 64 c.args.level c.args.fields c.args.tokens.now c.in-Some.behind.now c.in-Some-take_sign.inner.now c.in_ok-notation.rest.now (notation_view c.in_ok-notation.notation) c.requires.other
    c.in-Some.ensures.1 c.in-Some-take_sign.ensures.1 c.in_ok-notation.ensures.found (sym c.may_have_components.ensures ∙ c.if-not-may_have_components.true) m rest q

pub read_components_of-returns-clause-found : goal.read_components_of-returns-clause-found
read_components_of-returns-clause-found t c =
    subst (λ z. MemberParses 64 c.args.level c.args.fields kind.CloseVersion c.args.tokens.now z c.in_ok-notation.rest.now) (sym (components_of_viewed c.in_ok-notation.notation))
    (components_of_read 64 c.args.level c.args.fields kind.CloseVersion c.args.tokens.now c.in-Some.behind.now c.in-Some-take_sign.inner.now c.in_ok-notation.rest.now (notation_view c.in_ok-notation.notation)
    c.if-not-fields.false c.in-Some.ensures.0 c.in-Some.ensures.1 c.in-Some-take_sign.ensures.0 c.in-Some-take_sign.ensures.1 c.in_ok-notation.ensures.found
    (sym c.may_have_components.ensures ∙ c.if-not-may_have_components.false))

pub read_component-returns-in_err-notation-clause-found : goal.read_component-returns-in_err-notation-clause-found
read_component-returns-in_err-notation-clause-found t c =
    let p = err_from_is_err_and c.from_residual.result c.from_residual.ensures.1 in
    rw (p.1, p.2) (λ syntax m rest q.
    component_untyped 64 c.args.level c.args.fields c.args.tokens.now c.in-Some.typed.now c.in-Some.name c.in-Some.ensures.0 c.in-Some.ensures.1 (c.in_err-notation.ensures.found syntax) m rest q)

pub read_component-returns-in_err-presence-clause-found : goal.read_component-returns-in_err-presence-clause-found
read_component-returns-in_err-presence-clause-found t c =
    let p = err_from_is_err_and c.from_residual-in_err-presence.result c.from_residual-in_err-presence.ensures.1 in
    rw (p.1, p.2) (λ syntax m rest q.
    component_unstated 64 c.args.level c.args.fields c.args.tokens.now c.in-Some.typed.now c.in_ok-notation.behind.now c.in-Some.name (notation_view c.in_ok-notation.notation)
    c.in-Some.ensures.0 c.in-Some.ensures.1 c.in_ok-notation.ensures.found (c.in_err-presence.ensures.found syntax) m rest q)

pub read_component-returns-clause-found : goal.read_component-returns-clause-found
read_component-returns-clause-found t c =
    subst (λ z. MemberParses 64 c.args.level c.args.fields kind.CloseVersion c.args.tokens.now z c.in_ok-presence.rest.now) (sym (named_viewed c.in-Some.name c.in_ok-notation.notation c.in_ok-presence.presence))
    (component_read 64 c.args.level c.args.fields kind.CloseVersion c.args.tokens.now c.in-Some.typed.now c.in_ok-notation.behind.now c.in_ok-presence.rest.now c.in-Some.name (notation_view c.in_ok-notation.notation) c.in_ok-presence.presence
    c.in-Some.ensures.0 c.in-Some.ensures.1 c.in_ok-notation.ensures.found c.in_ok-presence.ensures.found)

pub read_group-components-init : goal.read_group-components-init
read_group-components-init t c = (
  going_start (MembersParse 64 c.args.level c.args.fields kind.CloseVersion) c.args.tokens.now c.args.tokens.now (map component_view c.new-components.result.items) refl (ap (map component_view) c.new-components.ensures.items),
  omega arith,
)

pub read_group-returns-in_err-component-clause-found : goal.read_group-returns-in_err-component-clause-found
read_group-returns-in_err-component-clause-found t c =
    let p = err_from_is_err_and c.from_residual.result c.from_residual.ensures.1 in
    rw (p.1, p.2) (λ syntax xs rest q.
    going_none (MembersParse 64 c.args.level c.args.fields kind.CloseVersion) c.args.tokens.now c.components.rest.now (map component_view c.components.components.items) c.components.invariant.0
    (members_none 64 c.args.level c.args.fields kind.CloseVersion c.components.rest.now (c.in_err-component.ensures.found syntax)) xs rest q)

pub read_group-returns-in-Some-clause-found : goal.read_group-returns-in-Some-clause-found
read_group-returns-in-Some-clause-found t c =
    going_last (MembersParse 64 c.args.level c.args.fields kind.CloseVersion) c.args.tokens.now c.components.rest.now c.in-Some.after.now (map component_view c.components.components.items) (map component_view c.push.new.self.items)
    (component_view c.in_ok-component.component) c.components.invariant.0
    (members_last 64 c.args.level c.args.fields kind.CloseVersion c.components.rest.now c.in_ok-component.behind.now c.in-Some.after.now (component_view c.in_ok-component.component) c.in_ok-component.ensures.found c.in-Some.ensures.0 c.in-Some.ensures.1)
    (ap (map component_view) c.in_ok-push.ensures.items ∙ map_join component_view c.components.components.items _)

pub read_group-returns-in_default-take_sign-clause-found : goal.read_group-returns-in_default-take_sign-clause-found
read_group-returns-in_default-take_sign-clause-found t c = λ syntax xs rest q.
    going_none (MembersParse 64 c.args.level c.args.fields kind.CloseVersion) c.args.tokens.now c.components.rest.now (map component_view c.components.components.items) c.components.invariant.0
    (members_unended 64 c.args.level c.args.fields kind.CloseVersion c.components.rest.now c.in_ok-component.behind.now (component_view c.in_ok-component.component) c.in_ok-component.ensures.found c.in_default.ensures c.in_default-take_sign.ensures) xs rest q

pub read_group-components-preserved : goal.read_group-components-preserved
read_group-components-preserved t c = (
  going_next (MembersParse 64 c.args.level c.args.fields kind.CloseVersion) c.args.tokens.now c.components.rest.now c.in-Some-take_sign.next.now (map component_view c.components.components.items) (map component_view c.push.new.self.items)
      (component_view c.in_ok-component.component) c.components.invariant.0
      (members_step 64 c.args.level c.args.fields kind.CloseVersion c.components.rest.now c.in_ok-component.behind.now c.in-Some-take_sign.next.now (component_view c.in_ok-component.component) version_no_comma c.in_ok-component.ensures.found c.in-Some-take_sign.ensures.0 c.in-Some-take_sign.ensures.1)
      (ap (map component_view) c.in_ok-push.ensures.items ∙ map_join component_view c.components.components.items _),
  omega (arith, c.components.invariant.1, c.in_ok-component.ensures.shorter, c.in-Some-take_sign.ensures.2),
)

pub read_member-returns-in-Some-clause-found : goal.read_member-returns-in-Some-clause-found
read_member-returns-in-Some-clause-found t c = marker_read 64 c.args.level c.args.fields c.args.tokens.now c.in-Some.rest.now c.in-Some.ensures.0 c.in-Some.ensures.1

pub read_member-returns-in_err-components-clause-found : goal.read_member-returns-in_err-components-clause-found
read_member-returns-in_err-components-clause-found t c =
    let p = err_from_is_err_and c.from_residual.result c.from_residual.ensures.1 in
    rw (p.1, p.2) (λ syntax m rest q.
    group_none 64 c.args.level c.args.fields c.args.tokens.now c.in-Some-take_sign.inner.now c.past_version.result.now c.in-Some-take_sign.ensures.0 c.in-Some-take_sign.ensures.1 c.past_version.ensures.found
    (c.in_err-components.ensures.found syntax) m rest q)

pub read_member-returns-in-Some-take_sign-clause-found : goal.read_member-returns-in-Some-take_sign-clause-found
read_member-returns-in-Some-take_sign-clause-found t c =
    subst (λ z. MemberParses 64 c.args.level c.args.fields kind.CloseBrace c.args.tokens.now z c.in_ok-components.rest.now) (sym (group_viewed c.in_ok-components.components))
    (group_read 64 c.args.level c.args.fields c.args.tokens.now c.in-Some-take_sign.inner.now c.past_version.result.now c.in_ok-components.rest.now _ c.in-Some-take_sign.ensures.0 c.in-Some-take_sign.ensures.1 c.past_version.ensures.found c.in_ok-components.ensures.found)

pub read_member-returns-in_err-component-clause-found : goal.read_member-returns-in_err-component-clause-found
read_member-returns-in_err-component-clause-found t c =
    let p = err_from_is_err_and c.from_residual-in_err-component.result c.from_residual-in_err-component.ensures.1 in
    rw (p.1, p.2) (λ syntax m rest q.
    one_none 64 c.args.level c.args.fields c.args.tokens.now c.in_default.ensures c.in_default-take_sign.ensures (c.in_err-component.ensures.found syntax) m rest q)

pub read_member-returns-clause-found : goal.read_member-returns-clause-found
read_member-returns-clause-found t c =
    subst (λ z. MemberParses 64 c.args.level c.args.fields kind.CloseBrace c.args.tokens.now z c.in_ok-component.rest.now) (sym (one_viewed c.in_ok-component.component))
    (one_read 64 c.args.level c.args.fields c.args.tokens.now c.in_ok-component.rest.now (component_view c.in_ok-component.component) c.in_ok-component.ensures.found)

pub read_braces-returns-in-Some-clause-found : goal.read_braces-returns-in-Some-clause-found
read_braces-returns-in-Some-clause-found t c =
    braces_empty 64 c.args.level c.args.fields c.args.tokens.now c.in-Some.after.now (members_view c.members_of-none.result) (entries_of c.new-entries.result) c.in-Some.ensures.0 c.in-Some.ensures.1 c.new-entries.ensures c.members_of-none.ensures

pub read_braces-members-init : goal.read_braces-members-init
read_braces-members-init t c = (
  going_start (MembersParse 64 c.args.level c.args.fields kind.CloseBrace) c.args.tokens.now c.args.tokens.now (map member_seen (entries_of c.new-entries.result)) refl (ap (map member_seen) c.new-entries.ensures),
  ap (λ l. nat_le (count_by is_marker l) 2) c.new-entries.ensures,
  omega arith,
)

pub read_braces-returns-in_err-member-clause-found : goal.read_braces-returns-in_err-member-clause-found
read_braces-returns-in_err-member-clause-found t c =
    let p = err_from_is_err_and c.from_residual.result c.from_residual.ensures.1 in
    rw (p.1, p.2) (λ syntax xs rest q.
    braces_none 64 c.args.level c.args.fields c.args.tokens.now c.members.rest.now (map member_seen (entries_of c.members.entries)) c.in_default.ensures c.members.invariant.0
    (members_none 64 c.args.level c.args.fields kind.CloseBrace c.members.rest.now (c.in_err-member.ensures.found syntax)) xs rest q)

pub read_braces-returns-then-not-may_add-clause-found : goal.read_braces-returns-then-not-may_add-clause-found
read_braces-returns-then-not-may_add-clause-found t c = λ syntax xs rest q.
    braces_over 64 c.args.level c.args.fields c.args.tokens.now c.members.rest.now c.in_ok-member.behind.now (entries_of c.members.entries) c.in_ok-member.member c.in_default.ensures c.members.invariant.0 c.in_ok-member.ensures.found
    (sym c.may_add.ensures ∙ c.if-not-may_add.true) xs rest q

pub read_braces-add-requires : goal.read_braces-add-requires
read_braces-add-requires t c = sym c.may_add.ensures ∙ c.if-not-may_add.false

pub read_braces-returns-in-Some-take_sign-clause-found : goal.read_braces-returns-in-Some-take_sign-clause-found
read_braces-returns-in-Some-take_sign-clause-found t c =
    braces_all 64 c.args.level c.args.fields c.args.tokens.now c.in-Some-take_sign.after.now (members_view c.members_of-members.result) (entries_of c.add.new.self)
    (going_last (MembersParse 64 c.args.level c.args.fields kind.CloseBrace) c.args.tokens.now c.members.rest.now c.in-Some-take_sign.after.now (map member_seen (entries_of c.members.entries)) (map member_seen (entries_of c.add.new.self))
    (member_seen c.in_ok-member.member) c.members.invariant.0
    (members_last 64 c.args.level c.args.fields kind.CloseBrace c.members.rest.now c.in_ok-member.behind.now c.in-Some-take_sign.after.now (member_seen c.in_ok-member.member) c.in_ok-member.ensures.found c.in-Some-take_sign.ensures.0 c.in-Some-take_sign.ensures.1)
    (more_seen (entries_of c.members.entries) (entries_of c.add.new.self) c.in_ok-member.member c.in_ok-add.ensures))
    (ap (λ l. nat_le (count_by is_marker l) 2) c.in_ok-add.ensures ∙ sym c.may_add.ensures ∙ c.if-not-may_add.false) c.members_of-members.ensures

pub read_braces-returns-in_default-take_sign-2-clause-found : goal.read_braces-returns-in_default-take_sign-2-clause-found
read_braces-returns-in_default-take_sign-2-clause-found t c = λ syntax xs rest q.
    braces_none 64 c.args.level c.args.fields c.args.tokens.now c.members.rest.now (map member_seen (entries_of c.members.entries)) c.in_default.ensures c.members.invariant.0
    (members_unended 64 c.args.level c.args.fields kind.CloseBrace c.members.rest.now c.in_ok-member.behind.now (member_seen c.in_ok-member.member) c.in_ok-member.ensures.found c.in_default-take_sign.ensures c.in_default-take_sign-2.ensures) xs rest q

pub read_braces-members-preserved : goal.read_braces-members-preserved
read_braces-members-preserved t c = (
  going_next (MembersParse 64 c.args.level c.args.fields kind.CloseBrace) c.args.tokens.now c.members.rest.now c.in-Some-take_sign-2.next.now (map member_seen (entries_of c.members.entries)) (map member_seen (entries_of c.add.new.self))
      (member_seen c.in_ok-member.member) c.members.invariant.0
      (members_step 64 c.args.level c.args.fields kind.CloseBrace c.members.rest.now c.in_ok-member.behind.now c.in-Some-take_sign-2.next.now (member_seen c.in_ok-member.member) brace_no_comma c.in_ok-member.ensures.found c.in-Some-take_sign-2.ensures.0 c.in-Some-take_sign-2.ensures.1)
      (more_seen (entries_of c.members.entries) (entries_of c.add.new.self) c.in_ok-member.member c.in_ok-add.ensures),
  ap (λ l. nat_le (count_by is_marker l) 2) c.in_ok-add.ensures ∙ sym c.may_add.ensures ∙ c.if-not-may_add.false,
  omega (arith, c.members.invariant.2, c.in_ok-member.ensures.shorter, c.in-Some-take_sign-2.ensures.2),
)

pub read_members-returns-in_err-members-clause-found : goal.read_members-returns-in_err-members-clause-found
read_members-returns-in_err-members-clause-found t c =
    let p = err_from_is_err_and c.from_residual.result c.from_residual.ensures.1 in
    rw (p.1, p.2) (λ syntax b rest q.
    fields_none 64 c.args.level (c.args.level + 1) c.args.tokens.now c.in-Some.inner.now (kind_view c.args.kind) (add-one c.args.level) c.in-Some.ensures.0 c.in-Some.ensures.1 (c.in_err-members.ensures.found syntax) b rest q)

pub read_members-returns-in-Some-clause-found : goal.read_members-returns-in-Some-clause-found
read_members-returns-in-Some-clause-found t c =
    subst (λ z. BaseParses 64 c.args.level (starts.members (kind_view c.args.kind)) c.args.tokens.now z c.in_ok-members.rest.now) (sym c.fields_of.ensures)
    (fields_read 64 c.args.level (c.args.level + 1) c.args.tokens.now c.in-Some.inner.now c.in_ok-members.rest.now (kind_view c.args.kind) (members_view c.in_ok-members.members) (add-one c.args.level) c.in-Some.ensures.0 c.in-Some.ensures.1 c.in_ok-members.ensures.found)

pub read_members-returns-in_err-inner-clause-found : goal.read_members-returns-in_err-inner-clause-found
read_members-returns-in_err-inner-clause-found t c =
    let p = err_from_is_err_and c.from_residual-in_err-inner.result c.from_residual-in_err-inner.ensures.1 in
    rw (p.1, p.2) (λ syntax b rest q.
    list_unopened 64 c.args.level c.args.tokens.now (kind_view c.args.kind) c.in_default.ensures (c.in_err-inner.ensures.found syntax) b rest q)

pub read_members-returns-in_err-element-clause-found : goal.read_members-returns-in_err-element-clause-found
read_members-returns-in_err-element-clause-found t c =
    let p = err_from_is_err_and c.from_residual-in_err-element.result c.from_residual-in_err-element.ensures.1 in
    rw (p.1, p.2) (λ syntax b rest q.
    list_none 64 c.args.level (c.args.level + 1) c.args.tokens.now c.in_ok-inner.inner.now (kind_view c.args.kind) (add-one c.args.level) c.in_default.ensures c.in_ok-inner.ensures.found (c.in_err-element.ensures.found syntax) b rest q)

pub read_members-returns-clause-found : goal.read_members-returns-clause-found
read_members-returns-clause-found t c =
    subst (λ z. BaseParses 64 c.args.level (starts.members (kind_view c.args.kind)) c.args.tokens.now z c.in_ok-element.rest.now) (sym c.in_ok-list.ensures)
    (list_read 64 c.args.level (c.args.level + 1) c.args.tokens.now c.in_ok-inner.inner.now c.in_ok-element.rest.now (kind_view c.args.kind) (notation_view c.in_ok-element.element) (add-one c.args.level) c.in_ok-inner.ensures.found c.in_ok-element.ensures.found)

pub read_choice-returns-in_default-clause-found : goal.read_choice-returns-in_default-clause-found
read_choice-returns-in_default-clause-found t c = λ syntax b rest q. choice_unopened 64 c.args.level c.args.tokens.now c.in_default.ensures b rest q

pub read_choice-returns-in_err-members-clause-found : goal.read_choice-returns-in_err-members-clause-found
read_choice-returns-in_err-members-clause-found t c =
    let p = err_from_is_err_and c.from_residual.result c.from_residual.ensures.1 in
    rw (p.1, p.2) (λ syntax b rest q.
    choice_none 64 c.args.level (c.args.level + 1) c.args.tokens.now c.in-Some.inner.now (add-one c.args.level) c.in-Some.ensures.1 (c.in_err-members.ensures.found syntax) b rest q)

pub read_choice-returns-clause-found : goal.read_choice-returns-clause-found
read_choice-returns-clause-found t c =
    subst (λ z. BaseParses 64 c.args.level starts.choice c.args.tokens.now z c.in_ok-members.rest.now) (sym (choice_viewed c.in_ok-members.members))
    (choice_read 64 c.args.level (c.args.level + 1) c.args.tokens.now c.in-Some.inner.now c.in_ok-members.rest.now (members_view c.in_ok-members.members) (add-one c.args.level) c.in-Some.ensures.0 c.in-Some.ensures.1 c.in_ok-members.ensures.found)

pub read_arguments-arguments-init : goal.read_arguments-arguments-init
read_arguments-arguments-init t c = (
  going_start (ArgumentsParse 64 c.args.level) c.args.tokens.now c.args.tokens.now (given (map notation_view c.new-arguments.result.items)) refl (ap (λ l. given (map notation_view l)) c.new-arguments.ensures.items),
  omega arith,
)

pub read_arguments-returns-in_err-after-clause-found : goal.read_arguments-returns-in_err-after-clause-found
read_arguments-returns-in_err-after-clause-found t c =
    let p = err_from_is_err_and c.from_residual.result c.from_residual.ensures.1 in
    rw (p.1, p.2) (λ syntax found rest q.
    none_are 64 c.args.level c.args.tokens.now c.arguments.rest.now (given (map notation_view c.arguments.arguments.items)) c.arguments.invariant.0
    (arguments_open 64 c.args.level c.arguments.rest.now (sym c.begins_type.ensures ∙ c.if-not-begins_type.true) (c.in_err-after.ensures.found syntax)) found rest q)

pub read_arguments-returns-then-not-begins_type-clause-found : goal.read_arguments-returns-then-not-begins_type-clause-found
read_arguments-returns-then-not-begins_type-clause-found t c =
    others_are 64 c.args.level c.args.tokens.now c.arguments.rest.now c.in_ok-after.after.now (map notation_view c.arguments.arguments.items) c.arguments.invariant.0 (sym c.begins_type.ensures ∙ c.if-not-begins_type.true) c.in_ok-after.ensures.found

pub read_arguments-returns-in_err-argument-clause-found : goal.read_arguments-returns-in_err-argument-clause-found
read_arguments-returns-in_err-argument-clause-found t c =
    let p = err_from_is_err_and c.from_residual-in_err-argument.result c.from_residual-in_err-argument.ensures.1 in
    rw (p.1, p.2) (λ syntax found rest q.
    none_are 64 c.args.level c.args.tokens.now c.arguments.rest.now (given (map notation_view c.arguments.arguments.items)) c.arguments.invariant.0
    (arguments_untyped 64 c.args.level c.arguments.rest.now (sym c.begins_type.ensures ∙ c.if-not-begins_type.false) (c.in_err-argument.ensures.found syntax)) found rest q)

pub read_arguments-returns-in-Some-clause-found : goal.read_arguments-returns-in-Some-clause-found
read_arguments-returns-in-Some-clause-found t c =
    all_are 64 c.args.level c.args.tokens.now c.arguments.rest.now c.in_ok-argument.behind.now c.in-Some.after.now (map notation_view c.arguments.arguments.items) (map notation_view c.push.new.self.items) (notation_view c.in_ok-argument.argument)
    c.arguments.invariant.0 (sym c.begins_type.ensures ∙ c.if-not-begins_type.false) c.in_ok-argument.ensures.found c.in-Some.ensures.0 c.in-Some.ensures.1
    (ap (map notation_view) c.in_ok-push.ensures.items ∙ map_join notation_view c.arguments.arguments.items _)

pub read_arguments-returns-in_err-after-2-clause-found : goal.read_arguments-returns-in_err-after-2-clause-found
read_arguments-returns-in_err-after-2-clause-found t c =
    let p = err_from_is_err_and c.from_residual-in_err-after-2.result c.from_residual-in_err-after-2.ensures.1 in
    rw (p.1, p.2) (λ syntax found rest q.
    none_are 64 c.args.level c.args.tokens.now c.arguments.rest.now (given (map notation_view c.arguments.arguments.items)) c.arguments.invariant.0
    (unlike_open 64 c.args.level c.arguments.rest.now c.in_ok-argument.behind.now (notation_view c.in_ok-argument.argument) (sym c.begins_type.ensures ∙ c.if-not-begins_type.false) c.in_ok-argument.ensures.found
    c.in_default.ensures c.in_default-take_sign.ensures (c.in_err-after-2.ensures.found syntax)) found rest q)

pub read_arguments-returns-in_default-take_sign-clause-found : goal.read_arguments-returns-in_default-take_sign-clause-found
read_arguments-returns-in_default-take_sign-clause-found t c =
    unlike_are 64 c.args.level c.args.tokens.now c.arguments.rest.now c.in_ok-argument.behind.now c.in_ok-after-2.after.now (map notation_view c.arguments.arguments.items) (notation_view c.in_ok-argument.argument)
    c.arguments.invariant.0 (sym c.begins_type.ensures ∙ c.if-not-begins_type.false) c.in_ok-argument.ensures.found c.in_default.ensures c.in_default-take_sign.ensures c.in_ok-after-2.ensures.found

pub read_arguments-arguments-preserved : goal.read_arguments-arguments-preserved
read_arguments-arguments-preserved t c = (
  going_next (ArgumentsParse 64 c.args.level) c.args.tokens.now c.arguments.rest.now c.in-Some-take_sign.next.now (given (map notation_view c.arguments.arguments.items)) (given (map notation_view c.push.new.self.items))
      (Some (notation_view c.in_ok-argument.argument)) c.arguments.invariant.0
      (arguments_step 64 c.args.level c.arguments.rest.now c.in_ok-argument.behind.now c.in-Some-take_sign.next.now (notation_view c.in_ok-argument.argument) (sym c.begins_type.ensures ∙ c.if-not-begins_type.false) c.in_ok-argument.ensures.found c.in-Some-take_sign.ensures.0 c.in-Some-take_sign.ensures.1)
      (more_given (map notation_view c.arguments.arguments.items) (map notation_view c.push.new.self.items) (notation_view c.in_ok-argument.argument) (ap (map notation_view) c.in_ok-push.ensures.items ∙ map_join notation_view c.arguments.arguments.items _)),
  omega (arith, c.arguments.invariant.1, c.in_ok-argument.ensures.shorter, c.in-Some-take_sign.ensures.2),
)

pub read_named-returns-in_default-clause-found : goal.read_named-returns-in_default-clause-found
read_named-returns-in_default-clause-found t c =
    subst (λ z. BaseParses 64 c.args.level (starts.reference c.args.home c.args.name) c.args.tokens.now z c.args.tokens.now) (sym (reference_viewed c.args.home c.args.name))
    (reference_read 64 c.args.level c.args.tokens.now c.args.home c.args.name c.in_default.ensures)

pub read_named-returns-in_err-arguments-clause-found : goal.read_named-returns-in_err-arguments-clause-found
read_named-returns-in_err-arguments-clause-found t c =
    let p = err_from_is_err_and c.from_residual.result c.from_residual.ensures.1 in
    rw (p.1, p.2) (λ syntax b rest q.
    instance_none 64 c.args.level (c.args.level + 1) c.args.tokens.now c.in-Some.inner.now c.args.home c.args.name (add-one c.args.level) c.in-Some.ensures.0 c.in-Some.ensures.1 (c.in_err-arguments.ensures.found syntax) b rest q)

pub read_named-returns-clause-found : goal.read_named-returns-clause-found
read_named-returns-clause-found t c =
    subst (λ z. BaseParses 64 c.args.level (starts.reference c.args.home c.args.name) c.args.tokens.now z c.in_ok-arguments.rest.now) (sym c.instance_or.ensures)
    (instance_read 64 c.args.level (c.args.level + 1) c.args.tokens.now c.in-Some.inner.now c.in_ok-arguments.rest.now c.args.home c.args.name _ (add-one c.args.level) c.in-Some.ensures.0 c.in-Some.ensures.1 c.in_ok-arguments.ensures.found)

pub read_base-returns-in-Leaf-clause-found : goal.read_base-returns-in-Leaf-clause-found
read_base-returns-in-Leaf-clause-found t c = leaf_base 64 c.args.level c.args.tokens.now (start_view c.args.start) c.in-Leaf.leaf _ (ap start_view c.in-Leaf.is) (leaf_viewed c.in-Leaf.leaf)

pub read_base-returns-in-Reference-clause-found : goal.read_base-returns-in-Reference-clause-found
read_base-returns-in-Reference-clause-found t c =
    reads_as 64 c.args.level c.args.tokens.now (start_view c.args.start) (starts.reference c.in-Reference.module c.in-Reference.name) c.read_named.result (ap start_view c.in-Reference.is) c.read_named.ensures.found

pub read_base-returns-in_err-numbers-in-Integer-clause-found : goal.read_base-returns-in_err-numbers-in-Integer-clause-found
read_base-returns-in_err-numbers-in-Integer-clause-found t c =
    let p = err_from_is_err_and c.from_residual.result c.from_residual.ensures.1 in
    rw (p.1, p.2) (λ syntax b rest q.
    none_as 64 c.args.level c.args.tokens.now (start_view c.args.start) starts.integer (ap start_view c.in-Integer.is) (integer_none 64 c.args.level c.args.tokens.now (c.in_err-numbers-in-Integer.ensures.found syntax)) b rest q)

pub read_base-returns-in_ok-numbers-in-Integer-clause-found : goal.read_base-returns-in_ok-numbers-in-Integer-clause-found
read_base-returns-in_ok-numbers-in-Integer-clause-found t c =
    base_as 64 c.args.level c.args.tokens.now c.in_ok-numbers-in-Integer.rest.now (start_view c.args.start) starts.integer _ _ (ap start_view c.in-Integer.is) (integer_viewed c.in_ok-numbers-in-Integer.numbers)
    (integer_read 64 c.args.level c.args.tokens.now c.in_ok-numbers-in-Integer.rest.now c.in_ok-numbers-in-Integer.numbers.items c.in_ok-numbers-in-Integer.ensures.found)

pub read_base-returns-in_err-bits-in-BitString-clause-found : goal.read_base-returns-in_err-bits-in-BitString-clause-found
read_base-returns-in_err-bits-in-BitString-clause-found t c =
    let p = err_from_is_err_and c.from_residual-in_err-bits-in-BitString.result c.from_residual-in_err-bits-in-BitString.ensures.1 in
    rw (p.1, p.2) (λ syntax b rest q.
    none_as 64 c.args.level c.args.tokens.now (start_view c.args.start) starts.bit_string (ap start_view c.in-BitString.is) (bit_string_none 64 c.args.level c.args.tokens.now (c.in_err-bits-in-BitString.ensures.found syntax)) b rest q)

pub read_base-returns-in_ok-bits-in-BitString-clause-found : goal.read_base-returns-in_ok-bits-in-BitString-clause-found
read_base-returns-in_ok-bits-in-BitString-clause-found t c =
    base_as 64 c.args.level c.args.tokens.now c.in_ok-bits-in-BitString.rest.now (start_view c.args.start) starts.bit_string _ _ (ap start_view c.in-BitString.is) (bit_string_viewed c.in_ok-bits-in-BitString.bits)
    (bit_string_read 64 c.args.level c.args.tokens.now c.in_ok-bits-in-BitString.rest.now c.in_ok-bits-in-BitString.bits.items c.in_ok-bits-in-BitString.ensures.found)

pub read_base-returns-in-Enumerated-clause-found : goal.read_base-returns-in-Enumerated-clause-found
read_base-returns-in-Enumerated-clause-found t c =
    enumerated_reads 64 c.args.level c.args.tokens.now (start_view c.args.start) c.read_enumerated.result (ap start_view c.in-Enumerated.is) c.read_enumerated.ensures.found

pub read_base-returns-in-Members-clause-found : goal.read_base-returns-in-Members-clause-found
read_base-returns-in-Members-clause-found t c =
    reads_as 64 c.args.level c.args.tokens.now (start_view c.args.start) (starts.members (kind_view c.in-Members.kind)) c.read_members.result (ap start_view c.in-Members.is) c.read_members.ensures.found

pub read_base-returns-in-Choice-clause-found : goal.read_base-returns-in-Choice-clause-found
read_base-returns-in-Choice-clause-found t c =
    reads_as 64 c.args.level c.args.tokens.now (start_view c.args.start) starts.choice c.read_choice.result (ap start_view c.in-Choice.is) c.read_choice.ensures.found

pub read_notation-returns-in_err-tags-clause-found : goal.read_notation-returns-in_err-tags-clause-found
read_notation-returns-in_err-tags-clause-found t c =
    let p = err_from_is_err_and c.from_residual.result c.from_residual.ensures.1 in
    rw (p.1, p.2) (λ syntax n rest q. notation_untagged 64 c.args.level c.args.tokens.now (c.in_err-tags.ensures.found syntax) n rest q)

pub read_notation-returns-in_err-start-clause-found : goal.read_notation-returns-in_err-start-clause-found
read_notation-returns-in_err-start-clause-found t c =
    let p = err_from_is_err_and c.from_residual-in_err-start.result c.from_residual-in_err-start.ensures.1 in
    rw (p.1, p.2) (λ syntax n rest q.
    notation_unstarted 64 c.args.level c.args.tokens.now c.in_ok-tags.named.now c.in_ok-tags.tags.items c.in_ok-tags.ensures.found (c.in_err-start.ensures.found syntax) n rest q)

pub read_notation-returns-in_err-base-clause-found : goal.read_notation-returns-in_err-base-clause-found
read_notation-returns-in_err-base-clause-found t c =
    let p = err_from_is_err_and c.from_residual-in_err-base.result c.from_residual-in_err-base.ensures.1 in
    rw (p.1, p.2) (λ syntax n rest q.
    notation_unbased 64 c.args.level c.args.tokens.now c.in_ok-tags.named.now c.in_ok-start.behind.now c.in_ok-tags.tags.items (start_view c.in_ok-start.start) c.in_ok-tags.ensures.found c.in_ok-start.ensures.found
    (c.in_err-base.ensures.found syntax) n rest q)

pub read_notation-returns-in_err-sizes-clause-found : goal.read_notation-returns-in_err-sizes-clause-found
read_notation-returns-in_err-sizes-clause-found t c =
    let p = err_from_is_err_and c.from_residual-in_err-sizes.result c.from_residual-in_err-sizes.ensures.1 in
    rw (p.1, p.2) (λ syntax n rest q.
    notation_unsized 64 c.args.level c.args.tokens.now c.in_ok-tags.named.now c.in_ok-start.behind.now c.in_ok-base.constrained.now c.in_ok-tags.tags.items (start_view c.in_ok-start.start) (base_view c.in_ok-base.base)
    c.in_ok-tags.ensures.found c.in_ok-start.ensures.found c.in_ok-base.ensures.found (c.in_err-sizes.ensures.found syntax) n rest q)

pub read_notation-returns-clause-found : goal.read_notation-returns-clause-found
read_notation-returns-clause-found t c =
    subst (λ z. NotationParses 64 c.args.level c.args.tokens.now z c.in_ok-sizes.rest.now) (sym (notation_viewed c.in_ok-tags.tags c.in_ok-base.base c.in_ok-sizes.sizes))
    (notation_read 64 c.args.level c.args.tokens.now c.in_ok-tags.named.now c.in_ok-start.behind.now c.in_ok-base.constrained.now c.in_ok-sizes.rest.now c.in_ok-tags.tags.items (start_view c.in_ok-start.start) (base_view c.in_ok-base.base) c.in_ok-sizes.sizes.items
    (omega arith) c.in_ok-tags.ensures.found c.in_ok-start.ensures.found c.in_ok-base.ensures.found c.in_ok-sizes.ensures.found)
