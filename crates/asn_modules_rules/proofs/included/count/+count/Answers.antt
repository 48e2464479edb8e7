use Rattle.std.proofs.Common.{◌≡◌, ◌+◌, ◌-◌, ◌∙◌, Some, None, refl, ap, sym, map, arith}
use Rattle.asn_modules_rules.specs.included.Extents.{left_behind, member_extent, members_extent, type_extent}
use Rattle.asn_modules_rules.specs.included.Scopes.{inclusions_in}
use Rattle.asn_modules_rules.specs.included.Sizes.{constraints_size, presence_size, reference_size}
use Rattle.asn_modules_rules.specs.included.Types.{type_view}
use Rattle.asn_modules_rules.specs.declared.included.limits.TheConstants.{INSTANCE_SIZE}
use Rattle.asn_modules_rules.proofs.included.Following.{past_last, past_missing, past_named}
use Rattle.asn_modules_rules.proofs.included.Leaving.{left_size, sized_none, sized_on}
use Rattle.asn_modules_rules.proofs.included.Sizing.{past_none, past_on}
use Rattle.asn_modules_rules.proofs.included.Past.{base_on, included_on, members_none, members_on, past_entries, past_tail, root_none, root_on, type_none, type_on}
use Rattle.asn_model.specs.Shape.{SeqKind}
use Rattle.asn_modules_names.specs.lookup.Homes.{home_view}
use Rattle.asn_modules_grammar.specs.notation.Notation.{choice, enumerated, integer, members, members_of, reference}
use Rattle.asn_modules_grammar.specs.notation.View.{component_view, items_view, members_view, notation_view}
use Rattle.asn_modules_reader.proofs.Viewing.{choice_viewed, components_of_viewed, enumerated_viewed, group_viewed, instance_viewed, integer_viewed, named_viewed, one_viewed, reference_viewed, sequence_viewed, set_viewed}
use Rattle.asn_modules_reader.specs.Views.{base_view, member_view}
use Rattle.asn_modules_rules.specs.sizes.Sizes.{items_size, name_size, numbers_size, past}
use Rattle.asn_modules_rules.proofs.included.count.+count.Goals as goal

pub past_type-returns-in_err-rest : goal.past_type-returns-in_err-rest
past_type-returns-in_err-rest t c = λ ss is.
    let w = c.in_ok-within in
    let u = c.in_ok-typed in
    c.from_residual-in_err-rest.ensures
    ∙ type_none (inclusions_in ss c.args.scope.now) c.args.depth.names w.within.names c.args.notation.now c.args.left u.typed c.args.depth.levels w.within.levels None w.ensures.0 u.ensures.0 u.ensures.1 w.ensures.1 refl
    (c.in_err-rest.ensures ∙ ap (λ l. past u.typed (constraints_size l)) c.deref.ensures.value)

pub past_type-returns : goal.past_type-returns
past_type-returns t c = λ ss is.
    let w = c.in_ok-within in
    let u = c.in_ok-typed in
    type_on (inclusions_in ss c.args.scope.now) c.args.depth.names w.within.names c.args.notation.now c.args.left u.typed c.args.depth.levels w.within.levels c.past_base.result w.ensures.0 u.ensures.0 u.ensures.1 w.ensures.1 c.in_ok-rest.rest
    (c.in_ok-rest.ensures ∙ ap (λ l. past u.typed (constraints_size l)) c.deref.ensures.value) (c.past_base.ensures ss is)

pub past_base-returns-in-Sequence : goal.past_base-returns-in-Sequence
past_base-returns-in-Sequence t c = λ ss is.
    let ms = c.in-Sequence.members in
    base_on (inclusions_in ss c.args.scope.now c.args.depth.names) c.args.base.now (members SeqKind.sequence (members_of (members_view ms))) c.args.left c.args.depth.levels c.past_members.result
    (ap base_view c.in-Sequence.is ∙ sequence_viewed ms) (c.past_members.ensures ss is)

pub past_base-returns-in-Set : goal.past_base-returns-in-Set
past_base-returns-in-Set t c = λ ss is.
    let ms = c.in-Set.members in
    base_on (inclusions_in ss c.args.scope.now c.args.depth.names) c.args.base.now (members SeqKind.set (members_of (members_view ms))) c.args.left c.args.depth.levels c.past_members-in-Set.result
    (ap base_view c.in-Set.is ∙ set_viewed ms) (c.past_members-in-Set.ensures ss is)

pub past_base-returns-in-Choice : goal.past_base-returns-in-Choice
past_base-returns-in-Choice t c = λ ss is.
    let ms = c.in-Choice.alternatives in
    base_on (inclusions_in ss c.args.scope.now c.args.depth.names) c.args.base.now (choice (members_of (members_view ms))) c.args.left c.args.depth.levels c.past_members-in-Choice.result
    (ap base_view c.in-Choice.is ∙ choice_viewed ms) (c.past_members-in-Choice.ensures ss is)

pub past_base-returns-in-Integer : goal.past_base-returns-in-Integer
past_base-returns-in-Integer t c = λ ss is.
    let named = c.in-Integer.named in
    base_on (inclusions_in ss c.args.scope.now c.args.depth.names) c.args.base.now (integer named.items) c.args.left c.args.depth.levels c.take_numbers.result (ap base_view c.in-Integer.is ∙ integer_viewed named)
    (c.take_numbers.ensures ∙ ap (λ l. past c.args.left (numbers_size l)) c.deref-in-Integer.ensures.value ∙ sym (left_size (numbers_size named.items) c.args.left c.args.depth.levels))

pub past_base-returns-in-Enumerated : goal.past_base-returns-in-Enumerated
past_base-returns-in-Enumerated t c = λ ss is.
    let items = c.in-Enumerated.items in
    let added = c.in-Enumerated.added in
    base_on (inclusions_in ss c.args.scope.now c.args.depth.names) c.args.base.now (enumerated (items_view items added)) c.args.left c.args.depth.levels c.take_items.result (ap base_view c.in-Enumerated.is ∙ enumerated_viewed items added)
    (c.take_items.ensures ∙ sym (left_size (items_size (items_view items added)) c.args.left c.args.depth.levels))

pub past_base-returns-in-Reference : goal.past_base-returns-in-Reference
past_base-returns-in-Reference t c = λ ss is.
    let home = c.in-Reference.module in
    let name = c.in-Reference.name in
    base_on (inclusions_in ss c.args.scope.now c.args.depth.names) c.args.base.now (reference home name) c.args.left c.args.depth.levels c.past_reference.result (ap base_view c.in-Reference.is ∙ reference_viewed home name)
    (c.past_reference.ensures ∙ sym (left_size (reference_size home name) c.args.left c.args.depth.levels))

pub past_base-returns-in-Instance : goal.past_base-returns-in-Instance
past_base-returns-in-Instance t c = λ ss is.
    base_on (inclusions_in ss c.args.scope.now c.args.depth.names) c.args.base.now _ c.args.left c.args.depth.levels c.past_instance.result (ap base_view c.in-Instance.is ∙ instance_viewed _ _ _)
    (c.past_instance.ensures ∙ sym (left_size INSTANCE_SIZE c.args.left c.args.depth.levels))

pub past_members-returns-in_err-rest : goal.past_members-returns-in_err-rest
past_members-returns-in_err-rest t c = λ ss is.
    c.from_residual.ensures ∙ members_none (inclusions_in ss c.args.scope.now c.args.depth.names) c.args.depth.levels c.args.members.now c.args.left (c.in_err-rest.ensures ss is)

pub past_members-returns-in-Some : goal.past_members-returns-in-Some
past_members-returns-in-Some t c = λ ss is.
    let f = inclusions_in ss c.args.scope.now c.args.depth.names in
    members_on f c.args.depth.levels c.args.members.now (Some c.in-Some.extension) c.args.left c.in_ok-rest.rest c.past_entries.result (c.in_ok-rest.ensures ss is) c.in-Some.is
    (c.past_entries.ensures ss is ∙ ap (λ l. past_entries f c.args.depth.levels l c.in_ok-rest.rest) c.deref.ensures.value)

pub past_members-returns-in-None : goal.past_members-returns-in-None
past_members-returns-in-None t c = λ ss is.
    members_on (inclusions_in ss c.args.scope.now c.args.depth.names) c.args.depth.levels c.args.members.now None c.args.left c.in_ok-rest.rest (Some c.in_ok-rest.rest) (c.in_ok-rest.ensures ss is) c.in-None.is refl

pub past_component-returns-in_err-named-in-Named : goal.past_component-returns-in_err-named-in-Named
past_component-returns-in_err-named-in-Named t c = λ ss is.
    let f = inclusions_in ss c.args.scope.now c.args.depth.names in
    let n = c.in-Named in
    let seen = ap component_view n.is ∙ named_viewed n.name n.notation n.presence in
    c.from_residual.ensures
    ∙ sized_none (name_size n.name + presence_size n.presence) (type_extent f (notation_view n.notation)) c.args.left c.args.depth.levels (past_none (name_size n.name) (presence_size n.presence) c.args.left c.in_err-named-in-Named.ensures)
    ∙ ap (λ m. left_behind (member_extent f m) c.args.left c.args.depth.levels) (sym seen)

pub past_component-returns-in_err-rest-in-Named : goal.past_component-returns-in_err-rest-in-Named
past_component-returns-in_err-rest-in-Named t c = λ ss is.
    let f = inclusions_in ss c.args.scope.now c.args.depth.names in
    let n = c.in-Named in
    let seen = ap component_view n.is ∙ named_viewed n.name n.notation n.presence in
    c.from_residual-in_err-rest-in-Named.ensures
    ∙ sized_none (name_size n.name + presence_size n.presence) (type_extent f (notation_view n.notation)) c.args.left c.args.depth.levels
    (past_on (name_size n.name) (presence_size n.presence) c.args.left c.in_ok-named-in-Named.named None c.in_ok-named-in-Named.ensures c.in_err-rest-in-Named.ensures)
    ∙ ap (λ m. left_behind (member_extent f m) c.args.left c.args.depth.levels) (sym seen)

pub past_component-returns-in_ok-rest-in-Named : goal.past_component-returns-in_ok-rest-in-Named
past_component-returns-in_ok-rest-in-Named t c = λ ss is.
    let f = inclusions_in ss c.args.scope.now c.args.depth.names in
    let n = c.in-Named in
    let seen = ap component_view n.is ∙ named_viewed n.name n.notation n.presence in
    sized_on (name_size n.name + presence_size n.presence) (type_extent f (notation_view n.notation)) c.args.left c.in_ok-rest-in-Named.rest c.args.depth.levels c.past_type.result
    (past_on (name_size n.name) (presence_size n.presence) c.args.left c.in_ok-named-in-Named.named (Some c.in_ok-rest-in-Named.rest) c.in_ok-named-in-Named.ensures c.in_ok-rest-in-Named.ensures) (c.past_type.ensures ss is)
    ∙ ap (λ m. left_behind (member_extent f m) c.args.left c.args.depth.levels) (sym seen)

pub past_component-returns-in-ComponentsOf : goal.past_component-returns-in-ComponentsOf
past_component-returns-in-ComponentsOf t c = λ ss is.
    let f = inclusions_in ss c.args.scope.now c.args.depth.names in
    let seen = ap component_view c.in-ComponentsOf.is ∙ components_of_viewed c.in-ComponentsOf.notation in
    c.past_included.ensures ss is ∙ ap (λ m. left_behind (member_extent f m) c.args.left c.args.depth.levels) (sym seen)

pub past_entry-returns-in-One : goal.past_entry-returns-in-One
past_entry-returns-in-One t c = λ ss is.
    let f = inclusions_in ss c.args.scope.now c.args.depth.names in
    let seen = ap member_view c.in-One.is ∙ one_viewed c.in-One.component in
    c.past_component.ensures ss is ∙ ap (λ m. left_behind (member_extent f m) c.args.left c.args.depth.levels) (sym seen)

pub past_entry-returns-in-Group : goal.past_entry-returns-in-Group
past_entry-returns-in-Group t c = λ ss is.
    let f = inclusions_in ss c.args.scope.now c.args.depth.names in
    let seen = ap member_view c.in-Group.is ∙ group_viewed c.in-Group.components in
    c.past_components.ensures ss is ∙ ap (λ l. left_behind (members_extent f (members_of (map component_view l))) c.args.left c.args.depth.levels) c.deref.ensures.value
    ∙ ap (λ m. left_behind (member_extent f m) c.args.left c.args.depth.levels) (sym seen)

pub past_inclusion-returns-then-depth-eq0 : goal.past_inclusion-returns-then-depth-eq0
past_inclusion-returns-then-depth-eq0 t c = λ ss is.
    let s = c.args.scope.now in
    past_last ss (map type_view s.types.now) s.number (home_view s.home) c.args.name c.args.left c.args.depth.levels c.args.depth.names c.in-Some.number c.if-depth-eq0.true (c.in-Some.ensures ss is)

pub past_inclusion-returns-in_default-type_at : goal.past_inclusion-returns-in_default-type_at
past_inclusion-returns-in_default-type_at t c = λ ss is.
    let s = c.args.scope.now in
    let less = c.args.depth.names - 1 in
    let above : c.args.depth.names ≡ less + 1 = omega (arith, c.if-depth-eq0.false) in
    past_missing ss (map type_view s.types.now) s.number (home_view s.home) c.args.name c.args.left c.args.depth.levels c.args.depth.names less c.in-Some.number above (c.in-Some.ensures ss is) c.in_default-type_at.ensures

pub past_inclusion-returns : goal.past_inclusion-returns
past_inclusion-returns t c = λ ss is.
    let s = c.args.scope.now in
    let less = c.args.depth.names - 1 in
    let above : c.args.depth.names ≡ less + 1 = omega (arith, c.if-depth-eq0.false) in
    c.past_included.ensures ss is
    ∙ past_named ss (map type_view s.types.now) s.number (home_view s.home) c.args.name c.args.left c.args.depth.levels c.args.depth.names less c.in-Some.number (type_view c.in-Some-type_at.named.now) above (c.in-Some.ensures ss is) c.in-Some-type_at.ensures

pub past_root-returns-in_err-rest : goal.past_root-returns-in_err-rest
past_root-returns-in_err-rest t c = λ ss is.
    let f = inclusions_in ss c.args.scope.now c.args.depth.names in
    c.from_residual.ensures ∙ root_none f c.args.depth.levels c.args.members.now c.args.left (c.in_err-rest.ensures ss is ∙ ap (λ l. past_entries f c.args.depth.levels l c.args.left) c.deref.ensures.value)

pub past_root-returns-in_default : goal.past_root-returns-in_default
past_root-returns-in_default t c = λ ss is.
    let f = inclusions_in ss c.args.scope.now c.args.depth.names in
    root_on f c.args.depth.levels c.args.members.now None c.args.left c.in_ok-rest.rest (Some c.in_ok-rest.rest) (c.in_ok-rest.ensures ss is ∙ ap (λ l. past_entries f c.args.depth.levels l c.args.left) c.deref.ensures.value) c.in_default.is refl

pub past_root-returns-in-Some-tail : goal.past_root-returns-in-Some-tail
past_root-returns-in-Some-tail t c = λ ss is.
    let f = inclusions_in ss c.args.scope.now c.args.depth.names in
    root_on f c.args.depth.levels c.args.members.now (Some c.in-Some.extension) c.args.left c.in_ok-rest.rest c.past_entries-in-Some-tail.result (c.in_ok-rest.ensures ss is ∙ ap (λ l. past_entries f c.args.depth.levels l c.args.left) c.deref.ensures.value) c.in-Some.is
    (c.past_entries-in-Some-tail.ensures ss is ∙ ap (λ l. past_entries f c.args.depth.levels l c.in_ok-rest.rest) c.deref-in-Some-tail.ensures.value ∙ ap (λ x. past_tail f c.args.depth.levels x c.in_ok-rest.rest) (sym c.in-Some-tail.is))

pub past_root-returns-in-None : goal.past_root-returns-in-None
past_root-returns-in-None t c = λ ss is.
    let f = inclusions_in ss c.args.scope.now c.args.depth.names in
    root_on f c.args.depth.levels c.args.members.now (Some c.in-Some.extension) c.args.left c.in_ok-rest.rest (Some c.in_ok-rest.rest) (c.in_ok-rest.ensures ss is ∙ ap (λ l. past_entries f c.args.depth.levels l c.args.left) c.deref.ensures.value) c.in-Some.is
    (ap (λ x. past_tail f c.args.depth.levels x c.in_ok-rest.rest) (sym c.in-None.is))

pub past_included-returns-in-Sequence : goal.past_included-returns-in-Sequence
past_included-returns-in-Sequence t c = λ ss is.
    let w = c.in_ok-within in
    included_on (inclusions_in ss c.args.scope.now) c.args.depth.names w.within.names c.args.notation.now c.args.left c.in_ok-rest.rest c.args.depth.levels w.within.levels c.past_root.result w.ensures.0 c.in_ok-rest.ensures.0 c.in_ok-rest.ensures.1 w.ensures.1
    (members SeqKind.sequence (members_of (members_view c.in-Sequence.members))) (ap base_view c.in-Sequence.is ∙ sequence_viewed c.in-Sequence.members) (c.past_root.ensures ss is)

pub past_included-returns-in-Set : goal.past_included-returns-in-Set
past_included-returns-in-Set t c = λ ss is.
    let w = c.in_ok-within in
    included_on (inclusions_in ss c.args.scope.now) c.args.depth.names w.within.names c.args.notation.now c.args.left c.in_ok-rest.rest c.args.depth.levels w.within.levels c.past_root-in-Set.result w.ensures.0 c.in_ok-rest.ensures.0 c.in_ok-rest.ensures.1 w.ensures.1
    (members SeqKind.set (members_of (members_view c.in-Set.members))) (ap base_view c.in-Set.is ∙ set_viewed c.in-Set.members) (c.past_root-in-Set.ensures ss is)
