use Rattle.std.proofs.Common.{◌≡◌, ◌+◌, ◌-◌, ◌∙◌, ◌∷◌, [], None, Some, ap, arith, map, option_map, string_bytes, sym}
use Rattle.std.proofs.lemmas.List.{length-map}
use Rattle.std.proofs.lemmas.Result.{IfOk-weaker}
use Rattle.asn_model.specs.ShapeView.{kind_view, presence_view, shape_view}
use Rattle.asn_modules_names.specs.lookup.Homes.{home_view}
use Rattle.asn_modules_names.specs.declared.lookup.sort.Sort.TheVariants.{Types}
use Rattle.asn_modules_grammar.specs.notation.Notation.{notations_of}
use Rattle.asn_modules_grammar.specs.notation.View.{component_view, notation_view}
use Rattle.asn_modules_reader.proofs.Viewing.{components_of_viewed, group_viewed, instance_viewed, named_viewed, one_viewed}
use Rattle.asn_modules_reader.specs.Views.{base_view, member_view}
use Rattle.asn_modules_types.specs.Known.{assigned_view, binding_view, known_parts, parts_view, part_view, place_view, roots_view, scope_view, sources_of}
use Rattle.asn_modules_types.specs.Linked.{roots_of, scope_of, takes}
use Rattle.asn_modules_types.specs.Sizes.{sized}
use Rattle.asn_modules_types.specs.Templates.{bindings}
use Rattle.asn_modules_types.specs.Types.{base_shape, between_brackets, notation_roots, outside_brackets}
use Rattle.asn_modules_types.specs.Values.{found_in}
use Rattle.asn_modules_types.specs.declared.limits.TheConstants.{NAME_LIMIT}
use Rattle.asn_modules_types.proofs.Bound.{instance_bound, instance_missing, instance_refused, instance_taken}
use Rattle.asn_modules_types.proofs.Following.{follows_roots, roots_none}
use Rattle.asn_modules_types.proofs.Seen.{included_known, notation_made, part_made, part_missed, roots_made}
use Rattle.asn_modules_types.proofs.Separated.{component_unmarked, group_known, lists_addless, lists_closed, lists_extended, lists_implied, lists_rootless, member_unmarked, parts_end, parts_missed, parts_more, root_frontless, root_made, root_tailless}
use Rattle.asn_modules_types.proofs.shapes.+shapes.Goals as goal
use Rattle.asn_modules_types.proofs.shapes.+shapes.Goals.{lists_of-in-Some-extension+in_ok-added-in-Some-extension+in-Some-2+in_ok-relaxed_parts-in-Some-extension, lists_of-in-None+then-is_extensible, lists_of-in-None+else-is_extensible}

pub shape_of-returns-clause-shape : goal.shape_of-returns-clause-shape
shape_of-returns-clause-shape t c =
    let s = scope_view NAME_LIMIT c.args.scope.now in
    let inner = shape_view c.in_ok-shape.shape in
    notation_made (roots_view c.args.depth.names c.args.scope.now) s c.args.notation.now inner (shape_view c.sized.result) c.in_ok-shape.ensures.shape
    (c.sized.ensures NAME_LIMIT ∙ ap (λ l. sized s l inner) c.as_slice.ensures.value)

pub base_shape_of-returns-in-Instance-clause-shape : goal.base_shape_of-returns-in-Instance-clause-shape
base_shape_of-returns-in-Instance-clause-shape t c =
    let s = scope_view NAME_LIMIT c.args.scope.now in
    let roots = roots_view c.args.depth.names c.args.scope.now in
    let i = c.in-Instance in
    IfOk-weaker c.instance_shape.result _ _
    (λ o e. e ∙ ap (λ l. roots.instance i.module i.name (notations_of (map notation_view l))) c.as_slice.ensures.value ∙ ap (base_shape roots s) (sym (ap base_view i.is ∙ instance_viewed i.module i.name i.arguments))) c.instance_shape.ensures.shape

pub instance_shape-returns-then-scope-clause-shape : goal.instance_shape-returns-then-scope-clause-shape
instance_shape-returns-then-scope-clause-shape t c =
    let s = c.args.scope.now in
    c.no_values.ensures.is ∙ instance_bound (sources_of s.names.now) c.args.depth.names s.number (home_view s.home) s.within c.args.module_name c.args.name (map notation_view c.args.arguments.now) c.if-scope.true

pub instance_shape-returns-in_default-clause-shape : goal.instance_shape-returns-in_default-clause-shape
instance_shape-returns-in_default-clause-shape t c =
    let s = c.args.scope.now in
    c.no_values-in_default.ensures.is ∙ instance_missing (sources_of s.names.now) c.args.depth.names s.number (home_view s.home) s.within c.args.module_name c.args.name (map notation_view c.args.arguments.now) c.if-scope.false c.in_default.ensures

pub instance_shape-returns-then-not-takes-clause-shape : goal.instance_shape-returns-then-not-takes-clause-shape
instance_shape-returns-then-not-takes-clause-shape t c =
    let s = c.args.scope.now in
    let a = assigned_view c.in-Some.template in
    let ns = c.args.arguments.now in
    c.no_values-then-not-takes.ensures.is
    ∙ instance_refused (sources_of s.names.now) c.args.depth.names s.number (home_view s.home) s.within c.args.module_name c.args.name (map notation_view ns) a c.if-scope.false c.in-Some.ensures
    (ap (λ n. takes (sources_of s.names.now) n a) (length-map ns notation_view) ∙ sym c.takes.ensures ∙ c.if-not-takes.true)

pub instance_shape-returns-clause-shape : goal.instance_shape-returns-clause-shape
instance_shape-returns-clause-shape t c =
    let s = c.args.scope.now in
    let ss = sources_of s.names.now in
    let h = home_view s.home in
    let a = assigned_view c.in-Some.template in
    let ns = c.args.arguments.now in
    IfOk-weaker c.shape_of.result _ _
    (λ o e. instance_taken ss c.args.depth.names s.number h s.within c.args.module_name c.args.name (map notation_view ns) a c.if-scope.false c.in-Some.ensures
    (map binding_view c.as_slice.result.now) (notation_view c.notation_of.result.now) (shape_view o)
    (ap (λ n. takes ss n a) (length-map ns notation_view) ∙ sym c.takes.ensures ∙ c.if-not-takes.false)
    (ap (map binding_view) c.as_slice.ensures.value ∙ c.in_ok-bound.ensures ∙ ap (λ l. bindings (found_in Types ss s.number h) l (map notation_view ns)) c.parameters_of-parameters.ensures)
    c.notation_of.ensures e) c.shape_of.ensures.shape

pub lists_of-returns-in_default-clause-lists : goal.lists_of-returns-in_default-clause-lists
lists_of-returns-in_default-clause-lists t c =
    let s = scope_view NAME_LIMIT c.args.scope.now in
    lists_rootless (roots_view c.args.depth.names c.args.scope.now) s (outside_brackets (kind_view c.args.kind)) s.extensible c.args.members.now (sym (ap (option_map parts_view) c.in_default.is) ∙ c.in_ok-root.ensures.root)

pub lists_of-returns-in_default-2-clause-lists : goal.lists_of-returns-in_default-2-clause-lists
lists_of-returns-in_default-2-clause-lists t c =
    let s = scope_view NAME_LIMIT c.args.scope.now in
    let roots = roots_view c.args.depth.names c.args.scope.now in
    lists_addless roots s (outside_brackets (kind_view c.args.kind)) s.extensible c.args.members.now c.in-Some-extension.extension (parts_view c.in-Some.root) c.in-Some-extension.is (sym (ap (option_map parts_view) c.in-Some.is) ∙ c.in_ok-root.ensures.root)
    (sym (ap (option_map parts_view) c.in_default-2.is) ∙ c.in_ok-added-in-Some-extension.ensures.parts ∙ ap (λ l. known_parts roots s (outside_brackets (kind_view c.args.kind)) (map member_view l)) c.as_slice-additions.ensures.value)

pub lists_of-returns-clause-lists : goal.lists_of-returns-clause-lists
lists_of-returns-clause-lists t c =
    let s = scope_view NAME_LIMIT c.args.scope.now in
    let roots = roots_view c.args.depth.names c.args.scope.now in
    let root = parts_view c.in-Some.root in
    let known = sym (ap (option_map parts_view) c.in-Some.is) ∙ c.in_ok-root.ensures.root in
    elim c.match-members.branch [
      | lists_of-in-Some-extension+in_ok-added-in-Some-extension+in-Some-2+in_ok-relaxed_parts-in-Some-extension w ↦
          ap (λ o. Some (root, option_map parts_view o)) w.added-is
          ∙ ap (λ l. Some (root, Some l)) w.in_ok-relaxed_parts-in-Some-extension.ensures
          ∙ sym (lists_extended roots s (outside_brackets (kind_view c.args.kind)) s.extensible c.args.members.now w.in-Some-extension.extension root (parts_view w.in-Some-2.added) w.in-Some-extension.is known
          (sym (ap (option_map parts_view) w.in-Some-2.is) ∙ w.in_ok-added-in-Some-extension.ensures.parts ∙ ap (λ l. known_parts roots s (outside_brackets (kind_view c.args.kind)) (map member_view l)) w.as_slice-additions.ensures.value))
      | lists_of-in-None+then-is_extensible w ↦
          ap (λ o. Some (root, option_map parts_view o)) w.added-is ∙ ap (λ l. Some (root, Some (map part_view l))) w.new.ensures.items
          ∙ sym (lists_implied roots s (outside_brackets (kind_view c.args.kind)) s.extensible c.args.members.now root w.in-None.is known (sym w.is_extensible.ensures ∙ w.if-is_extensible.true))
      | lists_of-in-None+else-is_extensible w ↦
          ap (λ o. Some (root, option_map parts_view o)) w.added-is
          ∙ sym (lists_closed roots s (outside_brackets (kind_view c.args.kind)) s.extensible c.args.members.now root w.in-None.is known (sym w.is_extensible.ensures ∙ w.if-is_extensible.false))
    ]

pub root_of-returns-in_default-clause-root : goal.root_of-returns-in_default-clause-root
root_of-returns-in_default-clause-root t c =
    let s = scope_view NAME_LIMIT c.args.scope.now in
    let roots = roots_view c.args.depth.names c.args.scope.now in
    root_frontless roots s (place_view c.args.place) c.args.members.now
    (sym (ap (option_map parts_view) c.in_default.is) ∙ c.in_ok-root.ensures.parts ∙ ap (λ l. known_parts roots s (place_view c.args.place) (map member_view l)) c.as_slice.ensures.value)

pub root_of-returns-in_default-2-clause-root : goal.root_of-returns-in_default-2-clause-root
root_of-returns-in_default-2-clause-root t c =
    let s = scope_view NAME_LIMIT c.args.scope.now in
    let roots = roots_view c.args.depth.names c.args.scope.now in
    root_tailless roots s (place_view c.args.place) c.args.members.now (parts_view c.in-Some.root)
    (sym (ap (option_map parts_view) c.in-Some.is) ∙ c.in_ok-root.ensures.parts ∙ ap (λ l. known_parts roots s (place_view c.args.place) (map member_view l)) c.as_slice.ensures.value)
    (sym (ap (option_map parts_view) c.in_default-2.is) ∙ c.in_ok-behind.ensures.parts ∙ ap (λ l. known_parts roots s (place_view c.args.place) (map member_view l)) c.tail_of-tail.ensures)

pub root_of-returns-clause-root : goal.root_of-returns-clause-root
root_of-returns-clause-root t c =
    let s = scope_view NAME_LIMIT c.args.scope.now in
    let roots = roots_view c.args.depth.names c.args.scope.now in
    root_made roots s (place_view c.args.place) c.args.members.now c.in-Some.root.items c.in-Some-2.behind.items c.append.new.self.items
    (sym (ap (option_map parts_view) c.in-Some.is) ∙ c.in_ok-root.ensures.parts ∙ ap (λ l. known_parts roots s (place_view c.args.place) (map member_view l)) c.as_slice.ensures.value)
    (sym (ap (option_map parts_view) c.in-Some-2.is) ∙ c.in_ok-behind.ensures.parts ∙ ap (λ l. known_parts roots s (place_view c.args.place) (map member_view l)) c.tail_of-tail.ensures)
    c.in_ok-append.ensures.items

pub parts_of-loop-entry-preserved : goal.parts_of-loop-entry-preserved
parts_of-loop-entry-preserved t c =
    let s = scope_view NAME_LIMIT c.args.scope.now in
    let roots = roots_view c.args.depth.names c.args.scope.now in
    record {
      known =
          parts_more roots s (place_view c.args.place) member_view (member_unmarked roots s (place_view c.args.place)) (known_parts roots s (place_view c.args.place) (map member_view c.args.entries.now)) c.loop-entry.found.items c.in-Some.parts.items _ c.args.entries.now c.loop-entry.entry-index c.entry-item.result
          c.loop-entry-test.true c.entry-item.is c.loop-entry.invariant.known (sym (ap (option_map parts_view) c.in-Some.is) ∙ c.in_ok-parts.ensures.parts) c.in_ok-append-in-Some.ensures.items;
      fewer = omega (arith, c.loop-entry.invariant.fewer, c.in_ok-parts.ensures.fewer);
    }

pub parts_of-returns-in-None-clause-parts : goal.parts_of-returns-in-None-clause-parts
parts_of-returns-in-None-clause-parts t c =
    let s = scope_view NAME_LIMIT c.args.scope.now in
    let roots = roots_view c.args.depth.names c.args.scope.now in
    parts_missed roots s (place_view c.args.place) member_view (member_unmarked roots s (place_view c.args.place)) (known_parts roots s (place_view c.args.place) (map member_view c.args.entries.now)) c.loop-entry.found.items c.args.entries.now c.loop-entry.entry-index c.entry-item.result
    c.loop-entry-test.true c.entry-item.is c.loop-entry.invariant.known (sym (ap (option_map parts_view) c.in-None.is) ∙ c.in_ok-parts.ensures.parts)

pub parts_of-returns-clause-parts : goal.parts_of-returns-clause-parts
parts_of-returns-clause-parts t c =
    let s = scope_view NAME_LIMIT c.args.scope.now in
    let roots = roots_view c.args.depth.names c.args.scope.now in
    parts_end roots s (place_view c.args.place) member_view (member_unmarked roots s (place_view c.args.place)) (known_parts roots s (place_view c.args.place) (map member_view c.args.entries.now)) c.loop-entry.found.items c.args.entries.now c.loop-entry.entry-index
    (omega (arith, c.loop-entry-test.false)) c.loop-entry.invariant.known

pub parts_of_entry-returns-in-One-clause-parts : goal.parts_of_entry-returns-in-One-clause-parts
parts_of_entry-returns-in-One-clause-parts t c =
    let s = scope_view NAME_LIMIT c.args.scope.now in
    let roots = roots_view c.args.depth.names c.args.scope.now in
    let seen = ap member_view c.in-One.is ∙ one_viewed c.in-One.component in
    IfOk-weaker c.part_of.result _ _ (λ o e. e ∙ ap (λ m. known_parts roots s (place_view c.args.place) (m ∷ [])) (sym seen)) c.part_of.ensures.parts

pub parts_of_entry-returns-in-Group-clause-parts : goal.parts_of_entry-returns-in-Group-clause-parts
parts_of_entry-returns-in-Group-clause-parts t c =
    let s = scope_view NAME_LIMIT c.args.scope.now in
    let roots = roots_view c.args.depth.names c.args.scope.now in
    let seen = ap member_view c.in-Group.is ∙ group_viewed c.in-Group.components in
    IfOk-weaker c.group_of.result _ _
    (λ o e. e ∙ ap (λ l. known_parts roots s (between_brackets (place_view c.args.place)) (map component_view l)) c.as_slice.ensures.value ∙ group_known roots s (place_view c.args.place) c.in-Group.components.items
    ∙ ap (λ m. known_parts roots s (place_view c.args.place) (m ∷ [])) (sym seen)) c.group_of.ensures.parts

pub group_of-loop-component-preserved : goal.group_of-loop-component-preserved
group_of-loop-component-preserved t c =
    let s = scope_view NAME_LIMIT c.args.scope.now in
    let roots = roots_view c.args.depth.names c.args.scope.now in
    record {
      known =
          parts_more roots s (place_view c.args.place) component_view (component_unmarked roots s (place_view c.args.place)) (known_parts roots s (place_view c.args.place) (map component_view c.args.components.now)) c.loop-component.found.items c.in-Some.parts.items _ c.args.components.now c.loop-component.component-index c.component-item.result
          c.loop-component-test.true c.component-item.is c.loop-component.invariant.known (sym (ap (option_map parts_view) c.in-Some.is) ∙ c.in_ok-parts.ensures.parts) c.in_ok-append-in-Some.ensures.items;
      fewer = omega (arith, c.loop-component.invariant.fewer, c.in_ok-parts.ensures.fewer);
    }

pub group_of-returns-in-None-clause-parts : goal.group_of-returns-in-None-clause-parts
group_of-returns-in-None-clause-parts t c =
    let s = scope_view NAME_LIMIT c.args.scope.now in
    let roots = roots_view c.args.depth.names c.args.scope.now in
    parts_missed roots s (place_view c.args.place) component_view (component_unmarked roots s (place_view c.args.place)) (known_parts roots s (place_view c.args.place) (map component_view c.args.components.now)) c.loop-component.found.items c.args.components.now c.loop-component.component-index c.component-item.result
    c.loop-component-test.true c.component-item.is c.loop-component.invariant.known (sym (ap (option_map parts_view) c.in-None.is) ∙ c.in_ok-parts.ensures.parts)

pub group_of-returns-clause-parts : goal.group_of-returns-clause-parts
group_of-returns-clause-parts t c =
    let s = scope_view NAME_LIMIT c.args.scope.now in
    let roots = roots_view c.args.depth.names c.args.scope.now in
    parts_end roots s (place_view c.args.place) component_view (component_unmarked roots s (place_view c.args.place)) (known_parts roots s (place_view c.args.place) (map component_view c.args.components.now)) c.loop-component.found.items c.args.components.now c.loop-component.component-index
    (omega (arith, c.loop-component-test.false)) c.loop-component.invariant.known

pub part_of-returns-in_default-clause-parts : goal.part_of-returns-in_default-clause-parts
part_of-returns-in_default-clause-parts t c =
    let s = scope_view NAME_LIMIT c.args.scope.now in
    let roots = roots_view c.args.depth.names c.args.scope.now in
    let n = c.in-Named in
    part_missed roots s (place_view c.args.place) n.name (notation_view n.notation) n.presence (shape_view c.in_ok-stated-in-Named.stated) (shape_view c.in_ok-shape-in-Named.shape) c.in_ok-stated-in-Named.ensures.shape c.in_ok-shape-in-Named.ensures
    (sym (ap (option_map presence_view) c.in_default.is) ∙ c.in_ok-presence-in-Named.ensures)
    ∙ ap (λ m. known_parts roots s (place_view c.args.place) (m ∷ [])) (sym (ap component_view n.is ∙ named_viewed n.name n.notation n.presence))

pub part_of-returns-in_ok-vec-in-Named-clause-parts : goal.part_of-returns-in_ok-vec-in-Named-clause-parts
part_of-returns-in_ok-vec-in-Named-clause-parts t c =
    let s = scope_view NAME_LIMIT c.args.scope.now in
    let roots = roots_view c.args.depth.names c.args.scope.now in
    let n = c.in-Named in
    ap (λ l. Some (map part_view l)) c.in_ok-vec-in-Named.ensures.items
    ∙ part_made roots s (place_view c.args.place) n.name (notation_view n.notation) n.presence (shape_view c.in_ok-stated-in-Named.stated) (shape_view c.in_ok-shape-in-Named.shape) c.in_ok-stated-in-Named.ensures.shape c.in_ok-shape-in-Named.ensures (string_bytes c.in_ok-name-in-Named.name) (presence_view c.in-Some.presence)
    (sym (ap (option_map presence_view) c.in-Some.is) ∙ c.in_ok-presence-in-Named.ensures) c.in_ok-name-in-Named.ensures
    ∙ ap (λ m. known_parts roots s (place_view c.args.place) (m ∷ [])) (sym (ap component_view n.is ∙ named_viewed n.name n.notation n.presence))

pub part_of-returns-in-ComponentsOf-clause-parts : goal.part_of-returns-in-ComponentsOf-clause-parts
part_of-returns-in-ComponentsOf-clause-parts t c =
    let s = scope_view NAME_LIMIT c.args.scope.now in
    let roots = roots_view c.args.depth.names c.args.scope.now in
    let n = c.in-ComponentsOf in
    IfOk-weaker c.roots_of.result _ _
    (λ o e. e ∙ included_known roots s (place_view c.args.place) (notation_view n.notation)
    ∙ ap (λ m. known_parts roots s (place_view c.args.place) (m ∷ [])) (sym (ap component_view n.is ∙ components_of_viewed n.notation))) c.roots_of.ensures.roots

pub roots_of-returns-clause-roots : goal.roots_of-returns-clause-roots
roots_of-returns-clause-roots t c =
    IfOk-weaker c.base_roots_of.result _ _
    (λ o e. roots_made (roots_view c.args.depth.names c.args.scope.now) (scope_view NAME_LIMIT c.args.scope.now) (place_view c.args.place) c.args.notation.now (option_map parts_view o) e) c.base_roots_of.ensures.roots

pub type_roots-returns-then-depth-eq0-clause-roots : goal.type_roots-returns-then-depth-eq0-clause-roots
type_roots-returns-then-depth-eq0-clause-roots t c = sym (roots_none (sources_of c.args.names.now) c.args.depth.names c.args.number (place_view c.args.place) c.if-depth-eq0.true)

pub type_roots-returns-in-Some-clause-roots : goal.type_roots-returns-in-Some-clause-roots
type_roots-returns-in-Some-clause-roots t c =
    let ss = sources_of c.args.names.now in
    let less = c.args.depth.names - 1 in
    let above : c.args.depth.names ≡ less + 1 = omega (arith, c.if-depth-eq0.false) in
    let a = assigned_view c.in-Some.assigned in
    IfOk-weaker c.roots_of.result _ _
    (λ o e. e ∙ ap (notation_roots (roots_of ss less a.number a.home) (scope_of ss NAME_LIMIT a.number a.home) (place_view c.args.place)) c.notation_of-notation.ensures
    ∙ follows_roots ss c.args.depth.names less c.args.number above (map assigned_view c.args.names.now.types.now) c.requires.known.types (place_view c.args.place) (Some a) c.in-Some.ensures.there) c.roots_of.ensures.roots

pub type_roots-returns-in-None-clause-roots : goal.type_roots-returns-in-None-clause-roots
type_roots-returns-in-None-clause-roots t c =
    let less = c.args.depth.names - 1 in
    let above : c.args.depth.names ≡ less + 1 = omega (arith, c.if-depth-eq0.false) in
    follows_roots (sources_of c.args.names.now) c.args.depth.names less c.args.number above (map assigned_view c.args.names.now.types.now) c.requires.known.types (place_view c.args.place) None c.in-None.ensures.there
