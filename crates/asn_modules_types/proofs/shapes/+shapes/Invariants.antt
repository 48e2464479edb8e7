use Rattle.std.proofs.Common.{◌≡◌, ◌≤◌, ◌+◌, ◌*◌, ◌++◌, drop, map, option_map}
use Rattle.asn_modules_grammar.specs.notation.View.{component_view}
use Rattle.asn_modules_reader.specs.Views.{member_view}
use Rattle.asn_modules_types.specs.Known.{known_parts, parts_view, place_view, roots_view, scope_view}
use Rattle.asn_modules_types.specs.declared.limits.TheConstants.{NAME_LIMIT}
use Rattle.asn_modules_types.proofs.shapes.+shapes.Given as goal

-- Each type, and each name after COMPONENTS OF, takes one of those that may still be made.
abbrev pub decreases-shape_of : goal.decreases-shape_of
decreases-shape_of l = 8 * l.left.now.types

abbrev pub decreases-base_shape_of : goal.decreases-base_shape_of
decreases-base_shape_of l = 8 * l.left.now.types + 7

abbrev pub decreases-instance_shape : goal.decreases-instance_shape
decreases-instance_shape l = 8 * l.left.now.types + 1

abbrev pub decreases-lists_of : goal.decreases-lists_of
decreases-lists_of l = 8 * l.left.now.types + 6

abbrev pub decreases-root_of : goal.decreases-root_of
decreases-root_of l = 8 * l.left.now.types + 5

abbrev pub decreases-parts_of : goal.decreases-parts_of
decreases-parts_of l = 8 * l.left.now.types + 4

abbrev pub decreases-parts_of_entry : goal.decreases-parts_of_entry
decreases-parts_of_entry l = 8 * l.left.now.types + 3

abbrev pub decreases-group_of : goal.decreases-group_of
decreases-group_of l = 8 * l.left.now.types + 2

abbrev pub decreases-part_of : goal.decreases-part_of
decreases-part_of l = 8 * l.left.now.types + 1

abbrev pub decreases-roots_of : goal.decreases-roots_of
decreases-roots_of l = 8 * l.left.now.types

abbrev pub decreases-base_roots_of : goal.decreases-base_roots_of
decreases-base_roots_of l = 8 * l.left.now.types + 6

abbrev pub decreases-type_roots : goal.decreases-type_roots
decreases-type_roots l = 8 * l.left.now.types + 1

-- What is found so far, and what the entries that are left are.
abbrev pub invariant-parts_of-loop-entry : goal.invariant-parts_of-loop-entry
invariant-parts_of-loop-entry l =
    record {
      known : known_parts (roots_view l.depth.names l.scope) (scope_view NAME_LIMIT l.scope) (place_view l.place) (map member_view l.entries) ≡ option_map (λ ys. parts_view l.found ++ ys) (known_parts (roots_view l.depth.names l.scope) (scope_view NAME_LIMIT l.scope) (place_view l.place) (map member_view (drop l.entry-index l.entries)));
      fewer : l.left.types ≤ l.fn.left.types;
    }

abbrev pub invariant-group_of-loop-component : goal.invariant-group_of-loop-component
invariant-group_of-loop-component l =
    record {
      known : known_parts (roots_view l.depth.names l.scope) (scope_view NAME_LIMIT l.scope) (place_view l.place) (map component_view l.components) ≡ option_map (λ ys. parts_view l.found ++ ys) (known_parts (roots_view l.depth.names l.scope) (scope_view NAME_LIMIT l.scope) (place_view l.place) (map component_view (drop l.component-index l.components)));
      fewer : l.left.types ≤ l.fn.left.types;
    }
