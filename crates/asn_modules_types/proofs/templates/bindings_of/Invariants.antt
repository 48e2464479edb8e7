use Rattle.std.proofs.Common.{◌≡◌, ◌++◌, length, map}
use Rattle.asn_modules_names.specs.lookup.Homes.{home_view}
use Rattle.asn_modules_names.specs.declared.lookup.sort.Sort.TheVariants.{Types}
use Rattle.asn_modules_grammar.specs.notation.View.{notation_view}
use Rattle.asn_modules_types.specs.Known.{binding_view, sources_of}
use Rattle.asn_modules_types.specs.Templates.{bindings}
use Rattle.asn_modules_types.specs.Values.{found_in}
use Rattle.asn_modules_types.proofs.templates.bindings_of.Given as goal

abbrev pub invariant-bindings : goal.invariant-bindings
invariant-bindings l =
    bindings (found_in Types (sources_of l.scope.names.now) l.scope.number (home_view l.scope.home)) l.parameters (map notation_view l.arguments)
    ≡ map binding_view l.bound.items ++ bindings (found_in Types (sources_of l.scope.names.now) l.scope.number (home_view l.scope.home)) l.unbound (map notation_view l.actual)

abbrev pub decreases-bindings : goal.decreases-bindings
decreases-bindings l = length l.unbound
