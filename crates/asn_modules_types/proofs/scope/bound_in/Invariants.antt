use Rattle.std.proofs.Common.{◌≡◌, drop, map}
use Rattle.asn_modules_types.specs.Known.{binding_view}
use Rattle.asn_modules_types.specs.Templates.{bound}
use Rattle.asn_modules_types.proofs.scope.bound_in.Given as goal

abbrev pub invariant-loop-binding : goal.invariant-loop-binding
invariant-loop-binding l = bound l.text (map binding_view l.bindings) l.fn.name ≡ bound l.text (map binding_view (drop l.binding-index l.bindings)) l.fn.name
